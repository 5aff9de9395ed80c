-- A batch is drawn, of which the first message may be used.
use Rattle.std.proofs.Common.{◌≡◌, ◌<◌, ◌∷◌, ◌++◌, MatchOption, ap, ◌∙◌, subst}
use Rattle.actor_threads.specs.Ways.{unpacked, with_stamp_0, last_clock}
use Rattle.actor_threads.proofs.BatchLemmas.{unpacked_more, none_from_before}
use Rattle.actor_threads.proofs.WayInLemmas.{drew_from}
use Rattle.actor_threads.proofs.ways.WayIn.next_of_end.Goals as goal

pub returns : goal.returns
returns g c =
    let none = ap (λ w. w.kept) c.self.view_is ∙ c.requires in
    let batch = c.replace-used.ensures.after ∙ c.from_vec.ensures ∙ c.into_vec.ensures in
    let left = c.next_of.new.batch in
    rw (← c.self.view_is) (drew_from _ _ c.next_of.result c.in-Some.batch left
    (ap unpacked c.in-Some.ensures.taken ∙ unpacked_more c.self.inside.end.done c.in-Some.batch) none c.in-Some.ensures.same.0
    (ap (λ l. with_stamp_0 l ++ left) (none_from_before _ _ none))
    (subst (λ l. MatchOption c.next_of.result (left ≡ l) (λ x. (x.clock < last_clock) × (l ≡ x ∷ left))) batch c.next_of.ensures.some))
