-- What is found at the input is its first item, for which the node is ready.
use Rattle.std.proofs.Common.{ap, sym, ◌∙◌, subst, ◌<◌, length}
use Rattle.actor_threads.proofs.LookLemmas.{kept_at, ready_first, same_element}
use Rattle.actor_threads.proofs.worker.Worker.next_item.Goals as goal

pub returns-clause-found : goal.returns-clause-found
returns-clause-found g c =
    let one = same_element _ 0 _ _ c.index_mut.ensures.value c.index.ensures (subst (λ v. 0 < length v.ins) (sym c.self.view_is) c.requires.1) in
    kept_at g.A.Actor.is_ready c.self.view_is 0 _ c.next_kept.new.self c.index_mut.ensures.value c.requires.1 c.next_kept.result
    (λ x rest k n p. ready_first g.A.Actor.is_ready c.self.inside.node _ _ _ _ (ap (λ v. v.kept) one ∙ c.in-Some.ensures.2)
    (sym c.ready.ensures ∙ c.if-not-ready.false) x rest k) c.next_kept.ensures.some c.next_kept.ensures.same
