-- The members that go on alone and those that go on in groups are all members, each in its round.
use Rattle.std.proofs.Common.{◌≡◌, sym, ◌∙◌, ap, subst, ◌+◌, ◌++◌, length, length-append}
use Rattle.std.proofs.lemmas.List.{take-append-drop}
use Rattle.actor_threads.specs.Groups.{AllInRound}
use Rattle.actor_threads.proofs.GroupLemmas.{all_in_round}
use Rattle.actor_threads.proofs.groups.run_all.Goals as goal

pub returns-clause-round : goal.returns-clause-round
returns-clause-round g c =
    let first = c.split_off.new.self.items in
    let rest = c.in_ok-rest.rest.items in
    let parts : c.args.first.items ≡ c.split_off.new.self.items ++ c.in_ok-rest.rest.items = sym (take-append-drop c.alone-alone.result _)
    ∙ (λ i. sym c.in_ok-rest.ensures.items i ++ sym c.in_ok-rest.ensures.tail i) in
    subst (λ l. AllInRound g.A.Actor.is_ready g.A.Actor.stepped c.args.first.items l) (sym c.in_ok-append.ensures.items)
    (all_in_round g.A.Actor.is_ready g.A.Actor.stepped c.args.first.items first rest _ _ parts c.requires.begin c.join-first.ensures.first.0
    c.join-first.ensures.first.1 c.join-first.ensures.second.1)

pub returns-clause-count : goal.returns-clause-count
returns-clause-count g c =
    let parts : c.args.first.items ≡ c.split_off.new.self.items ++ c.in_ok-rest.rest.items = sym (take-append-drop c.alone-alone.result _)
    ∙ (λ i. sym c.in_ok-rest.ensures.items i ++ sym c.in_ok-rest.ensures.tail i) in
    ap length c.in_ok-append.ensures.items ∙ length-append _ _ ∙ (λ i. c.join-first.ensures.first.0 i + c.join-first.ensures.second.0 i)
    ∙ sym (length-append _ _) ∙ sym (ap length parts)
