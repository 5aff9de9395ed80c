-- A turn with steps, one that found nothing, and one that ran out of memory go on with the round.
use Rattle.std.proofs.Common.{refl, arith}
use Rattle.actor_threads.proofs.GroupLemmas.{steps_on, looks_on, fails}
use Rattle.actor_threads.proofs.groups.Member.turn.Goals as goal

pub returns-in-Ok-eq0 : goal.returns-in-Ok-eq0
returns-in-Ok-eq0 g c =
    let none = c.in-Ok-eq0.field-0-test in
    let count = c.in-Ok-eq0.ensures.count in
    looks_on g.A.Actor.is_ready g.A.Actor.stepped _ _ c.if-self.false c.in-Ok-eq0.ensures.worked (omega (arith, count, none))
    (c.in-Ok-eq0.ensures.moves none) refl refl

pub returns-in-Ok : goal.returns-in-Ok
returns-in-Ok g c = steps_on g.A.Actor.is_ready g.A.Actor.stepped _ _ _ c.if-self.false c.in-Ok.ensures.worked c.in-Ok.ensures.count c.in-Ok.steps-test.1 refl

pub returns-in-Err : goal.returns-in-Err
returns-in-Err g c = fails g.A.Actor.is_ready g.A.Actor.stepped _ _ refl
