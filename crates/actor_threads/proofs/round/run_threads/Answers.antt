-- The first round, and one more, are joined to the run so far.
use Rattle.std.proofs.Common.{IfOk, sym, ◌∙◌, ap, subst}
use Rattle.actor_threads.specs.Round.{after_log, IsRound, MergesMore}
use Rattle.actor_threads.proofs.RoundsJoined.{first_joined, more_joined}
use Rattle.actor_threads.proofs.round.run_threads.Goals as goal

pub loop-init : goal.loop-init
loop-init g c =
    first_joined g.A.Actor.is_ready g.A.Actor.stepped c.args.world c.in_ok-stage.stage c.open-merged.result c.in_ok-round.round c.open-merged.ensures.0
    (c.in_ok-stage.ensures ∙ ap (λ l. after_log l.items c.in_ok-stage.stage) (sym c.open-merged.ensures.1)) c.in_ok-round.ensures

pub loop-preserved : goal.loop-preserved
loop-preserved g c =
    let ready = g.A.Actor.is_ready in
    let step = g.A.Actor.stepped in
    let all = subst (λ r. IfOk r (λ m. MergesMore c.loop.round.unmerged c.loop.merged m)) c.in_ok-merged.was c.beside-all.ensures.merged in
    let next = subst (λ r. IfOk r (λ n. IsRound ready step c.loop.round.stage n)) c.in_ok-round-2.was c.beside-all.ensures.round in
    more_joined ready step c.args.world c.loop.merged c.in_ok-merged.merged c.loop.round c.loop.invariant all c.in_ok-round-2.round next
