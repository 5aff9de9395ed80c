-- A look that found nothing, and one more step, go after the steps so far.
use Rattle.std.proofs.Common.{Ok, ap, ◌∙◌, arith}
use Rattle.actor_threads.proofs.WorkerSteps.{looked, did, longer, worked_then}
use Rattle.actor_threads.proofs.worker.Worker.turn.Goals as goal

pub returns-then-not-branch-clause-worked : goal.returns-then-not-branch-clause-worked
returns-then-not-branch-clause-worked g c = looked g.A.Actor.is_ready g.A.Actor.stepped _ _ (c.act.ensures.idle (c.in_ok-act.was ∙ ap Ok c.if-not-branch.true))

pub loop-done-init : goal.loop-done-init
loop-done-init g c =
    let d = c.act.ensures.stepped (c.in_ok-act.was ∙ ap Ok c.if-not-branch.false) in
    record {
      worked = did g.A.Actor.is_ready g.A.Actor.stepped _ d.found _ d.port d.took d.looks d.acts;
      count = longer g.A.Actor.is_ready g.A.Actor.stepped _ d.found _ d.port d.took d.looks d.acts;
      some = omega arith;
    }

pub returns-then-not-branch-2-clause-worked : goal.returns-then-not-branch-2-clause-worked
returns-then-not-branch-2-clause-worked g c =
    worked_then g.A.Actor.is_ready g.A.Actor.stepped _ _ _ c.loop-done.invariant.worked
    (looked g.A.Actor.is_ready g.A.Actor.stepped _ _ (c.act-in-loop-done.ensures.idle (c.in_ok-act-2.was ∙ ap Ok c.if-not-branch-2.true)))

pub loop-done-preserved : goal.loop-done-preserved
loop-done-preserved g c =
    let d = c.act-in-loop-done.ensures.stepped (c.in_ok-act-2.was ∙ ap Ok c.if-not-branch-2.false) in
    let more = longer g.A.Actor.is_ready g.A.Actor.stepped _ d.found _ d.port d.took d.looks d.acts in
    record {
      worked = worked_then g.A.Actor.is_ready g.A.Actor.stepped _ _ _ c.loop-done.invariant.worked
          (did g.A.Actor.is_ready g.A.Actor.stepped _ d.found _ d.port d.took d.looks d.acts);
      count = omega (arith, more, c.loop-done.invariant.count);
      some = omega (arith, c.loop-done.invariant.some);
    }
