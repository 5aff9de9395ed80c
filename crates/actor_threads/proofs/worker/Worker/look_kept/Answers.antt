-- One more port is quiet, and in the end each.
use Rattle.std.proofs.Common.{subst, ◌∙◌, below_more, arith}
use Rattle.actor_threads.specs.Work.{IsQuietAt}
use Rattle.actor_threads.proofs.worker.Worker.look_kept.Goals as goal

pub loop-port-preserved : goal.loop-port-preserved
loop-port-preserved g c = record {
  same = c.in_default.ensures.found ∙ c.loop-port.invariant.same;
  few = c.loop-port.invariant.few;
  end = c.loop-port.invariant.end;
  quiet = below_more _ _ c.loop-port.invariant.quiet
      (subst (λ v. IsQuietAt g.A.Actor.is_ready v c.loop-port.port) c.loop-port.invariant.same c.in_default.ensures.quiet);
}

pub returns-clause-quiet : goal.returns-clause-quiet
returns-clause-quiet g c = λ p h. c.loop-port.invariant.quiet p (omega (arith, c.loop-port.invariant.end, c.loop-port-test.false))
