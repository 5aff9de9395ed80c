-- The steps so far are steps of the worker, and there is one at least.
use Rattle.std.proofs.Common.{◌≡◌, ◌≤◌, ◌+◌, length}
use Rattle.actor_threads.specs.Work.{Worked}
use Rattle.actor_threads.proofs.worker.Worker.turn.Given as goal

abbrev pub invariant-loop-done : goal.invariant-loop-done
invariant-loop-done g l = record {
  worked : Worked g.A.Actor.is_ready g.A.Actor.stepped l.fn.self l.self;
  count : length l.self.steps ≡ length l.fn.self.steps + l.done;
  some : 1 ≤ l.done;
}
