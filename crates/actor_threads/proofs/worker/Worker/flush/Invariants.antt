-- What is sent leaves each way out as it is seen.
use Rattle.std.proofs.Common.{◌≡◌}
use Rattle.actor_threads.proofs.worker.Worker.flush.Given as goal

abbrev pub invariant-loop-out : goal.invariant-loop-out
invariant-loop-out g l = l.out-items ≡ l.fn.self.outs
