-- Nothing has changed, and the ports so far are quiet.
use Rattle.std.proofs.Common.{◌≡◌, ◌<◌, ℕ, length}
use Rattle.actor_threads.specs.Work.{IsQuietAt}
use Rattle.actor_threads.proofs.worker.Worker.look_kept.Given as goal

abbrev pub invariant-loop-port : goal.invariant-loop-port
invariant-loop-port g l = record {
  same : l.self ≡ l.fn.self;
  few : length l.fn.self.ins < 256;
  end : l.port-end ≡ length l.fn.self.ins;
  quiet : (p : ℕ) → p < l.port → IsQuietAt g.A.Actor.is_ready l.fn.self p;
}
