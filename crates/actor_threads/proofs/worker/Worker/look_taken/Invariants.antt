-- The looks so far found nothing.
use Rattle.std.proofs.Common.{◌≡◌, ◌<◌, length}
use Rattle.actor_threads.specs.Work.{Idled}
use Rattle.actor_threads.proofs.worker.Worker.look_taken.Given as goal

abbrev pub invariant-loop : goal.invariant-loop
invariant-loop g l = record {
  idled : Idled l.fn.self l.self;
  few : length l.fn.self.ins < 256;
  end : l.end ≡ length l.fn.self.ins;
}
