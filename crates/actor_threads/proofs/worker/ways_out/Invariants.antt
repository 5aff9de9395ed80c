-- Each send end so far has its way out.
use Rattle.std.proofs.Common.{◌≡◌, map}
use Rattle.actor_threads.specs.Work.{all_out}
use Rattle.actor_threads.proofs.worker.ways_out.Given as goal

abbrev pub invariant-loop-send : goal.invariant-loop-send
invariant-loop-send g l = l.ways.items ≡ map all_out l.yielded
