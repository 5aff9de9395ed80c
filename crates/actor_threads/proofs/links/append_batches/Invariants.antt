-- The messages of the batches so far were put after the list.
use Rattle.std.proofs.Common.{◌≡◌, ◌++◌}
use Rattle.actor_net.specs.Histories.{messages}
use Rattle.actor_threads.specs.Ways.{unpacked}
use Rattle.actor_threads.proofs.links.append_batches.Given as goal

abbrev pub invariant-loop-batch : goal.invariant-loop-batch
invariant-loop-batch g l = l.list ≡ l.fn.list ++ messages (unpacked l.yielded)
