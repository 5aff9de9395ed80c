-- The messages so far were put after the list.
use Rattle.std.proofs.Common.{◌≡◌, ◌++◌}
use Rattle.actor_net.specs.Histories.{messages}
use Rattle.actor_threads.proofs.ways.append.Given as goal

abbrev pub invariant-loop-next : goal.invariant-loop-next
invariant-loop-next g l = l.list ≡ l.fn.list ++ messages l.yielded
