-- The ways so far, and those of the take ends that are left, are the ways of all.
use Rattle.std.proofs.Common.{◌≡◌, ◌++◌, length, deque_len}
use Rattle.actor_threads.specs.Work.{all_in}
use Rattle.actor_threads.proofs.worker.ways_in.Given as goal

abbrev pub invariant-loop-take : goal.invariant-loop-take
invariant-loop-take g l = record {
  count : length l.kept.items ≡ length l.takes.items;
  ways : l.ways.items ++ all_in l.takes.items l.kept.items ≡ all_in l.fn.takes.items l.fn.kept.items;
}

abbrev pub decreases-loop-take : goal.decreases-loop-take
decreases-loop-take g l = deque_len l.takes
