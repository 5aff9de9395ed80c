-- The chunks so far and those that are left are together all.
use Rattle.std.proofs.Common.{◌≡◌, ◌≤◌, ◌-◌, ◌++◌, length}
use Rattle.instance_worker.specs.declared.pieces.TheConstants.{MOST_CHUNKS}
use Rattle.instance_worker.proofs.pieces.next_chunks.Given as goal

abbrev pub invariant-loop-left : goal.invariant-loop-left
invariant-loop-left l = record {
  most : length l.chunks ≤ MOST_CHUNKS;
  whole : l.chunks ++ l.left.items ≡ l.initial.left.items;
}

abbrev pub decreases-loop-left : goal.decreases-loop-left
decreases-loop-left l = MOST_CHUNKS - length l.chunks
