-- The chunks of the pieces so far stand in the list.
use Rattle.std.proofs.Common.{◌≡◌}
use Rattle.move_op.specs.Move.{chunks_of}
use Rattle.move_op.proofs.pieces.Pieces.into_chunks.Given as goal

abbrev pub invariant-loop-piece : goal.invariant-loop-piece
invariant-loop-piece l = l.all.items ≡ chunks_of l.yielded
