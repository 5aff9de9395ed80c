-- Of all chunks the first are taken, and the others left.
use Rattle.std.proofs.Common.{◌≡◌, ap, arith, length}
use Rattle.instance_worker.specs.declared.pieces.TheConstants.{MOST_CHUNKS}
use Rattle.instance_worker.proofs.PieceLemmas.{front_taken, rest_dropped}
use Rattle.instance_worker.proofs.pieces.next_chunks.Goals as goal
use Rattle.instance_worker.proofs.pieces.next_chunks.Goals.{After-loop-left}

full : (c : After-loop-left) → length c.loop-left.chunks ≡ MOST_CHUNKS
full c = omega (arith, c.loop-left.invariant.most, c.loop-left-test.false, ap length c.items.ensures)

pub returns-clause-chunks : goal.returns-clause-chunks
returns-clause-chunks c = front_taken c.loop-left.chunks c.loop-left.left.items _ MOST_CHUNKS (full c) c.loop-left.invariant.whole

pub returns-clause-left : goal.returns-clause-left
returns-clause-left c = rest_dropped c.loop-left.chunks c.loop-left.left.items _ MOST_CHUNKS (full c) c.loop-left.invariant.whole
