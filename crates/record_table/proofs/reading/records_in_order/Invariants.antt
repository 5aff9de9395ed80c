-- The entries so far are the records of the chunks so far, and no later unit is among them.
use Rattle.std.proofs.Common.{take}
use Rattle.record_table.proofs.OrderedChunks.{InOrder}
use Rattle.record_table.proofs.reading.records_in_order.Given as goal

abbrev pub invariant-loop-chunk : goal.invariant-loop-chunk
invariant-loop-chunk g l = InOrder g.F.Function.semantics (take l.chunk-index l.chunks) l.entries.items l.last
