-- The records so far have their chunks.
use Rattle.std.proofs.Common.{◌≡◌, map, take}
use Rattle.state_chunk.specs.Format.{record_chunk}
use Rattle.record_table.proofs.table.Table.select.Given as goal

abbrev pub invariant-loop-unit : goal.invariant-loop-unit
invariant-loop-unit g l = l.chunks ≡ map (λ e. record_chunk g.F.Function.semantics e.0 e.1.now) (take l.unit-index l.unit-items)
