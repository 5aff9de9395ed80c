-- The units so far are listed.
use Rattle.std.proofs.Common.{◌≡◌, map, take}
use Rattle.record_table.proofs.table.Table.units.Given as goal

abbrev pub invariant-loop-entry : goal.invariant-loop-entry
invariant-loop-entry g l = l.units ≡ map (λ e. e.0) (take l.entry-index l.entry-items)
