-- The records of the units so far are copied.
use Rattle.std.proofs.Common.{◌≡◌, take}
use Rattle.std.specs.FinMap as finite
use Rattle.record_table.specs.Table.{is_among}
use Rattle.record_table.proofs.record_map.RecordMap.copied.Given as goal

abbrev pub invariant-loop-unit : goal.invariant-loop-unit
invariant-loop-unit g l = l.copies ≡ finite.retain_keys l.self (is_among (take l.unit-index l.units))
