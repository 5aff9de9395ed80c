-- The units so far have no records.
use Rattle.std.proofs.Common.{◌≡◌, take}
use Rattle.record_table.specs.Table.{without}
use Rattle.record_table.proofs.record_map.RecordMap.remove.Given as goal

abbrev pub invariant-loop-unit : goal.invariant-loop-unit
invariant-loop-unit g l = l.self ≡ without (take l.unit-index l.units) l.fn.self
