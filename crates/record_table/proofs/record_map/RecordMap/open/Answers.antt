-- No entries are the empty map.
use Rattle.std.proofs.Common.{refl, sym}
use Rattle.std.specs.FinMap.{len-empty}
use Rattle.nf_function.specs.Units.{unit_cmp}
use Rattle.record_table.specs.Entries.{map_of}
use Rattle.record_table.proofs.record_map.RecordMap.open.Goals as goal

pub invariant_of-result : goal.invariant_of-result
unfolding map_of
invariant_of-result g c = rw c.open.ensures (sym (len-empty unit_cmp _))

pub returns : goal.returns
unfolding map_of
returns g c = rw c.open.ensures refl
