-- The entries are those that the finite map is read from.
use Rattle.std.proofs.Common.{ap, ◌∙◌}
use Rattle.record_table.specs.Entries.{map_of}
use Rattle.record_table.proofs.record_map.RecordMap.into_entries.Goals as goal

pub returns : goal.returns
returns g c = record {
  distinct = rw c.into_entries.ensures.all c.into_entries.ensures.map.distinct;
  map = ap map_of c.into_entries.ensures.all ∙ c.self.view_is;
}
