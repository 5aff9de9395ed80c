-- No key's record changes, and so the map is the same.
use Rattle.std.proofs.Common.{◌∙◌, sym, ap}
use Rattle.std.specs.FinMap as finite
use Rattle.record_table.proofs.EntryMaps.{map_of-same}
use Rattle.record_table.proofs.record_map.RecordMap.drop_empty.Goals as goal

pub invariant_of-self : goal.invariant_of-self
invariant_of-self g c =
    c.self.invariant ∙ sym (ap finite.len (map_of-same c.self.inside.records c.drop_empty-dropped.new.self c.drop_empty-dropped.ensures.same))

pub returns : goal.returns
returns g c = map_of-same c.self.inside.records c.drop_empty-dropped.new.self c.drop_empty-dropped.ensures.same ∙ c.self.view_is
