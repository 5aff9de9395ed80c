-- What a look-up finds among the entries is what the map has.
use Rattle.std.proofs.Common.{◌∙◌, sym, ap}
use Rattle.std.specs.FinMap as finite
use Rattle.record_table.proofs.EntryMaps.{get-map_of}
use Rattle.record_table.proofs.record_map.RecordMap.get.Goals as goal

pub returns : goal.returns
returns g c =
    c.get.ensures ∙ sym (get-map_of c.self.inside.records c.args.unit.now) ∙ ap (λ m. finite.get m c.args.unit.now) c.self.view_is
