-- Steps between code and definition, which nobody has to believe: the finite map of the entries that stand in memory.
use Rattle.std.specs.Prelude.{◌≡◌, [], ◌∷◌}
use Rattle.std.specs.List.{IsDistinct}
use Rattle.std.specs.Map.{keys_of}
use Rattle.std.specs.FinMap as finite
use Rattle.nf_function.specs.contracts.unit.UnitPartialEq.TheImpl.{eq-value}
use Rattle.nf_function.specs.declared.unit.Unit as units
use Rattle.unit_map.specs.Entries.{Entries}
use Rattle.record_table.specs.Table.{Records, with_kept}

-- the records of the first entries of their units
unfoldable pub map_of : {R : Type 0} → Entries units.Unit R → Records R
map_of [] = finite.empty
map_of (e ∷ entries) = with_kept (map_of entries) e.0 e.1

-- the entries of a finite map: each unit stands once
pub record AreEntriesOf {R : Type 0} (entries : Entries units.Unit R) (records : Records R) : Type 0 where
  pub distinct : IsDistinct eq-value.it (keys_of entries)
  pub map : map_of entries ≡ records
