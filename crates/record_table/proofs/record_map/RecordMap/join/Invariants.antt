-- What is left to take in, taken into what is held by now, gives what all gives.
use Rattle.std.proofs.Common.{◌≡◌, vec_len, true}
use Rattle.std.specs.List.{AllZip, IsDistinct}
use Rattle.std.specs.Map.{keys_of}
use Rattle.std.specs.FinMap as finite
use Rattle.unit_map.specs.Entries.{IsMap, is_place_of}
use Rattle.record_table.specs.Table.{union_of}
use Rattle.record_table.specs.Entries.{map_of}
use Rattle.record_table.specs.Keeping.{choice}
use Rattle.record_table.proofs.UnitOrder.{unit_eq}
use Rattle.record_table.proofs.record_map.RecordMap.join.Given as goal

abbrev pub invariant-loop-place : goal.invariant-loop-place
invariant-loop-place g l = record {
  held : IsMap unit_eq l.self-inside.records;
  left : IsDistinct unit_eq (keys_of l.entries.items);
  found : AllZip (λ u place. is_place_of unit_eq l.self-inside.records place u ≡ true) (keys_of l.entries.items) l.places.items;
  count : l.self-inside.count ≡ finite.len (map_of l.self-inside.records);
  whole : union_of (choice g.F.Function.semantics l.keep) (map_of l.self-inside.records) (map_of l.entries.items)
      ≡ union_of (choice g.F.Function.semantics l.keep) l.fn.self (map_of l.fn.entries.items);
}

abbrev pub decreases-loop-place : goal.decreases-loop-place
decreases-loop-place g l = vec_len l.places
