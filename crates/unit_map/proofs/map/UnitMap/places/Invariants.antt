-- Each key so far has a place, and no key's record has changed.
use Rattle.std.proofs.Common.{◌≡◌, ◌≤◌, vec_len, true, take}
use Rattle.std.specs.List.{AllZip}
use Rattle.std.specs.Map.{keys_of}
use Rattle.unit_map.specs.declared.index.TheConstants.{PROBES}
use Rattle.unit_map.specs.Entries.{is_place_of, record_of}
use Rattle.unit_map.specs.Notes.{key_rules}
use Rattle.unit_map.specs.Soundness.{IsSound}
use Rattle.unit_map.proofs.map.UnitMap.places.Given as goal

abbrev pub invariant-loop-item : goal.invariant-loop-item
invariant-loop-item g l = record {
  room : PROBES ≤ vec_len l.self-inside.index.slots;
  sound : IsSound (key_rules g.K.PartialEq.eq g.K.Ord.cmp g.K.Hash.hash_input) l.self-inside.index l.self-inside.entries.items;
  found : AllZip (λ k place. is_place_of g.K.PartialEq.eq l.self-inside.entries.items place k ≡ true) (keys_of (take l.item-index l.items)) l.places.items;
  same : (k : g.row.K.Denot) → record_of g.K.PartialEq.eq l.self-inside.entries.items k ≡ record_of g.K.PartialEq.eq l.fn.self k;
}
