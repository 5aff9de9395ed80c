-- A map from keys to records, as its entries. This project's own.
use Rattle.std.specs.Prelude.{ℕ, zero, suc, ◌≤◌, Bool, false, List, [], ◌∷◌, length, slice_get, Option, None, Some, is_some}
use Rattle.std.specs.Option.{option_map, unwrap_or}
use Rattle.std.specs.List.{IsDistinct}
use Rattle.std.specs.Map.{lookup, keys_of}
use Rattle.unit_map.specs.declared.index.TheConstants.{MOST_ENTRIES}

-- the entries of a map: each key with its record, or with none where the record has left
abbrev pub Entries : Type 0 → Type 0 → Type 0
Entries K R = List (K × Option R)

-- the record, where there is an entry and it has one
abbrev pub kept_record : {R : Type 0} → Option (Option R) → Option R
kept_record None = None
kept_record (Some record_or_none) = record_or_none

-- the record of a key
abbrev pub record_of : {K R : Type 0} → (K → K → Bool) → Entries K R → K → Option R
record_of eq entries key = kept_record (lookup (eq key) entries)

-- the record in the entry at a place
abbrev pub record_at : {K R : Type 0} → Entries K R → ℕ → Option R
record_at entries place = kept_record (option_map (λ e. e.1) (slice_get entries place))

-- the entry at a place is the key's
abbrev pub is_place_of : {K V : Type 0} → (K → K → Bool) → List (K × V) → ℕ → K → Bool
is_place_of eq entries place key = unwrap_or (option_map (λ e. eq key e.0) (slice_get entries place)) false

-- the entries with another record, or none, in the entry at a place
abbrev pub with_record : {K R : Type 0} → Entries K R → ℕ → Option R → Entries K R
with_record [] place new = []
with_record (e ∷ entries) zero new = (e.0, new) ∷ entries
with_record (e ∷ entries) (suc place) new = e ∷ with_record entries place new

-- the entry has a record
abbrev pub has_record : {K R : Type 0} → K × Option R → Bool
has_record e = is_some e.1

-- each key stands once, and the entries can be numbered
pub record IsMap {K V : Type 0} (eq : K → K → Bool) (entries : List (K × V)) : Type 0 where
  pub distinct : IsDistinct eq (keys_of entries)
  pub few : length entries ≤ MOST_ENTRIES
