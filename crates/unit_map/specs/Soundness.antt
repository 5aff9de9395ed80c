-- Steps between code and definition, which nobody has to believe: that each entry of a map is found.
use Rattle.std.specs.Prelude.{◌≡◌, ℕ, ◌+◌, List, Some}
use Rattle.std.specs.List.{slice_get}
use Rattle.std.specs.Map.{keys_of}
use Rattle.unit_map.specs.declared.index.Index.{Index}
use Rattle.unit_map.specs.Entries.{IsMap}
use Rattle.unit_map.specs.Notes.{KeyRules, IsNoted}

-- the number of each key, by its place in the list, is noted
unfoldable pub AreNoted : {K : Type 0} → KeyRules K → Index K → List K → Type 0
AreNoted {K} rules index keys = (i : ℕ) (key : K) → slice_get keys i ≡ Some key → IsNoted rules index (record { key = key; number = i + 1 })

-- the entries are those of a map, and each is noted
pub record IsSound {K V : Type 0} (rules : KeyRules K) (index : Index K) (entries : List (K × V)) : Type 0 where
  pub map : IsMap rules.eq entries
  pub noted : AreNoted rules index (keys_of entries)
