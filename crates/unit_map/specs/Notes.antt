-- Steps between code and definition, which nobody has to believe: where the number of a key's entry is noted.
use Rattle.std.specs.Prelude.{◌≡◌, ℕ, Bool, false, ◌+◌, ◌-◌, ◌/◌, ◌^◌, ◌<◌, ◌≤◌, ◌==◌, List, length, slice_index_or, bit_and, if◌then◌else◌, Some}
use Rattle.std.specs.List.{fold}
use Rattle.std.specs.Hash.{HashWrites}
use Rattle.std.specs.Hash.FoldHasher as folding
use Rattle.std.specs.declared.cmp.Ordering.{Ordering}
use Rattle.std.specs.BTreeMap as tree
use Rattle.unit_map.specs.declared.index.TheConstants.{PROBES}
use Rattle.unit_map.specs.declared.index.Index.{Index}
use Rattle.unit_map.specs.declared.index.Slot.{Slot}
use Rattle.unit_map.specs.Entries.{is_place_of}

-- what a key is found by: its hash
unfoldable pub hash_of : {K : Type 0} → (K → HashWrites) → K → ℕ
hash_of input key = folding.finish (fold folding.write folding.initial (input key))

-- how keys are told apart, ordered and hashed
pub record KeyRules (K : Type 0) : Type 0 where
  pub eq : K → K → Bool
  pub cmp : K → K → Ordering
  pub hash : K → ℕ

abbrev pub key_rules : {K : Type 0} → (K → K → Bool) → (K → K → Ordering) → (K → HashWrites) → KeyRules K
key_rules same order input = record { eq = same; cmp = order; hash = hash_of input }

-- that the entry of a number, counted from 1, is a key's
pub record EntryNote (K : Type 0) : Type 0 where
  pub key : K
  pub number : ℕ

-- a slot that notes nothing
abbrev pub free : Slot
free = record { tag = 0; number = 0 }

abbrev pub slot_at : {K : Type 0} → Index K → ℕ → Slot
slot_at index n = slice_index_or index.slots.items n free

-- where the probes of a hash begin, among so many slots
unfoldable pub start_of : ℕ → ℕ → ℕ
start_of slots hash = bit_and hash (slots - PROBES)

-- the tag of a hash
unfoldable pub tag_of : ℕ → ℕ
tag_of hash = hash / 2 ^ 32

-- the slot that notes a number for a hash
abbrev pub slot_of : ℕ → ℕ → Slot
slot_of hash n = record { tag = tag_of hash; number = n }

-- the slot at a step of a hash's probes
abbrev pub probed_slot : {K : Type 0} → Index K → ℕ → ℕ → Slot
probed_slot index hash step = slot_at index (start_of (length index.slots.items) hash + step)

-- it is noted at a step of the key's probes, or in the tree where the step is past the probes; no slot before is free
pub record IsNotedAt {K : Type 0} (rules : KeyRules K) (index : Index K) (note : EntryNote K) (step : ℕ) : Type 0 where
  pub counted : 0 < note.number
  pub room : PROBES ≤ length index.slots.items
  pub within : step ≤ PROBES
  pub before : (m : ℕ) → m < step → 0 < (probed_slot index (rules.hash note.key) m).number
  pub in_probes : step < PROBES → probed_slot index (rules.hash note.key) step ≡ slot_of (rules.hash note.key) note.number
  pub in_tree : step ≡ PROBES → tree.get rules.cmp index.spill note.key ≡ Some note.number

abbrev pub IsNoted : {K : Type 0} → KeyRules K → Index K → EntryNote K → Type 0
IsNoted rules index note = (step : ℕ) × IsNotedAt rules index note step

-- whether the entry of a number has the key
abbrev pub has_key : {K V : Type 0} → (K → K → Bool) → List (K × V) → ℕ → K → Bool
has_key eq entries n key = if n == 0 then false else is_place_of eq entries (n - 1) key
