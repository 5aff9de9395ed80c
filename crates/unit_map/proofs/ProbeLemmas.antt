-- A key is looked for along its probes: what was passed is not its number, and past a free slot nothing is noted.
use Rattle.std.proofs.Common.{◌≡◌, ◌≢◌, ℕ, false, ◌+◌, ◌<◌, ◌≤◌, List, length, slice_index_or, Some, arith, ap, sym, ◌∙◌, ⊎_elim, subst}
use Rattle.std.proofs.lemmas.Bool.{cases_lt, cases_order}
use Rattle.std.proofs.lemmas.List.{get_or_default}
use Rattle.std.specs.BTreeMap as tree
use Rattle.unit_map.specs.declared.index.TheConstants.{PROBES}
use Rattle.unit_map.specs.declared.index.Index.{Index}
use Rattle.unit_map.specs.declared.index.Slot.{Slot}
use Rattle.unit_map.specs.Notes.{KeyRules, IsNoted, has_key, free, probed_slot, slot_of, start_of}

-- the slot that was read is the one at a step of the probes
pub slot_read : {K : Type 0} (index : Index K) (hash slots start step : ℕ) (slot : Slot) → slots ≡ length index.slots.items → start ≡ start_of slots hash
    → start + step < length index.slots.items → slot ≡ slice_index_or index.slots.items (start + step) slot → probed_slot index hash step ≡ slot
slot_read index hash slots start step slot count begin within read =
    ap (λ n. slice_index_or index.slots.items (n + step) free) (sym (begin ∙ ap (λ n. start_of n hash) count))
    ∙ sym (read ∙ get_or_default index.slots.items (start + step) slot free within)

module _ {K V : Type 0} (rules : KeyRules K) (index : Index K) (key : K) (es : List (K × V)) (hash : ℕ) where
  abbrev probed : ℕ → Slot
  probed = probed_slot index hash

  -- no number that is noted for the hash at an earlier step is that of the key's entry
  abbrev NotBefore : ℕ → Type 0
  NotBefore i = (m n : ℕ) → m < i → probed m ≡ slot_of hash n → has_key rules.eq es n key ≡ false

  -- past a free slot nothing is noted
  pub at_free : hash ≡ rules.hash key → (i : ℕ) (slot : Slot) → i < PROBES → NotBefore i → probed i ≡ slot → slot.number ≡ 0
      → (n : ℕ) → IsNoted rules index (record { key = key; number = n }) → has_key rules.eq es n key ≡ false
  at_free same i slot below none at is_free n (step, h) =
      let zero_there : (probed i).number ≡ 0 = ap (λ (s : Slot). s.number) at ∙ is_free in ⊎_elim
      (λ e.
      let noted : (probed step).number ≡ n = rw same (ap (λ (s : Slot). s.number) (h.in_probes (omega (arith, e, below)))) in
      absurd (omega (arith, h.counted, noted, zero_there, ap (λ m. (probed m).number) e)))
      (⊎_elim
      (λ before. none step n before (rw same (h.in_probes (omega (arith, before, below)))))
      (λ after.
      let taken : 0 < (probed i).number = rw same (h.before i after) in
      absurd (omega (arith, taken, zero_there))))
      (cases_order step i)

  -- one more slot was passed
  pub passed : (i : ℕ) (slot : Slot) → NotBefore i → probed i ≡ slot → ((n : ℕ) → slot ≡ slot_of hash n → has_key rules.eq es n key ≡ false) → NotBefore (i + 1)
  passed i slot none at here m n below noted = ⊎_elim
      (λ e. here n (sym at ∙ subst (λ k. probed k ≡ slot_of hash n) e noted))
      (⊎_elim (λ before. none m n before noted) (λ after. absurd (omega (arith, after, below))))
      (cases_order m i)

  pub taken_more : (i : ℕ) (slot : Slot) → ((m : ℕ) → m < i → 0 < (probed m).number) → probed i ≡ slot → slot.number ≢ 0
      → (m : ℕ) → m < i + 1 → 0 < (probed m).number
  taken_more i slot taken at some m below = ⊎_elim
      (λ e.
      let same : (probed m).number ≡ slot.number = ap (λ (s : Slot). s.number) (ap probed e ∙ at) in
      omega (arith, same, some))
      (⊎_elim (λ before. taken m before) (λ after. absurd (omega (arith, after, below))))
      (cases_order m i)

  -- all slots were passed, and what the tree notes is not the key's
  pub in_tree : hash ≡ rules.hash key → (i : ℕ) → PROBES ≤ i → NotBefore i
      → ((n : ℕ) → tree.get rules.cmp index.spill key ≡ Some n → has_key rules.eq es n key ≡ false)
      → (n : ℕ) → IsNoted rules index (record { key = key; number = n }) → has_key rules.eq es n key ≡ false
  in_tree same i past none here n (step, h) = ⊎_elim
      (λ before. none step n (omega (arith, before, past)) (rw same (h.in_probes before)))
      (λ last. here n (h.in_tree (omega (arith, last, h.within))))
      (cases_lt step PROBES)
