-- What is noted stays so where a slot that was free is taken.
use Rattle.std.proofs.Common.{◌≡◌, ℕ, ◌<◌, List, length, slice_set, arith, ap, sym, ◌∙◌, ⊎_elim}
use Rattle.std.proofs.lemmas.Bool.{cases_eq}
use Rattle.std.proofs.lemmas.List.{get_or-set_same, get_or-set_other, get_or_default, length-set}
use Rattle.std.specs.Prelude.{slice_index_or}
use Rattle.unit_map.specs.declared.index.Index.{Index}
use Rattle.unit_map.specs.declared.index.Slot.{Slot}
use Rattle.unit_map.specs.Notes.{KeyRules, EntryNote, IsNoted, slot_of, free}

abbrev at : List Slot → ℕ → Slot
at slots n = slice_index_or slots n free

taken_stays : (slots : List Slot) (a b : ℕ) (s : Slot) → a < length slots → 0 < s.number → 0 < (at slots b).number → 0 < (at (slice_set slots a s) b).number
taken_stays slots a b s within new old = ⊎_elim
    (λ e. rw e (rw (get_or-set_same slots a s free within) new))
    (λ ne. rw (get_or-set_other slots a b s free ne) old)
    (cases_eq b a)

not_free : (slots : List Slot) (a b hash n : ℕ) → (at slots a).number ≡ 0 → 0 < n → at slots b ≡ slot_of hash n → b ≡ a → ⊥
not_free slots a b hash n is_free counted noted e =
    let k : (at slots b).number ≡ n = ap (λ (x : Slot). x.number) noted in
    let z : (at slots b).number ≡ 0 = rw e is_free in
    omega (arith, k, z, counted)

slot_stays : (slots : List Slot) (a b hash n : ℕ) (s : Slot) → (at slots a).number ≡ 0 → 0 < n → at slots b ≡ slot_of hash n
    → at (slice_set slots a s) b ≡ slot_of hash n
slot_stays slots a b hash n s is_free counted noted =
    get_or-set_other slots a b s free (not_free slots a b hash n is_free counted noted) ∙ noted

-- the new index differs from the old in one slot, which was free and is taken
pub still_noted : {K : Type 0} (rules : KeyRules K) (old new : Index K) (a : ℕ) (s : Slot)
    → new.slots.items ≡ slice_set old.slots.items a s → new.spill ≡ old.spill
    → a < length old.slots.items → (at old.slots.items a).number ≡ 0 → 0 < s.number
    → (note : EntryNote K) → IsNoted rules old note → IsNoted rules new note
still_noted rules old new a s slots spill within is_free taken note (step, h) = (
  step,
  record {
    counted = h.counted;
    room = rw (slots, length-set old.slots.items a s) h.room;
    within = h.within;
    before = λ m below. rw (slots, length-set old.slots.items a s) (taken_stays old.slots.items a _ s within taken (h.before m below));
    in_probes = λ below. rw (slots, length-set old.slots.items a s)
        (slot_stays old.slots.items a _ (rules.hash note.key) note.number s is_free h.counted (h.in_probes below));
    in_tree = λ past. rw spill (h.in_tree past);
  },
)

-- the slot that was read is free, in the list as it was before
pub free_read : (old now : List Slot) (a : ℕ) (s : Slot) → now ≡ old → a < length old → s ≡ slice_index_or now a s → s.number ≡ 0 → (at old a).number ≡ 0
free_read old now a s same within read is_free =
    ap (λ (x : Slot). x.number) (sym (get_or_default old a s free within) ∙ sym (ap (λ xs. slice_index_or xs a s) same) ∙ sym read) ∙ is_free
