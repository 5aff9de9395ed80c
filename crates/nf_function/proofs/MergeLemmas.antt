-- Merging tallies: the laws, slot by slot.
use Rattle.std.proofs.Common.{◌≡◌, ℕ, zero, suc, max, List, [], ◌∷◌, length, slice_index, get_or, ◌<◌, ◌∙◌, sym, refl, arith}
use Rattle.std.proofs.lemmas.Grind.{same_number_lists}
use Rattle.nf_function.specs.Tally.{merged, MergeLaws}

merged-associative : (a b c : List ℕ) → merged (merged a b) c ≡ merged a (merged b c)
merged-associative [] b c = refl
merged-associative (x ∷ a) [] c = refl
merged-associative (x ∷ a) (y ∷ b) [] = refl
merged-associative (x ∷ a) (y ∷ b) (z ∷ c) =
    let first : max (max x y) z ≡ max x (max y z) = omega arith in rw (first, merged-associative a b c) refl

merged-commutative : (a b : List ℕ) → merged a b ≡ merged b a
merged-commutative [] [] = refl
merged-commutative [] (y ∷ b) = refl
merged-commutative (x ∷ a) [] = refl
merged-commutative (x ∷ a) (y ∷ b) =
    let first : max x y ≡ max y x = omega arith in rw (first, merged-commutative a b) refl

merged-idempotent : (a : List ℕ) → merged a a ≡ a
merged-idempotent [] = refl
merged-idempotent (x ∷ a) = let first : max x x ≡ x = omega arith in rw (first, merged-idempotent a) refl

length-merged : (a b : List ℕ) → length a ≡ length b → length (merged a b) ≡ length a
length-merged [] b h = refl
length-merged (x ∷ a) [] h = absurd (omega (arith, h))
length-merged (x ∷ a) (y ∷ b) h = let rest = length-merged a b (omega (arith, h)) in omega (arith, rest)

slice_index-merged : (a b : List ℕ) → length a ≡ length b → (i : ℕ) → slice_index (merged a b) i ≡ max (slice_index a i) (slice_index b i)
slice_index-merged [] [] h i = omega arith
slice_index-merged [] (y ∷ b) h i = absurd (omega (arith, h))
slice_index-merged (x ∷ a) [] h i = absurd (omega (arith, h))
slice_index-merged (x ∷ a) (y ∷ b) h zero = refl
slice_index-merged (x ∷ a) (y ∷ b) h (suc i) = slice_index-merged a b (omega (arith, h)) i

-- slots that are merged one by one are the merged list
pub merged_by_slots : (a b all : List ℕ) → length a ≡ length b → length all ≡ length a
    → ((i : ℕ) → i < length all → get_or all i 0 ≡ max (get_or a i 0) (get_or b i 0)) → all ≡ merged a b
merged_by_slots a b all same whole each =
    same_number_lists all (merged a b) (whole ∙ sym (length-merged a b same))
    (λ i h. each i h ∙ sym (slice_index-merged a b same i))

pub merge_laws : MergeLaws
merge_laws = record {
  associative = merged-associative;
  commutative = merged-commutative;
  idempotent = merged-idempotent;
  slots = length-merged;
  greater = slice_index-merged;
}
