-- The all-flows state: how many packets each instance has processed. This project's own.
use Rattle.std.specs.Prelude.{◌≡◌, ℕ, max, List, [], ◌∷◌, length, slice_index, slice_set}
use Rattle.nf_function.specs.Semantics.{count}

-- one packet more in an instance's slot
abbrev pub with_packet_counted : List ℕ → ℕ → List ℕ
with_packet_counted slots instance = slice_set slots instance (count (slice_index slots instance) 1)

-- the greater of two counts in each slot
abbrev pub merged : List ℕ → List ℕ → List ℕ
merged (a ∷ more) (b ∷ others) = max a b ∷ merged more others
merged slots others = []

-- merging takes tallies in any order, and each any number of times, and never makes a slot smaller
pub record MergeLaws : Type 0 where
  pub associative : (a b c : List ℕ) → merged (merged a b) c ≡ merged a (merged b c)
  pub commutative : (a b : List ℕ) → merged a b ≡ merged b a
  pub idempotent : (a : List ℕ) → merged a a ≡ a
  pub slots : (a b : List ℕ) → length a ≡ length b → length (merged a b) ≡ length a
  pub greater : (a b : List ℕ) → length a ≡ length b → (i : ℕ) → slice_index (merged a b) i ≡ max (slice_index a i) (slice_index b i)
