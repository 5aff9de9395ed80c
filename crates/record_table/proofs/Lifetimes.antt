-- A lifetime within those of a record is within the lists that repeat them, as entries and maps of records do.
use Rattle.std.proofs.Common.{ℕ, List, [], ◌++◌}
use mathlib.Core.List.{Mem, mem-append, not-mem-nil}
use mathlib.Core.Logic.Or
use mathlib.Core.Logic.{∥∥₁_prop}

pub of_none : (κ : List ℕ) (a : ℕ) → Mem a [] → Mem a κ
of_none κ a m = absurd (not-mem-nil m)

of_both : (κ xs ys : List ℕ) → ((a : ℕ) → Mem a xs → Mem a κ) → ((a : ℕ) → Mem a ys → Mem a κ) → (a : ℕ) → Mem a (xs ++ ys) → Mem a κ
of_both κ xs ys f g a m = Or.elim ∥∥₁_prop (mem-append.0 m) (f a) (g a)

of_two : (κ xs : List ℕ) → ((a : ℕ) → Mem a xs → Mem a κ) → (a : ℕ) → Mem a (xs ++ xs) → Mem a κ
of_two κ xs h = of_both κ xs xs h h

pub of_entry : (κ r : List ℕ) → ((a : ℕ) → Mem a r → Mem a κ) → (a : ℕ) → Mem a ((r ++ r) ++ (r ++ r)) → Mem a κ
of_entry κ r h = of_two κ (r ++ r) (of_two κ r h)

pub of_entries : (κ r : List ℕ) → ((a : ℕ) → Mem a r → Mem a κ) → (a : ℕ) → Mem a (((r ++ r) ++ (r ++ r)) ++ ((r ++ r) ++ (r ++ r))) → Mem a κ
of_entries κ r h = of_two κ _ (of_entry κ r h)

pub of_map : (κ r : List ℕ) → ((a : ℕ) → Mem a r → Mem a κ) → (a : ℕ) → Mem a (r ++ (r ++ ((r ++ r) ++ (r ++ r)))) → Mem a κ
of_map κ r h = of_both κ r _ h (of_both κ r _ h (of_entry κ r h))
