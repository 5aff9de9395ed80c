-- A part of a sorted list: what stood in order stands as it was, and what stood alone; and what all of it have.
use Rattle.run_headline.proofs.Words.{◌≡◌, ℕ, suc, ◌<◌, ◌≤◌, Bool, true, false, cond, List, [], ◌∷◌, length, map, refl, sym, ap, ◌∙◌, arith, filter, is_lt}
use Rattle.run_headline.proofs.Words.{nat_cmp, Ordering, AllByRecursion, IsRising, put_in, sorted_by, IsUp, less, those_filter}
use Rattle.std.specs.Prelude.{nat_le}
use Rattle.std.specs.List.Sorted.{ties}
use Rattle.std.specs.Cmp.{IsTotalOrder, IsStrictWeakOrder}
use Rattle.std.proofs.lemmas.List.Sorted.{ranks_by}
use Rattle.report_lines.proofs.SortLemmas.{one_sort, up_sort, same_sort}
use Rattle.report_lines.proofs.SortedAlready.{not_less}

module _ {X : Type 0} where
  pub all_filter : (P : X → Type 0) (q : X → Bool) (xs : List X) → AllByRecursion P xs → AllByRecursion P (filter q xs)
  all_filter P q [] all = tt
  all_filter P q (x ∷ xs) all = elim (q x) as (λ b. AllByRecursion P (cond b (x ∷ filter q xs) (filter q xs))) [
    | true ↦ (all.0, all_filter P q xs all.1)
    | false ↦ all_filter P q xs all.1
  ]

  up_filter : (lt : X → X → Bool) (q : X → Bool) (xs : List X) → IsUp lt xs → IsUp lt (filter q xs)
  up_filter lt q [] up = tt
  up_filter lt q (x ∷ xs) up = elim (q x) as (λ b. IsUp lt (cond b (x ∷ filter q xs) (filter q xs))) [
    | true ↦ (all_filter (λ w. lt w x ≡ false) q xs up.0, up_filter lt q xs up.1)
    | false ↦ up_filter lt q xs up.1
  ]

module _ {X K : Type 0} (key : X → K) (cmp : K → K → Ordering) (total : IsTotalOrder cmp) where
  order : IsStrictWeakOrder (less key cmp)
  order = ranks_by total key

  -- a part that stands in order is found as it was
  pub part_stays : (q : X → Bool) (xs : List X) → IsUp (less key cmp) (filter q xs) → filter q (sorted_by key cmp xs) ≡ filter q xs
  part_stays q xs up =
      one_sort (less key cmp) order (filter q (sorted_by key cmp xs)) (filter q xs)
      (up_filter (less key cmp) q (sorted_by key cmp xs) (up_sort key cmp order xs)) up
      (λ z. those_filter (ties (less key cmp) z) q (sorted_by key cmp xs) ∙ ap (filter q) (same_sort key cmp order z xs)
      ∙ sym (those_filter (ties (less key cmp) z) q xs))

  -- and so is a part of one item
  up_alone : (xs : List X) → length xs ≤ 1 → IsUp (less key cmp) xs
  up_alone [] few = tt
  up_alone (x ∷ []) few = (tt, tt)
  up_alone (x ∷ y ∷ xs) few = absurd (omega (arith, few))

  pub one_stays : (q : X → Bool) (xs : List X) → length (filter q xs) ≤ 1 → filter q (sorted_by key cmp xs) ≡ filter q xs
  one_stays q xs few = part_stays q xs (up_alone (filter q xs) few)

-- what all of some have, all of them sorted have
module _ {X K : Type 0} (key : X → K) (cmp : K → K → Ordering) (P : X → Type 0) where
  all_put : (x : X) (ys : List X) → P x → AllByRecursion P ys → AllByRecursion P (put_in key cmp x ys)
  all_put x [] holds all = (holds, tt)
  all_put x (y ∷ ys) holds all = elim (is_lt (cmp (key y) (key x))) as (λ b. AllByRecursion P (cond b (y ∷ put_in key cmp x ys) (x ∷ y ∷ ys))) [
    | true ↦ (all.0, all_put x ys holds all.1)
    | false ↦ (holds, all)
  ]

  pub all_sorted : (xs : List X) → AllByRecursion P xs → AllByRecursion P (sorted_by key cmp xs)
  all_sorted [] all = tt
  all_sorted (x ∷ xs) all = all_put x (sorted_by key cmp xs) all.0 (all_sorted xs all.1)

-- numbers that rise stand in order
module _ {X : Type 0} where
  no_less : (least : ℕ) (x : ℕ × X) (xs : List (ℕ × X)) → x.0 < least → IsRising least (map (λ y. y.0) xs)
      → AllByRecursion (λ w. less (λ y. y.0) nat_cmp w x ≡ false) xs
  no_less least x [] low rising = tt
  no_less least x (y ∷ xs) low rising =
      let first = rising.0 in
      let le : nat_le x.0 y.0 ≡ true = grind (arith, low, first) in
      (not_less x.0 y.0 le, no_less (suc y.0) x xs (omega (arith, low, first)) rising.1)

  pub up_rising : (least : ℕ) (xs : List (ℕ × X)) → IsRising least (map (λ y. y.0) xs) → IsUp (less (λ y. y.0) nat_cmp) xs
  up_rising least [] rising = tt
  up_rising least (x ∷ xs) rising = (no_less (suc x.0) x xs (omega arith) rising.1, up_rising (suc x.0) xs rising.1)
