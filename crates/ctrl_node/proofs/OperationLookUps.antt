-- The finite map of entries whose numbers rise: what look-ups find in it, its entries, and how it changes with them.
use Rattle.std.proofs.Common.{◌≡◌, ℕ, Bool, true, false, cond, eqb, ◌+◌, ◌<◌, get_or, List, [], ◌∷◌, Option, None, Some, refl, sym, ap, subst, ◌∙◌, arith}
use Rattle.std.specs.Prelude.{T}
use Rattle.std.specs.List.{AllByRecursion, IsDistinct}
use Rattle.std.specs.List.Sorted.{IsSorted, IsStrictlySortedBy}
use Rattle.std.specs.Map.{lookup, keys_of, remove_entry}
use Rattle.std.specs.Ordering.{nat_cmp, eq_by_cmp, is_lt}
use Rattle.std.specs.declared.cmp.Ordering.TheVariants.{Less}
use Rattle.std.specs.Cmp.{nat_cmp_total}
use Rattle.std.specs.FinMap as finite
use Rattle.std.specs.FinMap.{find, is_sorted, same_map, nat_cmp-IsAntisymmetric, get-insert, get-remove, get-from_entries, get-from_sorted, entries-from_sorted}
use Rattle.std.specs.FinMap.Entries.{below_all}
use Rattle.std.proofs.lemmas.List.Sorted.{IsNonDecreasingBy-from_sort}
use Rattle.std.proofs.lemmas.Map.Keys.{sorted_head, sorted_tail, below_from_sorted, IsStrictlyIncreasing-from_distinct, sorted_from_strictly_increasing}
use Rattle.std.proofs.lemmas.Bool.{eqb-true}
use Rattle.std.proofs.lemmas.Bool.Decides.{nat_tests}
use Rattle.std.proofs.Math.Facts.{yes_and}
use Rattle.std.proofs.lemmas.Cmp.{eq_by_cmp_equiv, nat_cmp_total}

-- the numbers rise
abbrev pub Rise : List ℕ → Type 0
Rise numbers = IsStrictlySortedBy nat_cmp numbers

-- keys that the order calls equal are equal numbers, and no others
pub order_test : (a b : ℕ) → eq_by_cmp nat_cmp a b ≡ eqb a b
order_test a b = grind (arith, nat_tests)

flipped_test : (a b : ℕ) → eqb a b ≡ eq_by_cmp nat_cmp b a
flipped_test a b = grind (arith, nat_tests)

not_less : (a b : ℕ) → a < b → is_lt (nat_cmp b a) ≡ false
not_less a b less = grind (arith, nat_tests)

-- numbers that rise are sorted, and sorted numbers of which no two are equal rise
pub sorted_from_rise : (numbers : List ℕ) → Rise numbers → IsSorted nat_cmp numbers
sorted_from_rise numbers rise k d from to =
    not_less (get_or numbers k d) (get_or numbers (k + 1) d) (below_from_sorted numbers k (k + 1) d rise (omega arith) to)

pub rise_from_sorted : (numbers : List ℕ) → IsSorted nat_cmp numbers → IsDistinct eqb numbers → Rise numbers
rise_from_sorted numbers sorted unique =
    sorted_from_strictly_increasing numbers (IsStrictlyIncreasing-from_distinct numbers (IsNonDecreasingBy-from_sort (λ x. x) numbers sorted) unique)

module _ {X : Type 0} where
  abbrev pub view : List (ℕ × X) → finite.FinMap nat_cmp X
  view es = finite.from_entries es

  found : (es : List (ℕ × X)) (q : ℕ) → find nat_cmp q es ≡ lookup (eqb q) es
  found [] q = refl
  found (e ∷ es) q = (λ i. cond (order_test q e.0 i) (Some e.1) (found es q i))

  -- a look-up finds what the entries have
  pub get-view : (es : List (ℕ × X)) (q : ℕ) → finite.get (view es) q ≡ lookup (eqb q) es
  get-view es q = get-from_entries nat_cmp_total es q ∙ found es q

  -- and so has the map that they are
  pub found_in : (es : List (ℕ × X)) {m : finite.FinMap nat_cmp X} (q : ℕ) {o : Option X} → view es ≡ m → lookup (eqb q) es ≡ o → finite.get m q ≡ o
  found_in es q is at = ap (λ m. finite.get m q) (sym is) ∙ (get-view es q ∙ at)

  below_from : (k : ℕ) (es : List (ℕ × X)) → AllByRecursion (λ y. nat_cmp k y ≡ Less) (keys_of es) → T (below_all nat_cmp k es)
  below_from k [] all = tt
  below_from k (e ∷ es) all = yes_and (is_lt (nat_cmp k e.0)) (below_all nat_cmp k es) (subst (λ o. T (is_lt o)) (sym all.0) tt) (below_from k es all.1)

  sorted_from : (es : List (ℕ × X)) → Rise (keys_of es) → T (is_sorted nat_cmp es)
  sorted_from [] s = tt
  sorted_from (e ∷ es) s =
      yes_and (below_all nat_cmp e.0 es) (is_sorted nat_cmp es) (below_from e.0 es (sorted_head nat_cmp e.0 (keys_of es) s))
      (sorted_from es (sorted_tail nat_cmp e.0 (keys_of es) s))

  -- its entries are these
  pub entries-view : (es : List (ℕ × X)) → Rise (keys_of es) → finite.entries (view es) ≡ es
  entries-view es rise =
      let up = sorted_from es rise in
      ap finite.entries (same_map nat_cmp_total nat_cmp-IsAntisymmetric (view es) (finite.from_sorted es)
      (λ q. get-from_entries nat_cmp_total es q ∙ sym (get-from_sorted nat_cmp es q up)))
      ∙ entries-from_sorted nat_cmp es up

  -- an entry more, or another value
  pub inserted : (old new : List (ℕ × X)) (before : finite.FinMap nat_cmp X) (op : ℕ) (x : X) → view old ≡ before
      → ((q : ℕ) → lookup (eqb q) new ≡ cond (eqb op q) (Some x) (lookup (eqb q) old)) → view new ≡ finite.insert before op x
  inserted old new before op x is each = same_map nat_cmp_total nat_cmp-IsAntisymmetric (view new) (finite.insert before op x) (λ q.
      get-view new q ∙ each q
      ∙ ap (λ b. cond b (Some x) (lookup (eqb q) old)) (flipped_test op q)
      ∙ ap (cond (eq_by_cmp nat_cmp q op) (Some x)) (sym (get-view old q) ∙ ap (λ m. finite.get m q) is)
      ∙ sym (get-insert nat_cmp_total before op x q))

  -- an entry less
  pub removed : (old new : List (ℕ × X)) (before : finite.FinMap nat_cmp X) (op : ℕ) → view old ≡ before
      → ((q : ℕ) → lookup (eqb q) new ≡ cond (eqb op q) None (lookup (eqb q) old)) → view new ≡ finite.remove before op
  removed old new before op is each = same_map nat_cmp_total nat_cmp-IsAntisymmetric (view new) (finite.remove before op) (λ q.
      get-view new q ∙ each q
      ∙ ap (λ b. cond b None (lookup (eqb q) old)) (flipped_test op q)
      ∙ ap (cond (eq_by_cmp nat_cmp q op) None) (sym (get-view old q) ∙ ap (λ m. finite.get m q) is)
      ∙ sym (get-remove nat_cmp_total before op q))

  below_rest : (k : ℕ) (test : ℕ → Bool) (es : List (ℕ × X)) → AllByRecursion (λ y. nat_cmp k y ≡ Less) (keys_of es)
      → AllByRecursion (λ y. nat_cmp k y ≡ Less) (keys_of (remove_entry test es))
  below_rest k test [] all = all
  below_rest k test (e ∷ es) all =
      elim (test e.0) as (λ b. AllByRecursion (λ y. nat_cmp k y ≡ Less) (keys_of (cond b es (e ∷ remove_entry test es))))
      [ true ↦ all.1 | false ↦ (all.0, below_rest k test es all.1) ]

  -- without one the others still rise
  pub rest_rise : (test : ℕ → Bool) (es : List (ℕ × X)) → Rise (keys_of es) → Rise (keys_of (remove_entry test es))
  unfolding IsStrictlySortedBy
  rest_rise test [] rise = rise
  rest_rise test (e ∷ es) rise =
      elim (test e.0) as (λ b. Rise (keys_of (cond b es (e ∷ remove_entry test es))))
      [ true ↦ rise.1 | false ↦ (below_rest e.0 test es rise.0, rest_rise test es rise.1) ]

  -- what was written under a number is found there
  pub found_again : (m : finite.FinMap nat_cmp X) (op : ℕ) (x : X) → finite.get (finite.insert m op x) op ≡ Some x
  found_again m op x = get-insert nat_cmp_total m op x op ∙ ap (λ b. cond b (Some x) (finite.get m op)) ((eq_by_cmp_equiv nat_cmp_total).refl op)

  again_case : (b : Bool) (o p : Option X) → (b ≡ true → o ≡ p) → cond b o p ≡ p
  again_case true o p same = same refl
  again_case false o p same = refl

  -- what stands is written again: the map stays
  pub written_again : (m : finite.FinMap nat_cmp X) (op : ℕ) (x : X) → finite.get m op ≡ Some x → finite.insert m op x ≡ m
  written_again m op x stands = same_map nat_cmp_total nat_cmp-IsAntisymmetric (finite.insert m op x) m (λ q.
      get-insert nat_cmp_total m op x q
      ∙ again_case (eq_by_cmp nat_cmp q op) (Some x) (finite.get m q) (λ here. sym (ap (finite.get m) (eqb-true q op (sym (order_test q op) ∙ here)) ∙ stands)))
