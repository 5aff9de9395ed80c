-- A list of entries that is sorted by its keys, each of which stands once, is that of the finite map with the same look-ups.
use Rattle.std.proofs.Common.{◌≡◌, ◌+◌, ◌<◌, Bool, true, false, cond, List, [], ◌∷◌, length, get_or, Option, Some, None, refl, sym, ap, subst, ◌∙◌, arith}
use Rattle.std.specs.Prelude.{T, not, filter, suc}
use Rattle.std.proofs.Math.ListN.{get_or-map}
use Rattle.std.proofs.lemmas.List.{length-map}
use Rattle.std.proofs.lemmas.Bool.{true≢false}
use Rattle.std.proofs.lemmas.Map.Keys.{sorted_from_all_adjacent, sorted_head, sorted_tail, apart_from_distinct}
use Rattle.std.proofs.lemmas.Map.Views.{Contains-from_lookup, lookup-from_Contains}
use Rattle.std.proofs.lemmas.List.Sorted.{IsPermutation-sym, Contains-permutation}
use Rattle.std.specs.List.{IsDistinct, AllByRecursion}
use Rattle.std.specs.List.Sorted.{IsPermutation, IsStrictlySortedBy, IsSortedByKey}
use Rattle.std.specs.Map.{keys_of}
use Rattle.std.specs.Ordering.{is_lt, is_eq, ordering_reverse}
use Rattle.std.specs.declared.cmp.Ordering.{Ordering}
use Rattle.std.specs.declared.cmp.Ordering.TheVariants.{Less, Equal, Greater}
use Rattle.std.specs.FinMap as finite
use Rattle.std.specs.FinMap.{is_sorted, entries_sorted, entries-from_sorted, get-from_sorted, get-entries, get-retain_keys, len-entries}
use Rattle.std.specs.FinMap.Entries.{below_all, where_key, is_sorted-where_key, find-where_key}
use Rattle.std.proofs.Math.Facts.{yes_and}
use Rattle.nf_function.specs.declared.unit.Unit as units
use Rattle.nf_function.specs.Units.{unit_cmp}
use Rattle.nf_function.specs.UnitOrder.{units_total}
use Rattle.record_table.specs.Table.{Records, same_unit}
use Rattle.record_table.proofs.UnitOrder.{one_unit, same_unit_equiv, same_unit-true}
use Rattle.record_table.proofs.RecordLookUps.{same_records, at}

-- what isn't less when turned round and doesn't tie is less
less_from : (a b : Ordering) → a ≡ ordering_reverse b → is_lt a ≡ false → is_eq b ≡ false → b ≡ Less
less_from a Less turned not_less apart = refl
less_from a Equal turned not_less apart = absurd (true≢false apart)
less_from a Greater turned not_less apart = absurd (true≢false (sym (ap is_lt turned) ∙ not_less))

some_same : {X : Type 0} (o p : Option X) → ((x : X) → o ≡ Some x → p ≡ Some x) → ((x : X) → p ≡ Some x → o ≡ Some x) → o ≡ p
some_same None None there back = refl
some_same None (Some x) there back = back x refl
some_same (Some x) p there back = sym (there x refl)

-- what was sorted by units that stand once each rises strictly
pub strictly : {X : Type 0} (xs : List (units.Unit × X)) → IsSortedByKey (λ x. x.0) unit_cmp xs → IsDistinct same_unit (keys_of xs)
    → IsStrictlySortedBy unit_cmp (keys_of xs)
unfolding IsStrictlySortedBy
strictly {X} [] sorted distinct = tt
strictly {X} (x ∷ xs) sorted distinct = sorted_from_all_adjacent units_total (keys_of (x ∷ xs)) x.0 (λ k within.
    let ks = keys_of (x ∷ xs) in
    let first = get_or-map (λ (y : units.Unit × X). y.0) (x ∷ xs) k x in
    let second = get_or-map (λ (y : units.Unit × X). y.0) (x ∷ xs) (k + 1) x in
    let long : k + 1 < length (x ∷ xs) = rw (length-map (x ∷ xs) (λ (y : units.Unit × X). y.0)) at within in
    less_from (unit_cmp (get_or ks (k + 1) x.0) (get_or ks k x.0)) (unit_cmp (get_or ks k x.0) (get_or ks (k + 1) x.0))
    (units_total.antisymm (get_or ks (k + 1) x.0) (get_or ks k x.0))
    (rw (first, second) (sorted k x (omega arith) long))
    (apart_from_distinct same_unit ks k (k + 1) x.0 distinct (omega arith) within))

module _ {R : Type 0} where
  below_from : (x : units.Unit) (es : List (units.Unit × R)) → AllByRecursion (λ y. unit_cmp x y ≡ Less) (keys_of es) → T (below_all unit_cmp x es)
  below_from x [] all = tt
  below_from x (e ∷ es) all = yes_and (is_lt (unit_cmp x e.0)) (below_all unit_cmp x es) (subst (λ o. T (is_lt o)) (sym all.0) tt) (below_from x es all.1)

  sorted_from : (es : List (units.Unit × R)) → IsStrictlySortedBy unit_cmp (keys_of es) → T (is_sorted unit_cmp es)
  sorted_from [] s = tt
  sorted_from (e ∷ es) s =
      yes_and (below_all unit_cmp e.0 es) (is_sorted unit_cmp es) (below_from e.0 es (sorted_head unit_cmp e.0 (keys_of es) s))
      (sorted_from es (sorted_tail unit_cmp e.0 (keys_of es) s))

  -- lists of the same entries are looked up alike
  pub at-permuted : (es ds : List (units.Unit × R)) → IsDistinct same_unit (keys_of es) → IsDistinct same_unit (keys_of ds) → IsPermutation es ds
      → (q : units.Unit) → at es q ≡ at ds q
  at-permuted es ds d e moved q = some_same (at es q) (at ds q)
      (λ r h. lookup-from_Contains same_unit_equiv q r ds e (Contains-permutation es ds (q, r) moved (Contains-from_lookup same_unit-true q r es h)))
      (λ r h. lookup-from_Contains same_unit_equiv q r es d
      (Contains-permutation ds es (q, r) (IsPermutation-sym es ds moved) (Contains-from_lookup same_unit-true q r ds h)))

  -- entries in the order of their units are those of the map with their look-ups
  pub in_order : (es : List (units.Unit × R)) (m : Records R) → IsStrictlySortedBy unit_cmp (keys_of es) → ((q : units.Unit) → at es q ≡ finite.get m q)
      → es ≡ finite.entries m
  in_order es m sorted same =
      let up = sorted_from es sorted in
      sym (entries-from_sorted unit_cmp es up)
      ∙ ap finite.entries (same_records (finite.from_sorted es) m (λ q. get-from_sorted unit_cmp es q up ∙ same q))

  -- the entries that stay where some units are left
  pub entries-retain_keys : (m : Records R) (p : units.Unit → Bool) → finite.entries (finite.retain_keys m p) ≡ filter (λ e. p e.0) (finite.entries m)
  entries-retain_keys m p =
      let up = is_sorted-where_key unit_cmp p (finite.entries m) (entries_sorted m) in
      sym (ap finite.entries (same_records (finite.from_sorted (where_key unit_cmp p (finite.entries m))) (finite.retain_keys m p) (λ q.
      get-from_sorted unit_cmp (where_key unit_cmp p (finite.entries m)) q up
      ∙ find-where_key unit_cmp p q (λ x t. ap p (sym (one_unit q x t))) (finite.entries m)
      ∙ ap (λ o. cond (p q) o None) (sym (get-entries m q))
      ∙ sym (get-retain_keys m p q (λ x t. ap p (sym (one_unit q x t)))))))
      ∙ entries-from_sorted unit_cmp (where_key unit_cmp p (finite.entries m)) up

  both_parts : (p : units.Unit → Bool) (es : List (units.Unit × R)) → length (filter (λ e. p e.0) es) + length (filter (λ e. not (p e.0)) es) ≡ length es
  both_parts p [] = refl
  both_parts p (e ∷ es) = elim (p e.0) as (λ b. length (cond b (e ∷ filter (λ x. p x.0) es) (filter (λ x. p x.0) es))
      + length (cond (not b) (e ∷ filter (λ x. not (p x.0)) es) (filter (λ x. not (p x.0)) es)) ≡ suc (length es)) [
        | true ↦ omega (arith, both_parts p es)
        | false ↦ omega (arith, both_parts p es)
      ]

  -- the records of some units, and those of the others
  pub len_parts : (m : Records R) (p : units.Unit → Bool)
      → finite.len (finite.retain_keys m p) + finite.len (finite.retain_keys m (λ u. not (p u))) ≡ finite.len m
  len_parts m p =
      let some = len-entries (finite.retain_keys m p) ∙ ap length (entries-retain_keys m p) in
      let others = len-entries (finite.retain_keys m (λ u. not (p u))) ∙ ap length (entries-retain_keys m (λ u. not (p u))) in
      omega (arith, some, others, len-entries m, both_parts p (finite.entries m))
