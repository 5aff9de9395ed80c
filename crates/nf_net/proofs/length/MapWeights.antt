-- What the values of a finite map weigh together, and how that changes as an entry is written or taken away.
use Rattle.nf_net.proofs.Words.{◌≡◌, ℕ, ◌+◌, ◌≤◌, Bool, true, false, cond, Option, Some, None, List, [], ◌∷◌, length, refl, sym, ap, subst, ◌∙◌, arith, T, not}
use Rattle.nf_net.proofs.Words.{nat_cmp, eq_by_cmp, is_lt, is_eq, Ordering, Less, Equal, Greater, is_sorted, entries_sorted, get-entries, get-remove}
use Rattle.nf_net.proofs.Words.{len-entries, below_all, and_yes, weigh, split}
use Rattle.std.specs.Cmp.{nat_cmp_total}
use Rattle.std.specs.FinMap as finite
use Rattle.std.specs.FinMap.{find, put, same_map, nat_cmp-IsAntisymmetric, entries-insert, entries-from_sorted, get-from_sorted, len-empty}
use Rattle.std.specs.FinMap.Entries.{by_order, where_key, is_sorted-where_key, find-where_key}
use Rattle.std.proofs.Math.Facts.{yes_and}
use Rattle.std.proofs.lemmas.Cmp.{eq_by_cmp_equiv, nat_cmp_total}

less : (o : Ordering) → T (is_lt o) → o ≡ Less
less Less p = refl
less Equal p = absurd p
less Greater p = absurd p

module _ {X : Type 0} (w : X → ℕ) where
  abbrev all : List (ℕ × X) → ℕ
  all es = weigh (λ e. w e.1) es

  -- what a map weighs
  abbrev pub in_all : finite.FinMap nat_cmp X → ℕ
  in_all m = all (finite.entries m)

  -- what a look-up found weighs
  abbrev pub if_found : Option X → ℕ
  if_found None = 0
  if_found (Some x) = w x

  lower : (k j : ℕ) (es : List (ℕ × X)) → nat_cmp k j ≡ Less → T (below_all nat_cmp j es) → T (below_all nat_cmp k es)
  lower k j [] p h = tt
  lower k j (e ∷ es) p h =
      let parts = and_yes (is_lt (nat_cmp j e.0)) (below_all nat_cmp j es) h in
      yes_and (is_lt (nat_cmp k e.0)) (below_all nat_cmp k es)
      (subst (λ r. T (is_lt r)) (sym (nat_cmp_total.trans k j e.0 p (less (nat_cmp j e.0) parts.0))) tt) (lower k j es p parts.1)

  -- a key below all others isn't found
  not_found : (k : ℕ) (es : List (ℕ × X)) → T (below_all nat_cmp k es) → find nat_cmp k es ≡ None
  not_found k [] h = refl
  not_found k (e ∷ es) h =
      let parts = and_yes (is_lt (nat_cmp k e.0)) (below_all nat_cmp k es) h in
      ap (λ r. cond (is_eq r) (Some e.1) (find nat_cmp k es)) (less (nat_cmp k e.0) parts.0) ∙ not_found k es parts.1

  put_weighs : (k : ℕ) (v : X) (es : List (ℕ × X)) → T (is_sorted nat_cmp es) → all (put nat_cmp k v es) + if_found (find nat_cmp k es) ≤ all es + w v
  put_weighs k v [] h = omega arith
  put_weighs k v (e ∷ es) h =
      let parts = and_yes (below_all nat_cmp e.0 es) (is_sorted nat_cmp es) h in
      elim (nat_cmp k e.0) as (λ r. nat_cmp k e.0 ≡ r → all (by_order r ((k, v) ∷ e ∷ es) ((e.0, v) ∷ es) (e ∷ put nat_cmp k v es))
      + if_found (cond (is_eq r) (Some e.1) (find nat_cmp k es)) ≤ w e.1 + all es + w v) [
        | Less ↦ λ p. let none = ap if_found (not_found k es (lower k e.0 es p parts.0)) in omega (arith, none)
        | Equal ↦ λ p. omega arith
        | Greater ↦ λ p. let rest = put_weighs k v es parts.1 in omega (arith, rest)
      ] refl

  where_weighs : (p : ℕ → Bool) (es : List (ℕ × X)) → all (where_key nat_cmp p es) ≤ all es
  where_weighs p [] = omega arith
  where_weighs p (e ∷ es) =
      let rest = where_weighs p es in
      elim (p e.0) as (λ b. all (cond b (e ∷ where_key nat_cmp p es) (where_key nat_cmp p es)) ≤ w e.1 + all es)
      [ true ↦ omega (arith, rest) | false ↦ omega (arith, rest) ]

  without_weighs : (k : ℕ) (es : List (ℕ × X)) → all (where_key nat_cmp (λ x. not (eq_by_cmp nat_cmp k x)) es) + if_found (find nat_cmp k es) ≤ all es
  without_weighs k [] = omega arith
  without_weighs k (e ∷ es) =
      let left = where_key nat_cmp (λ x. not (eq_by_cmp nat_cmp k x)) es in
      split (eq_by_cmp nat_cmp k e.0) (λ b. all (cond (not b) (e ∷ left) left) + if_found (cond b (Some e.1) (find nat_cmp k es)) ≤ w e.1 + all es)
      (λ _. let rest = where_weighs (λ x. not (eq_by_cmp nat_cmp k x)) es in omega (arith, rest))
      (λ _. let rest = without_weighs k es in omega (arith, rest))

  -- an entry that is written weighs what its new value does
  pub insert_weighs : (m : finite.FinMap nat_cmp X) (k : ℕ) (v : X) → in_all (finite.insert m k v) + if_found (finite.get m k) ≤ in_all m + w v
  insert_weighs m k v =
      subst (λ es. all es + if_found (finite.get m k) ≤ in_all m + w v) (sym (entries-insert nat_cmp_total m k v))
      (subst (λ o. all (put nat_cmp k v (finite.entries m)) + if_found o ≤ in_all m + w v) (sym (get-entries m k))
      (put_weighs k v (finite.entries m) (entries_sorted m)))

  test_turned : (b : Bool) (o : Option X) → cond b None o ≡ cond (not b) o None
  test_turned true o = refl
  test_turned false o = refl

  entries-remove : (m : finite.FinMap nat_cmp X) (k : ℕ)
      → finite.entries (finite.remove m k) ≡ where_key nat_cmp (λ x. not (eq_by_cmp nat_cmp k x)) (finite.entries m)
  entries-remove m k =
      let p : ℕ → Bool = λ x. not (eq_by_cmp nat_cmp k x) in
      let es = where_key nat_cmp p (finite.entries m) in
      let up = is_sorted-where_key nat_cmp p (finite.entries m) (entries_sorted m) in
      ap finite.entries (same_map nat_cmp_total nat_cmp-IsAntisymmetric (finite.remove m k) (finite.from_sorted es) (λ q.
      get-remove nat_cmp_total m k q
      ∙ ap (λ b. cond b None (finite.get m q)) ((eq_by_cmp_equiv nat_cmp_total).symm q k)
      ∙ test_turned (eq_by_cmp nat_cmp k q) (finite.get m q)
      ∙ ap (λ o. cond (p q) o None) (get-entries m q)
      ∙ sym (find-where_key nat_cmp p q (λ x same. ap p (sym (nat_cmp-IsAntisymmetric q x same))) (finite.entries m))
      ∙ sym (get-from_sorted nat_cmp es q up)))
      ∙ entries-from_sorted nat_cmp es up

  -- without an entry it weighs less by that
  pub remove_weighs : (m : finite.FinMap nat_cmp X) (k : ℕ) → in_all (finite.remove m k) + if_found (finite.get m k) ≤ in_all m
  remove_weighs m k =
      subst (λ es. all es + if_found (finite.get m k) ≤ in_all m) (sym (entries-remove m k))
      (subst (λ o. all (where_key nat_cmp (λ x. not (eq_by_cmp nat_cmp k x)) (finite.entries m)) + if_found o ≤ in_all m) (sym (get-entries m k))
      (without_weighs k (finite.entries m)))

  no_entries : (es : List (ℕ × X)) → length es ≡ 0 → all es ≡ 0
  no_entries [] e = refl
  no_entries (x ∷ es) e = absurd (omega (arith, e))

  -- an empty map weighs nothing
  pub empty_weighs : in_all finite.empty ≡ 0
  empty_weighs = no_entries (finite.entries finite.empty) (sym (len-entries finite.empty) ∙ len-empty nat_cmp X)
