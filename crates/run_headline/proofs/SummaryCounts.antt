-- The counts of a summary are those of the records under each name.
use Rattle.run_headline.proofs.Words.{◌≡◌, ℕ, suc, ◌+◌, Bool, true, false, cond, List, [], ◌∷◌, ◌++◌, length, map, refl, sym, ap, ◌∙◌, arith, if◌then◌else◌}
use Rattle.run_headline.proofs.Words.{zip, count_by, flat_map, sum_by, is_lt, bytes_eq, unit_cmp, InstanceState, NamedInstance, NamedRecord, by_unit}
use Rattle.run_headline.proofs.Words.{named_records, put_in, sorted_by, instance_under}
use Rattle.std.specs.FinMap as finite
use Rattle.std.proofs.lemmas.List.Sums.{sum_by-append, sum_by-cons}
use Rattle.nf_function.specs.declared.unit.Unit as units

module _ {R : Type 0} where
  pub names_under : {F : Type 0} (names : List (List ℕ)) (is : List (InstanceState F R)) → length is ≡ length names
      → map (λ i. i.name) (map instance_under (zip names is)) ≡ names
  names_under [] is same = refl
  names_under (name ∷ names) [] same = absurd (omega (arith, same))
  names_under (name ∷ names) (i ∷ is) same = ap (λ l. name ∷ l) (names_under names is (omega (arith, same)))

  module _ (name : List ℕ) where
    abbrev has_name : NamedRecord R → Bool
    has_name s = bytes_eq s.name name

    abbrev counted : List (NamedRecord R) → ℕ
    counted records = count_by has_name records

    counted_append : (xs ys : List (NamedRecord R)) → counted (xs ++ ys) ≡ counted xs + counted ys
    counted_append xs ys = sum_by-append (λ s. cond (has_name s) 1 0) xs ys

    counted_cons : (x : NamedRecord R) (xs : List (NamedRecord R)) → counted (x ∷ xs) ≡ cond (has_name x) 1 0 + counted xs
    counted_cons x xs = sum_by-cons (λ s. cond (has_name s) 1 0) x xs

    -- sorted or not
    counted_put : (x : NamedRecord R) (ys : List (NamedRecord R)) → counted (put_in (λ s. s.unit) unit_cmp x ys) ≡ counted (x ∷ ys)
    counted_put x [] = refl
    counted_put x (y ∷ ys) =
        elim (is_lt (unit_cmp y.unit x.unit)) as (λ b. counted (cond b (y ∷ put_in (λ s. s.unit) unit_cmp x ys) (x ∷ y ∷ ys)) ≡ counted (x ∷ y ∷ ys)) [
          | true ↦
              let first = counted_cons y (put_in (λ s. s.unit) unit_cmp x ys) in
              omega (arith, counted_put x ys, first, counted_cons x ys, counted_cons x (y ∷ ys), counted_cons y ys)
          | false ↦ refl
        ]

    counted_sorted : (xs : List (NamedRecord R)) → counted (sorted_by (λ s. s.unit) unit_cmp xs) ≡ counted xs
    counted_sorted [] = refl
    counted_sorted (x ∷ xs) =
        let put = counted_put x (sorted_by (λ s. s.unit) unit_cmp xs) in
        let first = counted_cons x (sorted_by (λ s. s.unit) unit_cmp xs) in
        omega (arith, put, counted_sorted xs, first, counted_cons x xs)

    -- those of one instance
    abbrev under : List ℕ → units.Unit × R → NamedRecord R
    under own e = record { unit = e.0; name = own; kept = e.1 }

    under_name : (own : List ℕ) (es : List (units.Unit × R)) → counted (map (under own) es) ≡ (if bytes_eq own name then length es else 0)
    under_name own [] = elim (bytes_eq own name) as (λ b. ◌≡◌ {A = ℕ} 0 (if b then 0 else 0)) [ true ↦ refl | false ↦ refl ]
    under_name own (e ∷ es) = counted_cons (under own e) (map (under own) es) ∙ by_name (bytes_eq own name) (under_name own es)
      where
        by_name : (b : Bool) → counted (map (under own) es) ≡ (if b then length es else 0)
            → cond b 1 0 + counted (map (under own) es) ≡ (if b then suc (length es) else 0)
        by_name true rest = omega (arith, rest)
        by_name false rest = omega (arith, rest)

    abbrev share_of : NamedInstance R → ℕ
    share_of i = if bytes_eq i.name name then finite.len i.table.live else 0

    of_each : (there : List (NamedInstance R)) → counted (flat_map (named_records true) there) ≡ sum_by share_of there
    of_each [] = refl
    of_each (i ∷ there) =
        let own = under_name i.name (finite.entries i.table.live) ∙ ap (λ n. if bytes_eq i.name name then n else 0) (sym (finite.len-entries i.table.live)) in
        omega (arith, counted_append (named_records true i) (flat_map (named_records true) there), own, of_each there, sum_by-cons share_of i there)

    pub counts_each : (there : List (NamedInstance R)) → sum_by share_of there ≡ count_by has_name (by_unit true there)
    counts_each there = sym (counted_sorted (flat_map (named_records true) there) ∙ of_each there)
