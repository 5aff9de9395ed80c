-- What stands beside numbers, each once: it is found by them, sorted or not.
use Rattle.run_headline.proofs.Words.{◌≡◌, ℕ, ◌+◌, ◌≤◌, Bool, true, false, cond, List, [], ◌∷◌, ◌++◌, map, refl, ap, ◌∙◌, arith, ◌==◌, if◌then◌else◌, filter}
use Rattle.run_headline.proofs.Words.{nat_cmp, nat_tests, nat_cmp_total, times, numbered_times, sorted_by, filter_few}
use Rattle.std.specs.Prelude.{flat_map}
use Rattle.run_headline.proofs.SortedParts.{one_stays}

module _ {X : Type 0} where
  abbrev pub beside : ℕ → List (ℕ × X) → List (ℕ × X)
  beside n xs = filter (λ x. x.0 == n) xs

  abbrev pub firsts : List (ℕ × X) → List ℕ
  firsts xs = map (λ x. x.0) xs

  none_beside : (n : ℕ) (xs : List (ℕ × X)) → times n (firsts xs) ≡ 0 → beside n xs ≡ []
  none_beside n [] none = refl
  none_beside n (x ∷ xs) none = elim (x.0 == n) as (λ b. (x.0 == n) ≡ b → cond b (x ∷ beside n xs) (beside n xs) ≡ []) [
    | true ↦ λ is.
        let turned : (n == x.0) ≡ true = grind (arith, nat_tests) in
        let some : 1 + times n (firsts xs) ≡ 0 = rw turned at none in
        absurd (omega (arith, some))
    | false ↦ λ is.
        let turned : (n == x.0) ≡ false = grind (arith, nat_tests) in
        let rest : 0 + times n (firsts xs) ≡ 0 = rw turned at none in
        none_beside n xs (omega (arith, rest))
  ] refl

  -- numbers that aren't the first one's
  passed : (x : ℕ × X) (xs : List (ℕ × X)) (ns : List ℕ) → times x.0 ns ≡ 0 → flat_map (λ n. beside n (x ∷ xs)) ns ≡ flat_map (λ n. beside n xs) ns
  passed x xs [] none = refl
  passed x xs (n ∷ ns) none = elim (x.0 == n) as (λ b. (x.0 == n) ≡ b
      → cond b (x ∷ beside n xs) (beside n xs) ++ flat_map (λ m. beside m (x ∷ xs)) ns ≡ beside n xs ++ flat_map (λ m. beside m xs) ns) [
        | true ↦ λ is. (let some : 1 + times x.0 ns ≡ 0 = rw is at none in absurd (omega (arith, some)))
        | false ↦ λ off. (let rest : 0 + times x.0 ns ≡ 0 = rw off at none in ap (λ l. beside n xs ++ l) (passed x xs ns (omega (arith, rest))))
      ] refl

  pub each_found : (mine : ℕ → Bool) (xs : List (ℕ × X)) → ((n : ℕ) → times n (firsts xs) ≤ 1)
      → flat_map (λ n. beside n xs) (filter mine (firsts xs)) ≡ filter (λ x. mine x.0) xs
  each_found mine [] once = refl
  each_found mine (x ∷ xs) once =
      let own : (x.0 == x.0) ≡ true = grind (arith, nat_tests) in
      let one : (if x.0 == x.0 then 1 else 0) + times x.0 (firsts xs) ≤ 1 = once x.0 in
      let first : 1 + times x.0 (firsts xs) ≤ 1 = rw own at one in
      let gone : times x.0 (firsts xs) ≡ 0 = omega (arith, first) in
      let rest = passed x xs (filter mine (firsts xs)) (omega (arith, filter_few mine x.0 (firsts xs), gone)) ∙ each_found mine xs (λ n. fewer n (once n)) in
      elim (mine x.0) as (λ b. flat_map (λ n. beside n (x ∷ xs)) (cond b (x.0 ∷ filter mine (firsts xs)) (filter mine (firsts xs)))
      ≡ cond b (x ∷ filter (λ y. mine y.0) xs) (filter (λ y. mine y.0) xs)) [
        | true ↦ ap (λ b. cond b (x ∷ beside x.0 xs) (beside x.0 xs) ++ flat_map (λ n. beside n (x ∷ xs)) (filter mine (firsts xs))) own
            ∙ ap (λ l. x ∷ l ++ flat_map (λ n. beside n (x ∷ xs)) (filter mine (firsts xs))) (none_beside x.0 xs gone) ∙ ap (λ l. x ∷ l) rest
        | false ↦ rest
      ]
    where
      fewer : (n : ℕ) → (if n == x.0 then 1 else 0) + times n (firsts xs) ≤ 1 → times n (firsts xs) ≤ 1
      fewer n all = omega (arith, all)

  -- sorted by their numbers, they are found so too
  pub sorted_beside : (xs : List (ℕ × X)) → ((n : ℕ) → times n (firsts xs) ≤ 1) → (n : ℕ) → beside n (sorted_by (λ x. x.0) nat_cmp xs) ≡ beside n xs
  sorted_beside xs once n =
      let few = numbered_times (λ x. x.0) n xs in
      one_stays (λ x. x.0) nat_cmp nat_cmp_total (λ x. x.0 == n) xs (omega (arith, few, once n))
