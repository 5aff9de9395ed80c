-- Where the numbers of some things rise, each is found by its number.
use Rattle.run_headline.proofs.Words.{◌≡◌, ℕ, suc, ◌<◌, ◌≤◌, false, true, Some, List, [], ◌∷◌, map, refl, ◌∙◌, arith, ◌==◌, find, AllByRecursion, nat_tests}
use Rattle.run_headline.proofs.Words.{IsRising}

-- numbers that rise from somewhere rise from below
pub rising_from : (low least : ℕ) (ns : List ℕ) → low ≤ least → IsRising least ns → IsRising low ns
rising_from low least [] le rising = tt
rising_from low least (n ∷ ns) le rising = (let first = rising.0 in omega (arith, le, first), rising.1)

module _ {X : Type 0} (number : X → ℕ) where
  -- the thing is found by its number
  abbrev pub IsFound : List X → X → Type 0
  IsFound xs x = find (λ y. number y == number x) xs ≡ Some x

  find_past : (n : ℕ) (xs : List X) (x : X) → number x < n → find (λ y. number y == n) (x ∷ xs) ≡ find (λ y. number y == n) xs
  find_past n xs x low = let off : (number x == n) ≡ false = grind (arith, nat_tests, low) in rw off refl

  all_past : (x : X) (least : ℕ) (xs ys : List X) → number x < least → IsRising least (map number ys) → AllByRecursion (IsFound xs) ys
      → AllByRecursion (IsFound (x ∷ xs)) ys
  all_past x least xs [] low rising all = tt
  all_past x least xs (y ∷ ys) low rising all =
      let less : number x < number y = omega (arith, low, rising.0) in
      (find_past (number y) xs x less ∙ all.0, all_past x (suc (number y)) xs ys (omega (arith, less)) rising.1 all.1)

  pub all_found : (least : ℕ) (xs : List X) → IsRising least (map number xs) → AllByRecursion (IsFound xs) xs
  all_found least [] rising = tt
  all_found least (x ∷ xs) rising =
      let own : (number x == number x) ≡ true = grind (arith, nat_tests) in
      (rw own refl, all_past x (suc (number x)) xs xs (omega arith) rising.1 (all_found (suc (number x)) xs rising.1))
