-- How often numbers stand in lists: in two in a row, among those that a test keeps, and as often as elements have them.
use Rattle.std.proofs.Common.{◌≡◌, ◌≤◌, ℕ, ◌+◌, Bool, true, false, cond, List, [], ◌∷◌, ◌++◌, map, length, refl, sym, ap, ◌∙◌, arith}
use Rattle.std.specs.Prelude.{if◌then◌else◌, ◌==◌, filter}
use Rattle.std.proofs.lemmas.Bool.Decides.{nat_tests, Decides-eqb}
use Rattle.actor_net.specs.Numbers.{times}

pub times-append : (p : ℕ) (xs ys : List ℕ) → times p (xs ++ ys) ≡ times p xs + times p ys
times-append p [] ys = omega arith
times-append p (x ∷ xs) ys = omega (arith, times-append p xs ys)

-- one that a test keeps stands as often among those that it keeps
pub times_filter : (mine : ℕ → Bool) (p : ℕ) → mine p ≡ true → (xs : List ℕ) → times p (filter mine xs) ≡ times p xs
times_filter mine p on [] = refl
times_filter mine p on (x ∷ xs) = elim (mine x) as (λ b. mine x ≡ b
    → times p (if b then x ∷ filter mine xs else filter mine xs) ≡ (if p == x then 1 else 0) + times p xs) [
      | true ↦ λ _. ap (λ k. (if p == x then 1 else 0) + k) (times_filter mine p on xs)
      | false ↦ λ off. elim (p == x) as (λ b. (p == x) ≡ b → times p (filter mine xs) ≡ (if b then 1 else 0) + times p xs) [
        | true ↦ λ e. let never : true ≡ false = sym on ∙ ap mine ((Decides-eqb p x).0 e) ∙ off in cc
        | false ↦ λ _. let rest = times_filter mine p on xs in omega (arith, rest)
      ] refl
    ] refl

-- one of any kind stands there no more often
pub filter_few : (mine : ℕ → Bool) (p : ℕ) (xs : List ℕ) → times p (filter mine xs) ≤ times p xs
filter_few mine p [] = omega arith
filter_few mine p (x ∷ xs) = elim (mine x) as (λ b. times p (if b then x ∷ filter mine xs else filter mine xs) ≤ (if p == x then 1 else 0) + times p xs) [
  | true ↦ (let rest = filter_few mine p xs in omega (arith, rest))
  | false ↦ (let rest = filter_few mine p xs in omega (arith, rest))
]

-- as many elements have a number as it stands among their numbers
pub numbered_times : {X : Type 0} (of : X → ℕ) (n : ℕ) (xs : List X) → length (filter (λ x. of x == n) xs) ≡ times n (map of xs)
numbered_times of n [] = refl
numbered_times of n (x ∷ xs) = elim (of x == n) as (λ b. (of x == n) ≡ b
    → length (cond b (x ∷ filter (λ y. of y == n) xs) (filter (λ y. of y == n) xs)) ≡ (if n == of x then 1 else 0) + times n (map of xs)) [
      | true ↦ λ is. (let turned : (n == of x) ≡ true = grind (arith, nat_tests) in let rest = numbered_times of n xs in rw turned (omega (arith, rest)))
      | false ↦ λ is. (let turned : (n == of x) ≡ false = grind (arith, nat_tests) in let rest = numbered_times of n xs in rw turned (omega (arith, rest)))
    ] refl

-- a list in which nothing is
pub none_in : (ns : List ℕ) → ((p : ℕ) → times p ns ≡ 0) → ns ≡ []
none_in [] none = refl
none_in (n ∷ ns) none =
    let own : (n == n) ≡ true = grind (arith, nat_tests) in
    let here : (if n == n then 1 else 0) + times n ns ≡ 0 = none n in
    let some : 1 + times n ns ≡ 0 = rw own at here in
    absurd (omega (arith, some))
