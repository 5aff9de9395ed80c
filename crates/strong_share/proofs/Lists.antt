-- Functions that are changed at one place, some packets among others, and tests of the numbers of nodes.
use Rattle.strong_share.proofs.Words.{◌≡◌, ℕ, ◌+◌, Bool, true, false, List, [], ◌∷◌, ◌++◌, refl, sym, ap, ◌∙◌, append-nil, arith, if◌then◌else◌, ◌==◌, filter}
use Rattle.strong_share.proofs.Words.{filter-append, nat_tests, Decides-eqb}
pub use Rattle.actor_net.proofs.NumberCounts.{times_filter, filter_few}

-- changed at one place
abbrev pub put : {X : Type 0} → (ℕ → X) → ℕ → X → ℕ → X
put g j x k = if k == j then x else g k

-- those of a smaller kind among those of a greater
pub filter_among : (small great : ℕ → Bool) → ((p : ℕ) → small p ≡ true → great p ≡ true) → (xs : List ℕ) → filter small (filter great xs) ≡ filter small xs
filter_among small great in_it [] = refl
filter_among small great in_it (x ∷ xs) =
    elim (great x) as (λ b. great x ≡ b → filter small (if b then x ∷ filter great xs else filter great xs)
    ≡ (if small x then x ∷ filter small xs else filter small xs)) [
      | true ↦ λ _. ap (λ z. if small x then x ∷ z else z) (filter_among small great in_it xs)
      | false ↦ λ off. (elim (small x) as (λ b. small x ≡ b → filter small (filter great xs) ≡ (if b then x ∷ filter small xs else filter small xs)) [
        | true ↦ λ on. (let both : false ≡ true = sym off ∙ in_it x on in cc)
        | false ↦ λ _. filter_among small great in_it xs
      ] refl)
    ] refl

-- one more, which is one of these or isn't
pub filter_one_more : (mine : ℕ → Bool) (xs : List ℕ) (p : ℕ) → mine p ≡ true → filter mine (xs ++ p ∷ []) ≡ filter mine xs ++ p ∷ []
filter_one_more mine xs p on = filter-append mine xs (p ∷ []) ∙ ap (λ b. filter mine xs ++ (if b then p ∷ [] else [])) on

pub filter_no_more : (mine : ℕ → Bool) (xs : List ℕ) (p : ℕ) → mine p ≡ false → filter mine (xs ++ p ∷ []) ≡ filter mine xs
filter_no_more mine xs p off = filter-append mine xs (p ∷ []) ∙ ap (λ b. filter mine xs ++ (if b then p ∷ [] else [])) off ∙ append-nil (filter mine xs)

-- tests of nodes: the switch is 0, the controller 1, members are from 2
pub two_two : (k j : ℕ) → (k + 2 == j + 2) ≡ (k == j)
two_two k j = elim (k == j) as (λ b. (k == j) ≡ b → (k + 2 == j + 2) ≡ b) [
  | true ↦ λ on. grind (arith, nat_tests)
  | false ↦ λ off. grind (arith, nat_tests)
] refl

pub two_zero : (k : ℕ) → (k + 2 == 0) ≡ false
two_zero k = grind (arith, nat_tests)

pub two_one : (k : ℕ) → (k + 2 == 1) ≡ false
two_one k = grind (arith, nat_tests)

pub zero_two : (k : ℕ) → (0 == k + 2) ≡ false
zero_two k = grind (arith, nat_tests)

pub one_two : (k : ℕ) → (1 == k + 2) ≡ false
one_two k = grind (arith, nat_tests)

pub self : (k : ℕ) → (k == k) ≡ true
self k = (Decides-eqb k k).1 refl

pub swapped : (j k : ℕ) → (j == k) ≡ (k == j)
swapped j k = elim (k == j) as (λ b. (k == j) ≡ b → (j == k) ≡ b) [
  | true ↦ λ on. grind (arith, nat_tests)
  | false ↦ λ off. grind (arith, nat_tests)
] refl
