-- Lists whose elements have numbers: what a number finds after elements were put behind, changed or taken away, and what they all keep.
use Rattle.std.proofs.Common.{◌≡◌, ℕ, true, false, not, Option, Some, None, List, [], ◌∷◌, ◌++◌, ◌<◌, ◌≤◌, map, filter, find, option_map, refl, ap, subst, cond}
use Rattle.std.proofs.Common.{◌∙◌, arith, ◌==◌, if◌then◌else◌}
use Rattle.std.proofs.lemmas.Bool.{eqb-true}
use Rattle.std.proofs.lemmas.Bool.Decides.{nat_tests}
use Rattle.std.proofs.lemmas.List.Folds.{find-append}
use Rattle.actor_net.proofs.WeightLaws.{Each}
use Rattle.proof_machines.proofs.Tests.{split, by_if}

module _ {X : Type 0} (num : X → ℕ) where
  abbrev pub find_number : ℕ → List X → Option X
  find_number n xs = find (λ x. num x == n) xs

  abbrev pub drop_number : ℕ → List X → List X
  drop_number n xs = filter (λ x. not (num x == n)) xs

  -- each element with the number, changed
  abbrev pub change_number : ℕ → (X → X) → List X → List X
  change_number n change xs = map (λ x. if num x == n then change x else x) xs

  pub find-append_own : (n : ℕ) (x : X) (xs : List X) → (num x == n) ≡ true → find_number n xs ≡ None → find_number n (xs ++ x ∷ []) ≡ Some x
  find-append_own n x xs on none = find-append (λ y. num y == n) xs (x ∷ []) ∙ rw (none, on) refl

  pub find-append_other : (n : ℕ) (x : X) (xs : List X) → (num x == n) ≡ false → find_number n (xs ++ x ∷ []) ≡ find_number n xs
  find-append_other n x [] off = rw off refl
  find-append_other n x (y ∷ xs) off = ap (λ o. if num y == n then Some y else o) (find-append_other n x xs off)

  pub find-drop_own : (n : ℕ) (xs : List X) → find_number n (drop_number n xs) ≡ None
  find-drop_own n [] = refl
  find-drop_own n (x ∷ xs) = split (num x == n) (λ b. find_number n (cond (not b) (x ∷ drop_number n xs) (drop_number n xs)) ≡ None)
      (λ _. find-drop_own n xs) (λ off. rw off (find-drop_own n xs))

  pub find-drop_other : (m n : ℕ) (xs : List X) → (m == n) ≡ false → find_number n (drop_number m xs) ≡ find_number n xs
  find-drop_other m n [] off = refl
  find-drop_other m n (x ∷ xs) off =
      split (num x == m) (λ b. find_number n (cond (not b) (x ∷ drop_number m xs) (drop_number m xs)) ≡ (if num x == n then Some x else find_number n xs))
      (λ e. let same : num x ≡ m = eqb-true (num x) m e in let out : (num x == n) ≡ false = rw same off in rw out (find-drop_other m n xs off))
      (λ _. ap (λ o. if num x == n then Some x else o) (find-drop_other m n xs off))

  module _ (change : X → X) (keeps : (x : X) → num (change x) ≡ num x) where
    pub find-change_own : (n : ℕ) (xs : List X) → find_number n (change_number n change xs) ≡ option_map change (find_number n xs)
    find-change_own n [] = refl
    find-change_own n (x ∷ xs) =
        split (num x == n)
        (λ b. find_number n ((if b then change x else x) ∷ change_number n change xs) ≡ option_map change (if b then Some x else find_number n xs))
        (λ on. let new : (num (change x) == n) ≡ true = ap (λ k. k == n) (keeps x) ∙ on in rw new refl)
        (λ off. rw off (find-change_own n xs))

    pub find-change_other : (m n : ℕ) (xs : List X) → (m == n) ≡ false → find_number n (change_number m change xs) ≡ find_number n xs
    find-change_other m n [] off = refl
    find-change_other m n (x ∷ xs) off =
        split (num x == m) (λ b. find_number n ((if b then change x else x) ∷ change_number m change xs) ≡ (if num x == n then Some x else find_number n xs))
        (λ e.
        let same : num x ≡ m = eqb-true (num x) m e in
        let old : (num x == n) ≡ false = rw same off in
        let new : (num (change x) == n) ≡ false = ap (λ k. k == n) (keeps x) ∙ old in
        rw (new, old) (find-change_other m n xs off))
        (λ _. ap (λ o. if num x == n then Some x else o) (find-change_other m n xs off))

  pub none_below : (b n : ℕ) (xs : List X) → b ≤ n → Each (λ x. num x < b) xs → find_number n xs ≡ None
  none_below b n [] fresh few = refl
  none_below b n (x ∷ xs) fresh few =
      let less : num x < b = few.0 in let off : (num x == n) ≡ false = grind (arith, nat_tests, less, fresh) in rw off (none_below b n xs fresh few.1)

  pub found_number : (n : ℕ) (xs : List X) (x : X) → find_number n xs ≡ Some x → (num x == n) ≡ true
  found_number n [] x there = cc
  found_number n (y ∷ xs) x there = split (num y == n) (λ b. (if b then Some y else find_number n xs) ≡ Some x → (num x == n) ≡ true)
      (λ on is. let same : y ≡ x = cc in rw (← same) on) (λ _ is. found_number n xs x is) there

  module _ (P : X → Type 0) where
    pub each-drop : (n : ℕ) (xs : List X) → Each P xs → Each P (drop_number n xs)
    each-drop n [] h = tt
    each-drop n (x ∷ xs) h = by_if (Each P) (not (num x == n)) (h.0, each-drop n xs h.1) (each-drop n xs h.1)

    pub each-change : (n : ℕ) (change : X → X) → ((x : X) → (num x == n) ≡ true → P x → P (change x)) → (xs : List X) → Each P xs
        → Each P (change_number n change xs)
    each-change n change step [] h = tt
    each-change n change step (x ∷ xs) h = (
      split (num x == n) (λ b. P (if b then change x else x)) (λ e. step x e h.0) (λ _. h.0),
      each-change n change step xs h.1,
    )

    pub each_found : (n : ℕ) (xs : List X) (x : X) → Each P xs → find_number n xs ≡ Some x → P x × ((num x == n) ≡ true)
    each_found n [] x h there = cc
    each_found n (y ∷ xs) x h there = split (num y == n) (λ b. (if b then Some y else find_number n xs) ≡ Some x → P x × ((num x == n) ≡ true))
        (λ on is. let same : y ≡ x = cc in (subst P same h.0, rw (← same) on)) (λ _ is. each_found n xs x h.1 is) there
