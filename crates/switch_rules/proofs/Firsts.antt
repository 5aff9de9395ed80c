-- Lists without the items that a test leaves out after earlier ones.
use Rattle.std.proofs.Common.{◌≡◌, Bool, true, false, cond, not, ◌||◌, List, [], ◌∷◌, ◌++◌, Option, Some, is_some, refl, ap, sym, ◌∙◌}
use Rattle.std.specs.Prelude.{find, filter}
use Rattle.std.specs.List.{list_any, IsDistinct, AllByRecursion}
use Rattle.std.proofs.lemmas.Bool.{true≢false, false_from_ne_true}
use Rattle.std.proofs.lemmas.List.Elements.{filter-append}
use Rattle.std.proofs.lemmas.Map.Keys.{IsDistinct-cons, IsDistinct-head, IsDistinct-tail}
use Rattle.switch_rules.specs.Rules.{firsts}

or_since : (a b c : Bool) → (a ≡ false → b ≡ c) → (a || b) ≡ (a || c)
or_since true b c same = refl
or_since false b c same = same refl

module _ {X : Type 0} where
  passed_over : (p q : X → Bool) (x : X) (xs : List X) (rest : Option X) → (p x ≡ true → q x ≡ true) → find p (filter q xs) ≡ rest
      → find p (filter q (x ∷ xs)) ≡ cond (p x) (Some x) rest
  passed_over p q x xs rest keeps e = elim (q x) as (λ b. q x ≡ b → find p (cond b (x ∷ filter q xs) (filter q xs)) ≡ cond (p x) (Some x) rest) [
    | true ↦ λ is. ap (cond (p x) (Some x)) e
    | false ↦ λ is. rw (false_from_ne_true (p x) (λ at. true≢false (sym (keeps at) ∙ is))) e
  ] refl

  -- a search finds the same where only items are left out that it passes over
  pub find-filter : (p q : X → Bool) (xs : List X) → AllByRecursion (λ x. p x ≡ true → q x ≡ true) xs → find p (filter q xs) ≡ find p xs
  find-filter p q [] keeps = refl
  find-filter p q (x ∷ xs) keeps = passed_over p q x xs (find p xs) keeps.0 (find-filter p q xs keeps.1)

  pub any-find : (p : X → Bool) (xs : List X) → list_any p xs ≡ is_some (find p xs)
  any-find p [] = refl
  any-find p (x ∷ xs) = elim (p x) as (λ b. (b || list_any p xs) ≡ is_some (cond b (Some x) (find p xs))) [ true ↦ refl | false ↦ any-find p xs ]

  pub AllByRecursion-filter : (P : X → Type 0) (q : X → Bool) (xs : List X) → AllByRecursion P xs → AllByRecursion P (filter q xs)
  AllByRecursion-filter P q [] all = tt
  AllByRecursion-filter P q (x ∷ xs) all = elim (q x) as (λ b. AllByRecursion P (cond b (x ∷ filter q xs) (filter q xs))) [
    | true ↦ (all.0, AllByRecursion-filter P q xs all.1)
    | false ↦ AllByRecursion-filter P q xs all.1
  ]

  pub AllByRecursion-firsts : (P : X → Type 0) (t : X → X → Bool) (xs : List X) → AllByRecursion P xs → AllByRecursion P (firsts t xs)
  AllByRecursion-firsts P t [] all = tt
  AllByRecursion-firsts P t (x ∷ xs) all = (all.0, AllByRecursion-filter P (λ later. not (t x later)) (firsts t xs) (AllByRecursion-firsts P t xs all.1))

  -- an item that is added where no earlier one leaves it out
  added : (q : X → Bool) (x : X) (before left_out : Bool) → q x ≡ not left_out → filter q (cond before [] (x ∷ [])) ≡ cond (left_out || before) [] (x ∷ [])
  added q x true true e = refl
  added q x true false e = refl
  added q x false true e = rw e refl
  added q x false false e = rw e refl

  -- one more item stays, or is left out by an earlier one
  pub firsts-push : (t : X → X → Bool) (xs : List X) (y : X) → firsts t (xs ++ y ∷ []) ≡ firsts t xs ++ cond (list_any (λ x. t x y) xs) [] (y ∷ [])
  firsts-push t [] y = refl
  firsts-push t (x ∷ xs) y = ap (λ ys. x ∷ ys) (
      ap (filter (λ later. not (t x later))) (firsts-push t xs y)
      ∙ filter-append (λ later. not (t x later)) (firsts t xs) _
      ∙ ap (λ ys. filter (λ later. not (t x later)) (firsts t xs) ++ ys) (added (λ later. not (t x later)) y (list_any (λ x. t x y) xs) (t x y) refl))

  all_pass : (P : X → Type 0) (Q : X → Type 0) → ((x : X) → P x → Q x) → (xs : List X) → AllByRecursion P xs → AllByRecursion Q xs
  all_pass P Q gives [] all = tt
  all_pass P Q gives (x ∷ xs) all = (gives x all.0, all_pass P Q gives xs all.1)

  -- what leaves an item out is among the firsts, where the test goes on through what it leaves out
  pub any-firsts : (P : X → Type 0) (t : X → X → Bool) (y : X) → ((x k : X) → P x → P k → t x k ≡ true → t k y ≡ true → t x y ≡ true) → (xs : List X)
      → AllByRecursion P xs
      → list_any (λ x. t x y) (firsts t xs) ≡ list_any (λ x. t x y) xs
  any-firsts P t y through [] all = refl
  any-firsts P t y through (x ∷ xs) all = or_since (t x y) _ _ (λ off.
      any-find (λ k. t k y) (filter (λ later. not (t x later)) (firsts t xs))
      ∙ ap is_some (find-filter (λ k. t k y) (λ later. not (t x later)) (firsts t xs) (all_pass P (λ k. t k y ≡ true → not (t x k) ≡ true)
      (λ k pk at. ap not (false_from_ne_true (t x k) (λ is. true≢false (sym (through x k all.0 pk is at) ∙ off)))) (firsts t xs)
      (AllByRecursion-firsts P t xs all.1)))
      ∙ sym (any-find (λ k. t k y) (firsts t xs)) ∙ any-firsts P t y through xs all.1)

  left_out : (t : X → X → Bool) (x : X) (ys : List X) → AllByRecursion (λ y. t x y ≡ false) (filter (λ later. not (t x later)) ys)
  left_out t x [] = tt
  left_out t x (y ∷ ys) = elim (t x y) as (λ b. t x y ≡ b
      → AllByRecursion (λ z. t x z ≡ false) (cond (not b) (y ∷ filter (λ later. not (t x later)) ys) (filter (λ later. not (t x later)) ys))) [
        | true ↦ λ is. left_out t x ys
        | false ↦ λ is. (is, left_out t x ys)
      ] refl

  distinct_left : (t : X → X → Bool) (q : X → Bool) (xs : List X) → IsDistinct t xs → IsDistinct t (filter q xs)
  distinct_left t q [] d = d
  distinct_left t q (x ∷ xs) d = elim (q x) as (λ b. IsDistinct t (cond b (x ∷ filter q xs) (filter q xs))) [
    | true ↦ IsDistinct-cons t x (filter q xs) (AllByRecursion-filter (λ y. t x y ≡ false) q xs (IsDistinct-head t x xs d))
        (distinct_left t q xs (IsDistinct-tail t x xs d))
    | false ↦ distinct_left t q xs (IsDistinct-tail t x xs d)
  ]

  none_distinct : (t : X → X → Bool) → IsDistinct t []
  unfolding IsDistinct
  none_distinct t = tt

  -- no item is left out by an earlier one
  pub IsDistinct-firsts : (t : X → X → Bool) (xs : List X) → IsDistinct t (firsts t xs)
  IsDistinct-firsts t [] = none_distinct t
  IsDistinct-firsts t (x ∷ xs) =
      IsDistinct-cons t x _ (left_out t x (firsts t xs)) (distinct_left t (λ later. not (t x later)) (firsts t xs) (IsDistinct-firsts t xs))
