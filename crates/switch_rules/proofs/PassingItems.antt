-- Whether some item of a list passes a test: where another test is weaker, and where an item is written anew. Whichever way a call ended.
use Rattle.std.proofs.Common.{◌≡◌, ℕ, zero, suc, ◌<◌, Bool, true, List, [], ◌∷◌, length, set, get_or, Result, Ok, Err, inl, inr, ap, ◌∙◌, arith}
use Rattle.std.specs.Prelude.{OnErr, OnOk}
use Rattle.std.specs.List.{list_any}
use Rattle.std.proofs.lemmas.Bool.{or_cases, or_left, or_right}

module _ {X : Type 0} where
  pub any_weaker : (p q : X → Bool) → ((x : X) → p x ≡ true → q x ≡ true) → (xs : List X) → list_any p xs ≡ true → list_any q xs ≡ true
  any_weaker p q gives [] any = any
  any_weaker p q gives (x ∷ xs) any = elim (or_cases (p x) _ any) [
    | inl here ↦ or_left _ _ (gives x here)
    | inr later ↦ or_right _ _ (any_weaker p q gives xs later)
  ]

  -- an item that passes, or none, is written over one that does
  pub any_set : (p : X → Bool) (xs : List X) (at : ℕ) (x x' : X) → x ≡ get_or xs at x → (p x ≡ true → p x' ≡ true)
      → list_any p xs ≡ true → list_any p (set xs at x') ≡ true
  any_set p [] at x x' is keeps any = any
  any_set p (y ∷ xs) zero x x' is keeps any = elim (or_cases (p y) _ any) [
    | inl here ↦ or_left _ _ (keeps (ap p is ∙ here))
    | inr later ↦ or_right _ _ later
  ]
  any_set p (y ∷ xs) (suc at) x x' is keeps any = elim (or_cases (p y) _ any) [
    | inl here ↦ or_left _ _ here
    | inr later ↦ or_right _ _ (any_set p xs at x x' is keeps later)
  ]

  pub set_there : (p : X → Bool) (xs : List X) (at : ℕ) (x : X) → at < length xs → p x ≡ true → list_any p (set xs at x) ≡ true
  set_there p [] at x within is = absurd (omega (arith, within))
  set_there p (y ∷ xs) zero x within is = or_left _ _ is
  set_there p (y ∷ xs) (suc at) x within is = or_right _ _ (set_there p xs at x (omega (arith, within)) is)

-- what follows at `Ok` and at `Err` alike
pub either_way : {E P Q A : Type 0} (result : Result (Unit {0}) E) → OnOk result P → OnErr result Q → (P → A) → (Q → A) → A
either_way (Ok x) p q f g = f p
either_way (Err e) p q f g = g q
