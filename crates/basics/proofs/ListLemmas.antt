-- Plain facts on lists: a place that isn't there, and a list that is as it is without its first.
use Rattle.std.proofs.Common.{◌≡◌, ◌≤◌, ℕ, Bool, true, false, cond, List, [], length, drop, None, Some, refl, ap, ◌∙◌, arith, length-drop}
use Rattle.std.specs.Prelude.{position}
use Rattle.std.specs.List.{list_any, position_or_len}
use Rattle.std.proofs.lemmas.Bool.{ltb-false}
use Rattle.std.proofs.lemmas.List.{nil_from_length}
use Rattle.std.proofs.lemmas.List.Folds.{list_any_none}
use Rattle.std.proofs.lemmas.List.Sums.{fails_before_first}

-- where there is no place that passes, the first that does is past the end
pub past_the_end : {X : Type 0} (p : X → Bool) (xs : List X) → position p xs ≡ None → length xs ≤ position_or_len p xs
past_the_end p xs none = ltb-false _ _ (not_within _ _ none)
  where
    not_within : (b : Bool) (n : ℕ) → cond b (Some n) None ≡ None → b ≡ false
    not_within true n e = cc
    not_within false n e = refl

pub none_passes : {X : Type 0} (p : X → Bool) (xs : List X) → position p xs ≡ None → list_any p xs ≡ false
none_passes p xs none = let past = past_the_end p xs none in list_any_none p xs (λ k d lt. fails_before_first p xs k d (omega arith))

-- a list that is as it is without its first has none
pub no_first : {X : Type 0} (xs ys : List X) → xs ≡ ys → ys ≡ drop 1 xs → xs ≡ []
no_first xs ys same rest = nil_from_length xs (omega (arith, ap length (same ∙ rest), length-drop 1 xs))
