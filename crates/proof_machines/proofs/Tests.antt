-- A test is told apart: what is to be shown where it passes, and where it doesn't; and what is there only where it passes.
use Rattle.std.proofs.Common.{◌≡◌, Bool, true, false, Option, Some, None, refl}
use Rattle.std.specs.Prelude.{if◌then◌else◌}

abbrev pub where_true : {X : Type 0} → Bool → X → Option X
where_true true x = Some x
where_true false x = None

pub either_way : {G : Type 0} (b : Bool) → (b ≡ true → G) → (b ≡ false → G) → G
either_way true passes fails = passes refl
either_way false passes fails = fails refl

-- the same where what is to be shown speaks of the test
pub split : (b : Bool) (G : Bool → Type 0) → (b ≡ true → G true) → (b ≡ false → G false) → G b
split true G passes fails = passes refl
split false G passes fails = fails refl

-- what holds of both choices holds of the one that is made
pub by_if : {X : Type 0} (P : X → Type 0) (b : Bool) {x y : X} → P x → P y → P (if b then x else y)
by_if P true one other = one
by_if P false one other = other
