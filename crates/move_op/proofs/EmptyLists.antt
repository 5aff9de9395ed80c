-- A list is empty where its length is 0.
use Rattle.std.proofs.Common.{◌≡◌, List, [], ◌∷◌, length, refl, arith}
use Rattle.std.specs.Prelude.{◌==◌}
use Rattle.std.proofs.lemmas.Bool.Decides.{nat_tests}
use Rattle.move_op.specs.Table.{is_nil}

pub nil_by_length : {X : Type 0} (xs : List X) → (length xs == 0) ≡ is_nil xs
nil_by_length [] = refl
nil_by_length (x ∷ xs) = grind (arith, nat_tests)
