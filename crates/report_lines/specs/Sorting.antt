-- A stable sort: the elements by their keys, and those whose keys tie as they stood. This project's own.
use Rattle.std.specs.Prelude.{List, [], ◌∷◌, if◌then◌else◌}
use Rattle.std.specs.Ordering.{is_lt}
use Rattle.std.specs.declared.cmp.Ordering.{Ordering}

module _ {X K : Type 0} (key : X → K) (cmp : K → K → Ordering) where
  -- an element put after those whose keys are less
  abbrev pub put_in : X → List X → List X
  put_in x [] = x ∷ []
  put_in x (y ∷ ys) = if is_lt (cmp (key y) (key x)) then y ∷ put_in x ys else x ∷ y ∷ ys

  abbrev pub sorted_by : List X → List X
  sorted_by [] = []
  sorted_by (x ∷ xs) = put_in x (sorted_by xs)
