-- Numbers in lists, as those of packets: how often one stands there, and a list that is the front of another. This project's own.
use Rattle.std.specs.Prelude.{◌≡◌, ℕ, ◌+◌, ◌==◌, if◌then◌else◌, List, [], ◌∷◌, ◌++◌}

-- how often a number stands in a list
abbrev pub times : ℕ → List ℕ → ℕ
times p [] = 0
times p (q ∷ qs) = (if p == q then 1 else 0) + times p qs

-- a list and more after it
pub record IsFront (front all : List ℕ) : Type 0 where
  pub rest : List ℕ
  pub whole : front ++ rest ≡ all
