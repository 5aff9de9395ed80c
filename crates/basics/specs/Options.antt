-- Chains of values that may not be there. This project's own, for definitions.
use Rattle.std.specs.Prelude.{Option, option_and_then}

-- go on with what is there
infixl 10 ◌>>=◌
abbrev pub ◌>>=◌ : {A B : Type 0} → Option A → (A → Option B) → Option B
o >>= f = option_and_then f o
