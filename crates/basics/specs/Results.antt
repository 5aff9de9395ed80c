-- Chains of results, of which the first fault is the answer. This project's own, for definitions.
use Rattle.std.specs.Prelude.{Result, Ok, Err}

-- go on with what is there
infixl 10 ◌>>=◌
abbrev pub ◌>>=◌ : {A B E : Type 0} → Result A E → (A → Result B E) → Result B E
Ok x >>= f = f x
Err fault >>= f = Err fault
