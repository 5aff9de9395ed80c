-- What an operating system tells of the bytes in its files and streams. This project's own.
use Rattle.std.specs.Prelude.{ℕ, List, Option, None}

-- the bytes of a file that is opened under a name, and of one that is made under it; and those written to the standard output and the standard error:
-- each where it is told
pub record SystemBytes : Type 0 where
  pub opened : List ℕ → Option (List ℕ)
  pub created : List ℕ → Option (List ℕ)
  pub output : Option (List ℕ)
  pub errors : Option (List ℕ)

-- nothing is told
abbrev pub untold_bytes : SystemBytes
untold_bytes = record { opened = λ _. None; created = λ _. None; output = None; errors = None }
