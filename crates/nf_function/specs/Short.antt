-- A body in few numbers: two bytes, two numbers of eight bytes, and a third of these where it isn't 0. This project's own format.
use Rattle.std.specs.Prelude.{ℕ, ◌==◌, if◌then◌else◌, List, [], ◌∷◌, ◌++◌, Option, None, Some}
use Rattle.basics.specs.Options.{◌>>=◌}
use Rattle.nf_function.specs.declared.short.ShortBody.{ShortBody}
use Rattle.nf_function.specs.Stored.{number_bytes, first_byte, first_number}

-- the bytes of a number that isn't 0
abbrev pub some_number_bytes : ℕ → List ℕ
some_number_bytes n = if n == 0 then [] else number_bytes 8 n

unfoldable pub short_bytes : ShortBody → List ℕ
short_bytes b = (b.first ∷ b.second ∷ []) ++ number_bytes 8 b.third ++ number_bytes 8 b.fourth ++ some_number_bytes b.last

-- the number that bytes end with: one that isn't 0
abbrev pub last_number : ℕ × List ℕ → Option ℕ
last_number (n, []) = if n == 0 then None else Some n
last_number (n, byte ∷ more) = None

-- the number that bytes spell: 0 where there are none
unfoldable pub some_number_in : List ℕ → Option ℕ
some_number_in [] = Some 0
some_number_in (byte ∷ more) = first_number 8 (byte ∷ more) >>= last_number

-- the body that bytes spell
unfoldable pub short_in : List ℕ → Option ShortBody
short_in bytes = do
  first ← first_byte bytes
  second ← first_byte first.1
  third ← first_number 8 second.1
  fourth ← first_number 8 third.1
  last ← some_number_in fourth.1
  Some (record { third = third.0; fourth = fourth.0; last = last; first = first.0; second = second.0 })
