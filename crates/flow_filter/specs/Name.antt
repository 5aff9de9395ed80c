-- The name of an instance. This project's own rule.
use Rattle.std.specs.Prelude.{ℕ, Bool, ◌&&◌, ◌||◌, nat_le, false, List, [], ◌∷◌, length, Option}
use Rattle.std.specs.List.{list_all, list_any, position}
use Rattle.std.specs.Str.{bytes_eq}
use Prim.Native.Char.{code}

-- a lower-case letter or a digit, in ASCII
abbrev pub is_name_byte : ℕ → Bool
is_name_byte b = (nat_le (code "a") b && nat_le b (code "z")) || (nat_le (code "0") b && nat_le b (code "9"))

-- 1 to 16 of them
abbrev pub is_name : List ℕ → Bool
is_name bytes = nat_le 1 (length bytes) && nat_le (length bytes) 16 && list_all is_name_byte bytes

-- some name stands twice in the list
abbrev pub has_twice : List (List ℕ) → Bool
has_twice [] = false
has_twice (name ∷ more) = list_any (λ other. bytes_eq other name) more || has_twice more

-- the place of the first of the names that has these bytes
abbrev pub place_of : List (List ℕ) → List ℕ → Option ℕ
place_of names name = position (λ other. bytes_eq other name) names
