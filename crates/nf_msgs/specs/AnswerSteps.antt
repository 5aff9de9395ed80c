-- Steps between code and definition, which nobody has to believe: a part of an answer's words.
use Rattle.std.specs.Prelude.{ℕ, ◌++◌, List, decimal}

-- words and then a number
abbrev pub numbered : List ℕ → ℕ → List ℕ
numbered words number = words ++ decimal number
