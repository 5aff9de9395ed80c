-- Steps between code and definition, which nobody has to believe: the bytes between words, and the words that begin a comment.
use Rattle.std.specs.Prelude.{ℕ, ◌==◌, ◌||◌, Bool, slice_index}
use Prim.Native.Char.{code}
use Rattle.op_script.specs.Statements.{Word}

-- the greatest K
abbrev pub most_at : ℕ
most_at = 4294967295

-- a space or a tab
abbrev pub is_blank : ℕ → Bool
is_blank byte = byte == code " " || byte == code "\t"

-- the word begins a comment
abbrev pub is_comment : Word → Bool
is_comment word = slice_index word 0 == code "#"
