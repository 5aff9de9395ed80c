-- Steps between code and definition, which nobody has to believe: how many bytes the words in the texts of the translator take at most.
use Rattle.std.specs.Prelude.{ℕ}

-- the word of an output
abbrev pub word_room : ℕ
word_room = 8
