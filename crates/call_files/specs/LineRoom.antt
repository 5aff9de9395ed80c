-- Steps between code and definition, which nobody has to believe: how many bytes the line of a status and its parts take at most.
use Rattle.std.specs.Prelude.{ℕ}

-- the whole line
abbrev pub line_room : ℕ
line_room = 128

-- what stands before the name of a role
abbrev pub front_room : ℕ
front_room = 32

-- a number in decimal digits
abbrev pub digits_room : ℕ
digits_room = 40

-- the words for what is wrong with a capture
abbrev pub trace_kind_room : ℕ
trace_kind_room = 14

-- the word of a role
abbrev pub role_room : ℕ
role_room = 7

-- the words for a rule that a script breaks
abbrev pub script_kind_room : ℕ
script_kind_room = 13

-- the word for what is wrong with a journal
abbrev pub journal_kind_room : ℕ
journal_kind_room = 7
