-- Steps between code and definition, which nobody has to believe: how many bytes the parts of a filter's text take at most.
use Rattle.std.specs.Prelude.{ℕ}

-- the whole text
abbrev pub text_room : ℕ
text_room = 384

-- a field's protocol with its name
abbrev pub protocol_room : ℕ
protocol_room = 16

-- a field's name with its equals sign, and a comma before it
abbrev pub name_room : ℕ
name_room = 8

-- a prefix
abbrev pub prefix_room : ℕ
prefix_room = 120

-- a port with its name, and a comma before it
abbrev pub port_room : ℕ
port_room = 40
