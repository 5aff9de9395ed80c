-- Steps between code and definition, which nobody has to believe: the bytes that choices are kept in. This project's own.
use Rattle.std.specs.Prelude.{◌≡◌, ◌==◌, ◌&&◌, ◌+◌, ◌-◌, ◌*◌, ◌/◌, ◌%◌, ltb, ℕ, zero, suc, if◌then◌else◌, Option, None, Some, List, [], ◌∷◌, length}
use Rattle.std.specs.List.{flat_map}
use Rattle.actor_net.specs.declared.choice.Choice.{Choice}

-- a choice that takes from or goes to one of the first two nodes, where the other's number is below 63: which of the two, and which way
abbrev pub short_code : Choice → Option ℕ
short_code c =
    if ltb c.node 2 && ltb c.port 63 then Some (c.node * 64 + c.port)
    else if ltb c.port 2 && ltb c.node 63 then Some (128 + c.port * 64 + c.node)
    else None

-- the bytes of a choice: the one that stands for it, or its node and its port after a byte that stands for none
abbrev pub code_by : Choice → Option ℕ → List ℕ
code_by c (Some byte) = byte ∷ []
code_by c None = 255 ∷ c.node ∷ c.port ∷ []

abbrev pub code_of : Choice → List ℕ
code_of c = code_by c (short_code c)

-- the choice that a byte stands for
abbrev pub short_choice : ℕ → Choice
short_choice byte =
    if ltb byte 128 then record { node = byte / 64; port = byte % 64 } else record { node = byte % 64; port = byte / 64 - 2 }

-- the choice whose node and port come first, and what comes after
abbrev pub long_choice : List ℕ → Option (Choice × List ℕ)
long_choice (node ∷ port ∷ rest) = Some (record { node = node; port = port }, rest)
long_choice _ = None

-- the first choice that bytes spell, and the bytes after it
abbrev pub first_choice : List ℕ → Option (Choice × List ℕ)
first_choice [] = None
first_choice (byte ∷ rest) = if byte == 255 then long_choice rest else Some (short_choice byte, rest)

-- a choice, and what the bytes after it give
abbrev pub choice_then : Option (Choice × List ℕ) → (List ℕ → List Choice) → List Choice
choice_then None more = []
choice_then (Some first) more = first.0 ∷ more first.1

-- the first so many choices that bytes spell
unfoldable pub coded_choices : ℕ → List ℕ → List Choice
coded_choices zero bytes = []
coded_choices (suc count) bytes = choice_then (first_choice bytes) (coded_choices count)

-- bytes that spell so many choices and nothing else
pub record AreCoded (count : ℕ) (bytes : List ℕ) : Type 0 where
  pub coded : bytes ≡ flat_map code_of (coded_choices count bytes)
  pub counted : length (coded_choices count bytes) ≡ count
