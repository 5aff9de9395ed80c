-- Steps between code and definition, which nobody has to believe: the texts of a direction and of a time, and how many bytes
-- the text of a record and its words take at most.
use Rattle.std.specs.Prelude.{ℕ, ◌==◌, ◌++◌, if◌then◌else◌, List, [], codes, decimal}
use Rattle.flow_filter.specs.declared.flow.Direction.{Direction}
use Rattle.flow_filter.specs.declared.flow.Direction.TheVariants.{Out, In}

-- the whole text
abbrev pub record_room : ℕ
record_room = 192

-- the time of the last packet with its word
abbrev pub seen_room : ℕ
seen_room = 64

-- the name of a state
abbrev pub state_room : ℕ
state_room = 11

-- the word of a direction
abbrev pub direction_room : ℕ
direction_room = 3

-- `out` or `in`
abbrev pub direction_text : Direction → List ℕ
direction_text Out = codes "out"
direction_text In = codes "in"

-- ` seen N` where a time is known
abbrev pub seen_text : ℕ → List ℕ
seen_text seen = if seen == 0 then [] else codes " seen " ++ decimal seen
