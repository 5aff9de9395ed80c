-- Steps between code and definition, which nobody has to believe: ends of TCP and UDP that were seen, a bit for each.
use Rattle.std.specs.Prelude.{ℕ, ◌≡◌, ◌+◌, ◌/◌, ◌%◌, ◌==◌, ◌||◌, Bool, true, if◌then◌else◌, List, get_or}
use Rattle.std.specs.Int.{bit_at}
use Rattle.nf_function.specs.Units.{is_udp}
use Rattle.addr_translator.specs.declared.mapping.Mapping.{Mapping}
use Rattle.addr_translator.specs.Mappings.{mapping_eq}
use Rattle.addr_translator.specs.Body.{is_mapping}

-- the number of an end: those of UDP come after those of TCP
abbrev pub number_of : Mapping → ℕ
number_of end = if is_udp end.proto then 65536 + end.port else end.port

-- whether the bit of this number is set
abbrev pub has_bit : List ℕ → ℕ → Bool
has_bit words number = bit_at (get_or words (number / 64) 0) (number % 64) == 1

-- whether the end was seen
abbrev pub has_end : List ℕ → Mapping → Bool
has_end words end = has_bit words (number_of end)

-- this end is seen too, and nothing else
abbrev pub IsAdded : Mapping → List ℕ → List ℕ → Type 0
IsAdded end before after = (other : Mapping) → is_mapping other ≡ true → has_end after other ≡ mapping_eq other end || has_end before other
