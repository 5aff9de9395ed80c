-- What a tape, one role's file in memory, holds. This project's own.
use Rattle.std.specs.Prelude.{ℕ, ◌-◌, List, drop, Some, option_map, string_bytes, vec_len, vec_capacity}
use Rattle.nf_io.specs.declared.tape.Tape.{Tape}
use Rattle.nf_io.specs.Meaning.{Meaning}

-- the bytes left to read
abbrev pub left_on : Tape → List ℕ
left_on tape = drop tape.taken tape.bytes.items

-- how many bytes can be appended without more memory
abbrev pub room_on : Tape → ℕ
room_on tape = vec_capacity tape.written - vec_len tape.written

-- the four meanings of its role
abbrev pub meaning_on : Tape → Meaning
meaning_on tape = record { left = Some (left_on tape); written = Some tape.written.items; faults = tape.faults; name = option_map string_bytes tape.name }
