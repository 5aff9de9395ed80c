-- Steps between code and definition, which nobody has to believe: the bytes of an address.
use Rattle.std.specs.Prelude.{ℕ, ◌/◌, ◌%◌, ◌^◌}

-- the byte of an address with `shift` bits after it
abbrev pub byte_of : ℕ → ℕ → ℕ
byte_of address shift = address / 2 ^ shift % 256
