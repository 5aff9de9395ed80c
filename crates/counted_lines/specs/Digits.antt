-- Steps between code and definition, which nobody has to believe: the byte of a digit in ASCII.
use Rattle.std.specs.Prelude.{ℕ, ◌+◌}
use Rattle.basics.specs.Bytes.{digit_zero}

-- the byte of a decimal digit
abbrev pub digit_byte : ℕ → ℕ
digit_byte digit = digit_zero + digit
