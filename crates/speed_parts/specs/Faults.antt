-- The status that tells why no sum is printed. This is the project's own.
use Rattle.std.specs.Prelude.{ℕ}
use Rattle.speed_parts.specs.declared.fault.Fault.{Fault}
use Rattle.speed_parts.specs.declared.fault.Fault.TheVariants.{Words, Refused, NoMemory}

-- the number that the program ends with
abbrev pub exit_number : Fault → ℕ
exit_number Words = 1
exit_number Refused = 2
exit_number NoMemory = 6
