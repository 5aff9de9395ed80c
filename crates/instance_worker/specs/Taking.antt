-- Steps between code and definition, which nobody has to believe: whether chunks were taken in, by what the table answered.
use Rattle.std.specs.Prelude.{◌≡◌, Bool, true, false, Result, Ok, Err}
use Rattle.record_table.specs.declared.refusal.ImportFault.{ImportFault}
use Rattle.record_table.specs.declared.refusal.ImportFault.TheVariants.{Limit, Bad, NoMemory}

-- they were where it answered Ok; out of memory is no answer
abbrev pub AreTaken : {X : Type 0} → Bool → Result X ImportFault → Type 0
AreTaken are (Ok x) = are ≡ true
AreTaken are (Err (Limit held coming limit chunks)) = are ≡ false
AreTaken are (Err (Bad place chunks)) = are ≡ false
AreTaken are (Err (NoMemory chunks)) = ⊥
