-- How making a capture answers, and how what was made is read. This project's own.
use Rattle.std.specs.Prelude.{◌≡◌, ℕ, false, List, length, Option, Result, Ok, Err}
use Rattle.std.specs.Io.KnownBytes.{Appends}
use Rattle.nf_io.specs.Meaning.{AppendsFront}
use Rattle.trace_reader.specs.declared.fault.TraceFault.{TraceFault}
use Rattle.trace_reader.specs.declared.trace.Trace.{Trace}
use Rattle.trace_reader.specs.declared.make.MakeFault.{MakeFault}
use Rattle.trace_reader.specs.declared.make.MakeFault.TheVariants.{Write, NoMemory}

-- the bytes were appended, or a front of them where writing failed, or nothing where memory ran out
abbrev pub Makes : List ℕ → Option (List ℕ) → Option (List ℕ) → Result (Unit {0}) MakeFault → Type 0
Makes bytes old new (Ok done) = Appends old new bytes
Makes bytes old new (Err Write) = AppendsFront old new bytes
Makes bytes old new (Err NoMemory) = new ≡ old

-- so many packets are steered, no record is skipped, and the capture isn't cut
abbrev pub IsReadWhole : ℕ → Result Trace TraceFault → Type 0
IsReadWhole packets (Ok trace) = (length trace.packets ≡ packets) × (trace.skipped ≡ 0) × (trace.cut ≡ false)
IsReadWhole packets (Err e) = ⊥
