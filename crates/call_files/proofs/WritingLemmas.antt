-- What writing all of a text to a role says of it.
use Rattle.std.proofs.Common.{List, ℕ, Result, Ok, Err, MatchResult}
use Rattle.std.specs.Io.KnownBytes.{Appends}
use Rattle.nf_io.specs.Meaning.{Meaning, AppendsFront, HasCause}
use Rattle.call_files.specs.Writing.{Gains, written}

-- what writing all of a text says of the bytes that a role gained
pub gains_by : {E : Type 0} (text : List ℕ) (old new : Meaning) (r : Result (Unit {0}) E)
    → MatchResult r (λ _. Appends old.written new.written text) (λ _. AppendsFront old.written new.written text)
    → HasCause old.faults new.faults r → Gains (written text r) old new
gains_by text old new (Ok done) bytes cause = bytes
gains_by text old new (Err failed) bytes cause = (bytes, cause.failed)
