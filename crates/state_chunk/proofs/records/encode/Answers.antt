-- What is written is read again, and begins with the version that the record needs.
use Rattle.std.proofs.Common.{refl}
use Rattle.state_chunk.specs.Format.{record_bytes}
use Rattle.state_chunk.proofs.RecordLemmas.{record_read-record_bytes}
use Rattle.state_chunk.proofs.records.encode.Goals as goal

pub returns-clause-again : goal.returns-clause-again
returns-clause-again g c =
    rw c.in_ok-record_bytes.ensures (record_read-record_bytes g.F.Function.semantics g.met.F.Function.laws c.args.unit.now c.args.kept.now c.requires)

pub returns-clause-version : goal.returns-clause-version
unfolding record_bytes
returns-clause-version g c = rw c.in_ok-record_bytes.ensures refl
