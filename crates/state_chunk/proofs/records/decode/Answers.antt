-- What is read is valid, and has one spelling.
use Rattle.std.proofs.Common.{arith}
use Rattle.state_chunk.proofs.RecordLemmas.{record_found}
use Rattle.state_chunk.proofs.records.decode.Goals as goal

pub returns-clause-record : goal.returns-clause-record
returns-clause-record g c =
    record_found g.F.Function.semantics g.met.F.Function.laws c.args.bytes.now c.decoded.result (λ i. omega (arith, c.type_inv.bytes i)) c.decoded.ensures
