-- What is read has one spelling.
use Rattle.std.proofs.Common.{◌≡◌, Result, Ok, Err, IfOk, List, ℕ, length, arith}
use Rattle.nf_function.specs.declared.kind.Kind.{Kind}
use Rattle.nf_function.specs.declared.tally.Tally.{Tally}
use Rattle.nf_function.specs.Stored.{IsBytes}
use Rattle.state_chunk.specs.declared.fault.ChunkFault.{ChunkFault}
use Rattle.state_chunk.specs.Format.{tally_bytes}
use Rattle.state_chunk.specs.Reading.{DecodesTo, tally_read}
use Rattle.state_chunk.proofs.TallyLemmas.{tally_read-ok}
use Rattle.state_chunk.proofs.tallies.decode_tally.Goals as goal

tally_found : (kind : Kind) (bytes : List ℕ) (result : Result Tally ChunkFault) → IsBytes bytes → IfOk result (λ tally. length tally.slots ≡ 16)
    → DecodesTo (λ (tally : Tally). tally.slots) result (tally_read kind bytes) → IfOk result (λ tally. bytes ≡ tally_bytes kind tally.slots)
tally_found kind bytes (Ok tally) are size given = tally_read-ok kind bytes tally.slots are size given
tally_found kind bytes (Err e) are size given = tt

pub returns-clause-spelled : goal.returns-clause-spelled
returns-clause-spelled c =
    tally_found c.args.kind c.args.bytes.now c.decoded_tally.result (λ i. omega (arith, c.type_inv.bytes i)) c.decoded_tally.ensures.slots
    c.decoded_tally.ensures.value
