-- A flow's chunk that is held as numbers is read as its bytes are.
use Rattle.std.proofs.Common.{◌≡◌, ◌∙◌, true, false, sym, arith}
use Rattle.flow_filter.specs.Filter.{IsFlow}
use Rattle.nf_function.specs.Forms.{packed_bytes}
use Rattle.nf_function.specs.Units.{has_hosts, is_transport}
use Rattle.nf_function.proofs.FlowFits.{is_transport_flow-from}
use Rattle.state_chunk.proofs.RecordLemmas.{record_found}
use Rattle.state_chunk.proofs.PackedLemmas.{FitBytes, IsBytes-packed_bytes, record_read-packed_bytes}
use Rattle.state_chunk.proofs.records.unpacked.Goals as goal

pub returns-clause-value : goal.returns-clause-value
returns-clause-value g c =
    let f = g.F.Function.semantics in
    let p = c.args.numbers in
    let ranges : IsFlow p.flow = record { proto = omega arith; local = omega arith; lport = omega arith; remote = omega arith; rport = omega arith } in
    let flows : has_hosts f.kind ≡ false = rw (← c.which.ensures) (sym c.has_hosts.ensures ∙ c.if-has_hosts.false) in
    let transport : is_transport p.flow.proto ≡ true = sym c.is_transport.ensures ∙ c.if-not-is_transport.false in
    rw (record_read-packed_bytes f p flows (is_transport_flow-from p.flow transport ranges)) c.packed_read.ensures

pub returns-clause-record : goal.returns-clause-record
returns-clause-record g c =
    let p = c.args.numbers in
    let fit : FitBytes p =
    record { version = omega arith; kind = omega arith; scope = omega arith; proto = omega arith; first = omega arith; second = omega arith } in
    record_found g.F.Function.semantics g.met.F.Function.laws (packed_bytes p) c.packed_read.result (IsBytes-packed_bytes p fit)
    (returns-clause-value g c)
