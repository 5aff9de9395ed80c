-- Where none of the payload is kept, zeros alone stand in its place.
use Rattle.std.proofs.Common.{◌≡◌, ◌-◌, ◌+◌, ◌++◌, ℕ, List, Some, option_map, ap, sym, ◌∙◌, take, drop, replicate, arith}
use Rattle.trace_reader.specs.declared.steer.Parts.{Parts}
use Rattle.trace_reader.specs.Steered.{nanos_of, packet_of, packet_with}
use Rattle.trace_reader.specs.Opened.{held_of}
use Rattle.trace_reader.proofs.steer.bare_packet_of.Goals as goal

-- the packet with zeros in place of its payload
zeros_alone : (k nanos len : ℕ) (f : List ℕ) (parts : Parts) → held_of len parts ≡ 0
    → record (packet_with k nanos len f parts) { head = replicate 64 0 } ≡ packet_with k nanos len f parts
zeros_alone k nanos len f parts none =
    ap (λ n. record (packet_with k nanos len f parts) { head = take n (drop (parts.start + parts.header + parts.transport) f) ++ replicate (64 - n) 0 })
    (sym none)

pub returns-clause-value : goal.returns-clause-value
unfolding packet_of
returns-clause-value c =
    let k = c.args.number in
    let f = c.args.front.now in
    let parts = c.in_ok-parts.parts in
    let zero : c.held_of.result ≡ 0 = omega (arith, c.if-held_of-gt0.false) in
    let none : held_of c.args.len parts ≡ 0 = sym c.held_of.ensures.value ∙ zero in
    ap (option_map (packet_with k (nanos_of c.args.form c.args.head.now) c.args.len f)) (sym c.in_ok-parts.ensures.value)
    ∙ ap Some (ap (λ n. packet_with k n c.args.len f parts) (sym c.nanos-nanos.ensures)
    ∙ sym (zeros_alone k c.nanos-nanos.result c.args.len f parts none) ∙ sym c.packet_around.ensures)
