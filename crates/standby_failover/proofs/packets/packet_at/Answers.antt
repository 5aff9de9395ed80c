-- The packet with a number standing at the place before it.
use Rattle.std.proofs.Common.{◌-◌, ◌≤◌, Some, sym, ap, ◌∙◌, arith}
use Rattle.std.proofs.lemmas.Option.{slice_get-get_or, slice_get_past}
use Rattle.standby_failover.proofs.NumberedPackets.{none_below, found_number}
use Rattle.standby_failover.proofs.packets.packet_at.Goals as goal

pub returns-then-number-eq0 : goal.returns-then-number-eq0
returns-then-number-eq0 c = sym (none_below 1 c.args.number c.args.packets.now c.requires (omega (arith, c.if-number-eq0.true)))

pub returns-in-Some : goal.returns-in-Some
returns-in-Some c =
    let k = c.in-Some.ensures.lookup in
    let some : 1 ≤ c.args.number = omega (arith, c.if-number-eq0.false) in
    ap Some (c.packet.ensures ∙ k.1) ∙ sym (slice_get-get_or c.args.packets.now (c.args.number - 1) c.in-Some.packet.now k.3.0)
    ∙ sym (found_number c.args.number c.args.packets.now c.requires some)

pub returns-in-None : goal.returns-in-None
returns-in-None c =
    let k = c.in-None.ensures.lookup in
    let some : 1 ≤ c.args.number = omega (arith, c.if-number-eq0.false) in
    sym (found_number c.args.number c.args.packets.now c.requires some ∙ slice_get_past c.args.packets.now (c.args.number - 1) k.3)
