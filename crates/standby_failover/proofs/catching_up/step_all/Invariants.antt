-- What the packets still to come make of the records is what all of them make; what standing by stays.
use Rattle.standby_failover.proofs.Words.{◌≡◌, map, drop, after_packets, packet_among}
use Rattle.standby_failover.proofs.catching_up.step_all.Given as goal

abbrev pub invariant-loop-number : goal.invariant-loop-number
invariant-loop-number g l =
    (after_packets g.F.Function.semantics l.site l.table.live (map (packet_among l.packets) (drop l.number-index l.numbers)) ≡ after_packets
    g.F.Function.semantics l.site l.initial.table.live (map (packet_among l.packets) l.numbers))
    × (l.table.standby ≡ l.initial.table.standby)
