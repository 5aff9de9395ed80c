-- So many packets are moved so far.
use Rattle.two_phase.proofs.Words.{◌≡◌, ◌-◌, ◌++◌, map, take, drop, InPacket}
use Rattle.two_phase.proofs.starting.push_packets.Given as goal

abbrev pub invariant-loop-count : goal.invariant-loop-count
invariant-loop-count l =
    (l.items.items ++ map InPacket (take (l.most - l._count) l.left.items) ≡ l.initial.items.items ++ map InPacket (take l.most l.initial.left.items))
    × (drop (l.most - l._count) l.left.items ≡ drop l.most l.initial.left.items)
