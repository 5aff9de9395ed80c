-- Steps between code and definition, which nobody has to believe: the packets that stand in items. This project's own.
use Rattle.std.specs.Prelude.{◌≡◌, All, List, [], ◌∷◌, map}
use Rattle.flow_filter.specs.declared.packet.Packet.{Packet}
use Rattle.flow_filter.specs.Packet.{IsInRange}
use Rattle.nf_msgs.specs.declared.msg.Msg.{Msg}
use Rattle.nf_msgs.specs.declared.msg.Msg.TheVariants.{InPacket}

-- the packets of items, in order
abbrev pub packets_of : List Msg → List Packet
packets_of [] = []
packets_of (InPacket packet ∷ items) = packet ∷ packets_of items
packets_of (item ∷ items) = packets_of items

-- the items are packets whose numbers are in range
pub record ArePackets (items : List Msg) : Type 0 where
  pub packets : items ≡ map InPacket (packets_of items)
  pub in_range : All IsInRange (packets_of items)
