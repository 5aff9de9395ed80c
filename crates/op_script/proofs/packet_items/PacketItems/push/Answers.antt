-- One packet more stands after the others, as an item.
use Rattle.op_script.proofs.Words.{◌≡◌, ◌∙◌, [], ◌∷◌, ◌++◌, List, ap, Msg, InPacket, packets_of}
use Rattle.op_script.proofs.PacketLists.{more_packets, still_packets}
use Rattle.op_script.proofs.packet_items.PacketItems.push.Goals as goal

pub invariant_of-self-2 : goal.invariant_of-self-2
invariant_of-self-2 c = still_packets c.self.inside.items.items c.push_reserved.new.self.items c.args.packet.now c.self.invariant
    (c.push_reserved.ensures.items ∙ ap (λ (l : List Msg). l ++ InPacket c.in_ok-captured.captured ∷ []) c.make_room.ensures.same
    ∙ ap (λ p. c.self.inside.items.items ++ InPacket p ∷ []) c.in_ok-captured.ensures.same) c.of.ensures.in_range

pub returns-clause-ok : goal.returns-clause-ok
returns-clause-ok c =
    let is = c.self.view_is in
    let seen : packets_of c.self.inside.items.items ≡ c.args.self.now = cc in
    more_packets c.self.inside.items.items c.push_reserved.new.self.items c.args.packet.now c.self.invariant.packets
    (c.push_reserved.ensures.items ∙ ap (λ (l : List Msg). l ++ InPacket c.in_ok-captured.captured ∷ []) c.make_room.ensures.same
    ∙ ap (λ p. c.self.inside.items.items ++ InPacket p ∷ []) c.in_ok-captured.ensures.same)
    ∙ ap (λ l. l ++ c.args.packet.now ∷ []) seen
