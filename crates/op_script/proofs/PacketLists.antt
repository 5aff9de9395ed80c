-- Items that are the packets of a list: their packets are the list, and one packet more stands after them.
use Rattle.op_script.proofs.Words.{◌≡◌, ◌∙◌, ℕ, ◌+◌, ◌<◌, Bool, true, false, eqb, leb, List, [], ◌∷◌, ◌++◌, map, length, refl, ap, sym, subst, arith, list_all}
use Rattle.op_script.proofs.Words.{nat_tests, length-map, map-append, Packet, Msg, InPacket, Line, said_where, items_from, IsInRange, packets_of}
use Rattle.std.specs.Prelude.{◌&&◌}
use Rattle.op_script.specs.PacketItems.{ArePackets}
use Rattle.op_script.proofs.OneMore.{one_more}

pub packets_of-map : (ps : List Packet) → packets_of (map InPacket ps) ≡ ps
packets_of-map [] = refl
packets_of-map (p ∷ ps) = ap (λ ps. p ∷ ps) (packets_of-map ps)

-- one packet more
more_items : (items after : List Msg) (ps : List Packet) (p : Packet) → items ≡ map InPacket ps → after ≡ items ++ InPacket p ∷ []
    → after ≡ map InPacket (ps ++ p ∷ [])
more_items items after ps p are is = is ∙ ap (λ l. l ++ InPacket p ∷ []) are ∙ sym (map-append InPacket ps (p ∷ []))

pub more_packets : (items after : List Msg) (p : Packet) → items ≡ map InPacket (packets_of items) → after ≡ items ++ InPacket p ∷ []
    → packets_of after ≡ packets_of items ++ p ∷ []
more_packets items after p are is = ap packets_of (more_items items after (packets_of items) p are is) ∙ packets_of-map (packets_of items ++ p ∷ [])

still_items : (items after : List Msg) (p : Packet) → items ≡ map InPacket (packets_of items) → after ≡ items ++ InPacket p ∷ []
    → after ≡ map InPacket (packets_of after)
still_items items after p are is = more_items items after (packets_of items) p are is ∙ ap (map InPacket) (sym (more_packets items after p are is))

-- and still they are packets in range
pub still_packets : (items after : List Msg) (p : Packet) → ArePackets items → after ≡ items ++ InPacket p ∷ [] → IsInRange p → ArePackets after
still_packets items after p are is here = record {
  packets = still_items items after p are.packets is;
  in_range = one_more IsInRange (packets_of items) (packets_of after) p (more_packets items after p are.packets is) are.in_range here;
}

-- no line stands at a point before all of them
none_at : (k n : ℕ) (lines : List Line) → k < n → list_all (λ (line : Line). leb n line.at) lines ≡ true → said_where (λ at. eqb at k) lines ≡ []
none_at k n [] below later = refl
none_at k n (line ∷ more) below later = elim (leb n line.at)
    as (λ b. leb n line.at ≡ b → (b && list_all (λ (line : Line). leb n line.at) more) ≡ true → said_where (λ at. eqb at k) (line ∷ more) ≡ []) [
      | true ↦ λ far others.
          let off : eqb line.at k ≡ false = grind (arith, nat_tests, far, below) in
          rw off (none_at k n more below others)
      | false ↦ λ near others. absurd cc
    ] refl later

-- so where all lines stand after the last packet, the packets stand first
packets_first : (k n : ℕ) (ps : List Packet) (lines : List Line) → k + length ps ≡ n → list_all (λ (line : Line). leb n line.at) lines ≡ true
    → map InPacket ps ++ said_where (λ at. leb n at) lines ≡ items_from k ps lines
packets_first k n [] lines is later = ap (λ n. said_where (λ at. leb n at) lines) (let same : n ≡ k = omega (arith, is) in same)
packets_first k n (p ∷ ps) lines is later =
    let none = none_at k n lines (omega (arith, is)) later in
    let rest = packets_first (k + 1) n ps lines (omega (arith, is)) later in
    ap (λ l. InPacket p ∷ l) rest ∙ ap (λ l. l ++ InPacket p ∷ items_from (k + 1) ps lines) (sym none)

-- the items are the whole input before these lines
pub all_after : (ps : List Packet) (lines : List Line) (seen out : List Msg) (later : Bool) → seen ≡ map InPacket ps → out ≡ map InPacket ps
    → later ≡ list_all (λ (line : Line). leb (length seen) line.at) lines → later ≡ true
    → out ++ said_where (λ at. leb (length ps) at) lines ≡ items_from 0 ps lines
all_after ps lines seen out later are out_are tested is =
    let count : length seen ≡ length ps = ap (λ (l : List Msg). length l) are ∙ length-map ps InPacket in
    let holds : list_all (λ (line : Line). leb (length ps) line.at) lines ≡ true =
    subst (λ n. list_all (λ (line : Line). leb n line.at) lines ≡ true) count (sym tested ∙ is) in
    ap (λ l. l ++ said_where (λ at. leb (length ps) at) lines) out_are ∙ packets_first 0 (length ps) ps lines (omega arith) holds
