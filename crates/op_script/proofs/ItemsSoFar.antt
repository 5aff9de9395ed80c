-- The input so far, one packet more, also where it is late, and the end.
use Rattle.op_script.proofs.Words.{◌≡◌, ℕ, ◌+◌, ◌<◌, eqb, leb, List, ◌∷◌, [], ◌++◌, map, length, get_or, take, drop, refl, ap, sym, subst, ◌∙◌, arith}
use Rattle.op_script.proofs.Words.{take_all, Packet, Msg, InPacket, Line, said_where, items_from, items}
use Rattle.std.proofs.Common.{set}
use Rattle.std.proofs.lemmas.List.{append_assoc, drop_all, drop_more, drop-set-lt, take_more_set}
use Rattle.nf_msgs.specs.declared.msg.Msg.TheVariants.{InEnd}

no_packets : (ps : List Packet) → map InPacket ps ≡ [] → ps ≡ []
no_packets [] none = refl
no_packets (p ∷ ps) none = absurd (cc)

-- items that are packets: the first is one, and so are the others
pub record Split (items rest : List Msg) (item : Msg) (ps : List Packet) : Type 0 where
  pub packet : Packet
  pub left : List Packet
  pub first : item ≡ InPacket packet
  pub rest_are : rest ≡ map InPacket left
  pub packets : ps ≡ packet ∷ left

pub split : (items rest : List Msg) (item : Msg) (ps : List Packet) → items ≡ item ∷ rest → items ≡ map InPacket ps → Split items rest item ps
split items rest item [] first are = let none : item ∷ rest ≡ [] = cc in absurd (cc)
split items rest item (p ∷ ps) first are =
    let same : item ∷ rest ≡ InPacket p ∷ map InPacket ps = cc in
    record { packet = p; left = ps; first = cc; rest_are = cc; packets = refl }

-- what an input is put together from
pub record InputParts : Type 0 where
  pub packets : List Packet
  pub lines : List Line

-- what is written, and what the packets that wait and the lines still give
pub record SoFar (input : InputParts) (point : ℕ) (waiting out : List Msg) : Type 0 where
  pub left : List Packet
  pub waits : waiting ≡ map InPacket left
  pub counted : point + length left ≡ length input.packets
  pub same : out ++ items_from point left input.lines ≡ items_from 0 input.packets input.lines

pub so_far_start : (input : InputParts) (items late : List Msg) → items ≡ map InPacket input.packets → late ≡ [] → SoFar input 0 items late
so_far_start input items late are none = record {
  left = input.packets;
  waits = are;
  counted = omega arith;
  same = ap (λ l. l ++ items_from 0 input.packets input.lines) none;
}

-- all packets stand in their places, or are late
pub all_written : (input : InputParts) (count : ℕ) (items late out : List Msg) → count ≡ length items → out ≡ items ++ late
    → SoFar input count (drop count items) (take count items ++ late)
    → out ++ said_where (λ at. leb (length input.packets) at) input.lines ≡ items_from 0 input.packets input.lines
all_written input count items late out all is so_far =
    let none_wait : map InPacket so_far.left ≡ [] = sym so_far.waits ∙ drop_all count items (omega (arith, all)) in
    let no_left : so_far.left ≡ [] = no_packets so_far.left none_wait in
    let same : (take count items ++ late) ++ said_where (λ at. leb count at) input.lines ≡ items_from 0 input.packets input.lines =
    rw no_left at so_far.same in
    let counted : count + length {A = Packet} [] ≡ length input.packets = rw no_left at so_far.counted in
    let whole : out ≡ take count items ++ late = is ∙ ap (λ l. l ++ late) (sym (take_all count items (omega (arith, all)))) in
    let end : length input.packets ≡ count = omega (arith, counted) in
    rw (end, whole) same

-- the whole input
pub all_items : (packets : List Packet) (lines : List Line) (count : ℕ) (before last after : List Msg) → count ≡ length packets
    → before ++ said_where (λ at. leb (length packets) at) lines ≡ items_from 0 packets lines
    → last ≡ before ++ said_where (λ at. leb count at) lines → after ≡ last ++ InEnd ∷ [] → after ≡ items packets lines
all_items packets lines count before last after counted so_far said end =
    end ∙ ap (λ t. t ++ InEnd ∷ []) (said ∙ ap (λ n. before ++ said_where (λ at. leb n at) lines) counted ∙ so_far)

-- the lines at the point are written, and a packet
one_more : (lines : List Line) (point : ℕ) (packet : Packet) (packets left : List Packet) (before said last after whole : List Msg)
    → said ≡ said_where (λ at. eqb at point) lines → last ≡ before ++ said → after ≡ last ++ InPacket packet ∷ [] → packets ≡ packet ∷ left
    → before ++ items_from point packets lines ≡ whole → after ++ items_from (point + 1) left lines ≡ whole
one_more lines point packet packets left before said last after whole is more end first so_far =
    let rest : before ++ (said_where (λ at. eqb at point) lines ++ InPacket packet ∷ items_from (point + 1) left lines) ≡ whole = rw first at so_far in
    let all : after ≡ (before ++ said) ++ InPacket packet ∷ [] = end ∙ ap (λ ms. ms ++ InPacket packet ∷ []) more in
    rw all (simp append_assoc (rw is rest))

pub so_far_more : (input : InputParts) (point : ℕ) (waiting rest before said last after : List Msg) (item : Msg)
    → said ≡ said_where (λ at. eqb at point) input.lines → last ≡ before ++ said → after ≡ last ++ item ∷ [] → waiting ≡ item ∷ rest
    → SoFar input point waiting before → SoFar input (point + 1) rest after
so_far_more input point waiting rest before said last after item is more end first so_far =
    let parts = split waiting rest item so_far.left first so_far.waits in
    let count : point + length (parts.packet ∷ parts.left) ≡ length input.packets = rw parts.packets at so_far.counted in
    record {
      left = parts.left;
      waits = parts.rest_are;
      counted = omega (arith, count);
      same = one_more input.lines point parts.packet so_far.left parts.left before said last after _ is more
          (end ∙ ap (λ m. last ++ m ∷ []) parts.first) parts.packets so_far.same;
    }

-- the item at the place is late, and what was late first stands there
pub late_more : (input : InputParts) (place : ℕ) (items late said last after : List Msg) (item first : Msg) → place < length items
    → said ≡ said_where (λ at. eqb at place) input.lines → last ≡ late ++ said → first ∷ after ≡ last ++ item ∷ []
    → item ≡ get_or items place item → SoFar input place (drop place items) (take place items ++ late)
    → SoFar input (place + 1) (drop (place + 1) (set items place first)) (take (place + 1) (set items place first) ++ after)
late_more input place items late said last after item first there is more end stood so_far =
    let next : drop place items ≡ item ∷ drop (place + 1) items =
    drop_more items place item there ∙ ap (λ x. x ∷ drop (place + 1) items) (sym stood) in
    let stands : take (place + 1) (set items place first) ++ after ≡ ((take place items ++ late) ++ said) ++ item ∷ [] =
    ap (λ l. l ++ after) (take_more_set items place first there) ∙ append_assoc (take place items) (first ∷ []) after
    ∙ ap (λ l. take place items ++ l) (end ∙ ap (λ l. l ++ item ∷ []) more) ∙ simp append_assoc refl in
    subst (λ rest. SoFar input (place + 1) rest (take (place + 1) (set items place first) ++ after))
    (sym (drop-set-lt (place + 1) items place first (omega arith)))
    (so_far_more input place (drop place items) (drop (place + 1) items) (take place items ++ late) said _ _ item is refl stands next so_far)
