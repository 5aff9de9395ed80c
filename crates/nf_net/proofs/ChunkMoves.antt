-- In every run each chunk on its way is one of a unit that its move takes, and that move is under way.
use Rattle.nf_net.proofs.Words.{◌≡◌, ◌≢◌, ℕ, zero, suc, ◌<◌, true, cond, Some, List, [], ◌∷◌, map, sym, ap, ◌∙◌, subst, arith, flat_map, Chunk, Semantics}
use Rattle.nf_net.proofs.Words.{same_unit, spelled, same_unit_equiv, Msg, Piece, Phase, Operation, Move, Copy, Share, on_link, EachOn, Each, each-append}
use Rattle.nf_net.proofs.Words.{seat_shape, third_silent, each_found, OpLabel, Untaken, Node, Switch, on_links, IsMoving, chunks_in, kept_in, kept_for, kept_by}
use Rattle.nf_net.proofs.Words.{is_chunk_of, spelled_of, chunks_on_way, IsChunk, is_sys, given, Given, place, WhereAll, Apart_from_shares, Under_share, S, A}
use Rattle.nf_net.proofs.Words.{came_by, Label, AreGoodChunks, HasPieces, node_of, Unit}
use Rattle.std.specs.Prelude.{filter, All}
use Rattle.std.specs.FinMap as finite
use Rattle.nf_net.proofs.PlaceSteps.{open_at}
use Rattle.move_op.specs.Phases as phase
use Rattle.move_op.specs.Move.{chunks_of}
use Rattle.proof_machines.proofs.net.Units.{see}
use Rattle.nf_net.proofs.paths.ChunkLemmas.{all_chunks, spelled_more}
use Rattle.nf_net.proofs.paths.ChunkPlaces.{good_pieces, free_pieces, none_on_way}
use Rattle.nf_net.proofs.RunWords.{AreUnderWay, labels, on_each, Seated, seated, HasSides, Are_there, Rests, each_place, each_link, Reached, AsMoves}
use Rattle.nf_net.proofs.paths.PathNodes.{each_entry}
use Rattle.nf_net.proofs.paths.SharedChunks.{none_on_way as none_shared}
use Rattle.nf_net.specs.NumberedChunks.{numbered_on_way, IsOfItsMove}
use Rattle.nf_net.proofs.NumberedChunks.{bare, same_chunks, shorter, IsOwn, own_on_way}

all_from : {X : Type 0} (P : X → Type 0) (xs : List X) → Each P xs → All P xs
all_from P [] h k d small = absurd (omega (arith, small))
all_from P (x ∷ xs) h zero d small = h.0
all_from P (x ∷ xs) h (suc k) d small = all_from P xs h.1 k d (omega (arith, small))

each_from : {X Y : Type 0} (h : X → Y) (P : Y → Type 0) (xs : List X) → Each P (map h xs) → Each (λ x. P (h x)) xs
each_from h P [] e = tt
each_from h P (x ∷ xs) e = (e.0, each_from h P xs e.1)

module _ {R : Type 0} (f : Semantics R) (g : Given) where
  -- a chunk that spells a record of its unit
  abbrev Named : Chunk → Type 0
  Named = IsChunk f (place g)

  msg_named : (s r : ℕ) (m : Msg) → Label f g s r m → Each Named (chunks_in m)
  msg_named s r (Msg.Piece op piece) l = all_chunks f g piece.chunks l.1.good
  msg_named s r (Msg.Put op piece first) l = all_chunks f g piece.chunks l.1.good
  msg_named s r (Msg.Restore op chunks) l = all_chunks f g chunks l.1
  msg_named s r (Msg.PutNo op refused) l = all_chunks f g refused.chunks l.1
  msg_named s r m l = tt

  link_named : (s r : ℕ) (ms : List Msg) → EachOn (Label f g s r) ms → Each Named (flat_map chunks_in ms)
  link_named s r [] h = tt
  link_named s r (m ∷ ms) h = each-append Named (chunks_in m) (flat_map chunks_in ms) (msg_named s r m h.0) (link_named s r ms h.1)

  pieces_named : (ps : List Piece) → Each (λ p. AreGoodChunks f g p.chunks) ps → Each Named (chunks_of ps)
  pieces_named [] h = tt
  pieces_named (p ∷ ps) h = each-append Named p.chunks (chunks_of ps) (all_chunks f g p.chunks h.0) (pieces_named ps h.1)

  phase_named : (p : Phase) → HasPieces f g p → Each Named (kept_in p)
  phase_named (phase.Streaming frozen free came d) h = each-append Named (chunks_of frozen) (chunks_of free)
      (pieces_named frozen (good_pieces f g frozen h.0)) (pieces_named free (free_pieces f g d free h.1))
  phase_named p h = tt

  -- such chunks, where each unit of which there is one has a fact
  module _ (Q : Unit → Type 0) (P : Chunk → Type 0) (has : (c : Chunk) (u : Unit) → c.unit ≡ Some u → Q u → P c) where
    each_has : (cs : List Chunk) → Each Named cs → ((u : Unit) → spelled_of f u cs ≢ [] → Q u) → Each P cs
    each_has [] h q = tt
    each_has (c ∷ cs) h q =
        let u = h.0.entry.0 in
        let own : same_unit u u ≡ true = same_unit_equiv.refl u in
        let more = spelled_more f u (place g) c cs h.0 in (
          has c u h.0.unit (q u (λ none. (let there : spelled f c ∷ spelled_of f u cs ≡ [] =
              ap (λ b. map (spelled f) (cond b (c ∷ filter (is_chunk_of u) cs) (filter (is_chunk_of u) cs))) (sym own) ∙ sym more ∙ none in
              cc))),
          each_has cs h.1 (λ v some. q v (λ none. some (shorter f (is_chunk_of v c) c (filter (is_chunk_of v) cs) none))),
        )

module _ {F R : Type 0} (here : Reached F R) (busy : AreUnderWay here.setting here.n here.w here.j) where
  open here use {setting, n, w, nodes, j, world}
  open setting use {function as f, config as c, items}

  abbrev g : Given
  g = given setting

  -- all chunks on their way are of units
  on_named : (s r : ℕ) → s < n → r < n → Each (Named f g) (flat_map chunks_in (on_link w s r))
  on_named s r hs hr = on_each here (λ ms. Each (Named f g) (flat_map chunks_in ms)) tt s r
      (λ off. link_named f g s r (on_link w s r) (labels here s r hs hr off))

  kept_named : (k : ℕ) → Each (Named f g) (kept_by (node_of j.nodes k))
  kept_named zero = tt
  kept_named (suc zero) = each_entry (Named f g) (λ k o. kept_for o) j.nodes.controller.operations by_got
    where
      by_got : (k : ℕ) (o : Operation) → finite.get j.nodes.controller.operations k ≡ Some o → Each (Named f g) (kept_for o)
      by_got k (Move m) there = phase_named f g m.phase (j.shown_is.controller.moves k m there).pieces
      by_got k (Copy c) there = tt
      by_got k (Share s) there = tt
  kept_named (suc (suc k)) = tt

  all_named : Each (Named f g) (chunks_on_way w)
  all_named =
      let d : Node F R = Switch j.nodes.switch in
      each-append (Named f g) (on_links w chunks_in) (flat_map kept_by w.nodes)
      (each_link w world.square (Named f g) (flat_map chunks_in) (λ s r hs hr. on_named s r (rw (← nodes) hs) (rw (← nodes) hr)))
      (each_place (Named f g) kept_by w.nodes d
      (λ i small. subst (λ y. Each (Named f g) (kept_by y)) (sym (j.nodes_are i (rw (← nodes) small) d)) (kept_named i)))

  -- a unit with a chunk on its way has an open move
  record IsMoved (u : Unit) : Type 0 where
    apart : Untaken (S f g) u (A f g) j.world
    seat : Seated here u
    moving : IsMoving items u w.log
    number : moving.op ≡ seat.op.num

  moved : (u : Unit) → spelled_of f u (chunks_on_way w) ≢ [] → IsMoved u
  moved u some = by_where (j.shown_is.every.unit u)
    where
      by_seat : AsMoves here u → Untaken (S f g) u (A f g) j.world → IsMoved u
      by_seat at apart = by_sides k.ends
        where
          k : Seated here u
          k = seated here u at

          by_sides : HasSides here k.op (seat_shape (S f g).F k.seat) → IsMoved u
          by_sides (Are_there e found src dst) =
              let label = each_found (OpLabel (S f g) (see (S f g) (is_sys f g.site g.packet) u k.op k.third)) k.op.num j.world.ops e k.holds.ops found in
              let on = open_at setting n w j busy u k.op.num e found (label.0.0 ∙ label.1) in
              record { apart = apart; seat = k; moving = on.moving; number = on.number }
          by_sides (Rests none none_b at_a) = absurd (some (none_on_way here u apart k.op k.third
              (seat_shape (S f g).F k.seat) k.holds (third_silent (S f g).F k.seat) none))

      by_where : WhereAll (S f g) (A f g) (is_sys f g.site g.packet) u j.world (came_by f g w.log u) → IsMoved u
      by_where (Apart_from_shares h none) = by_seat h.is h.untaken
      by_where (Under_share x before b h o i) = absurd (some (none_shared here u x before (came_by f g w.log u).diverted h))

  -- so has each chunk, by its unit
  record HasMove (y : Chunk) : Type 0 where
    unit : Unit
    unit_is : y.unit ≡ Some unit
    moved_so : IsMoved unit

  all_have : Each (λ x. HasMove x.1) (numbered_on_way w)
  all_have =
      each_from bare HasMove (numbered_on_way w)
      (subst (Each HasMove) (sym (same_chunks w))
      (each_has f g IsMoved HasMove (λ y u is_unit h. record { unit = u; unit_is = is_unit; moved_so = h }) (chunks_on_way w) all_named moved))

  -- and that is the move whose number it goes with
  pub chunks_moved : All (IsOfItsMove items w.log) (numbered_on_way w)
  chunks_moved i d small =
      let h = all_from (λ x. HasMove x.1) (numbered_on_way w) all_have i d small in
      let k = h.moved_so.seat in
      let own = all_from (IsOwn h.unit k.op.num) (numbered_on_way w) (own_on_way here h.unit h.moved_so.apart k) i d small in
      record {
        of = record { unit = h.unit; unit_is = h.unit_is; moving = h.moved_so.moving };
        number = own h.unit_is ∙ ap Some (sym h.moved_so.number);
      }
