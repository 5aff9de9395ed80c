-- What all chunks on their way in a world spell of a unit is the unit's record where its seat has it: on the link from or to one side of its
-- move, or among the pieces that the controller keeps.
use Rattle.nf_net.proofs.Words.{◌≡◌, ◌≢◌, ℕ, zero, suc, ◌<◌, ◌≤◌, true, false, Option, Some, None, List, [], ◌∷◌, ◌++◌, map, get_or, refl, sym, ap, ◌∙◌, subst}
use Rattle.nf_net.proofs.Words.{arith, if◌then◌else◌, ◌==◌, ◌&&◌, nat_lt, flat_map, ltb-false, nat_tests, Decides-eqb, Decides-ltb, map-append, Semantics}
use Rattle.nf_net.proofs.Words.{stored_of, Piece, Door, Phase, Operation, Move, Copy, Share, on_link, State, records, records_on, Each, each_map, expect}
use Rattle.nf_net.proofs.Words.{is_over, Op, Frame, see_phase, Open, find_op, each_found, Seeing, frame, OpLabel, olds, Node, Switch, on_links, chunks_in}
use Rattle.nf_net.proofs.Words.{kept_in, kept_for, kept_by, spelled_of, Sees, but_shares, outline_phase, outline_piece, is_sys, given, Given, place, S}
use Rattle.nf_net.proofs.Words.{AreGoodChunks, IsGoodPiece, HasPieces, node_of, FromController, ToController, Unit, split}
use Rattle.std.specs.FinMap as finite
use Rattle.move_op.specs.Phases as phase
use Rattle.move_op.specs.Move.{chunks_of}
use Rattle.proof_machines.proofs.unit.Machine as machine
use Rattle.proof_machines.proofs.unit.Kept.{on_way}
use Rattle.proof_machines.proofs.unit.Labels.{Without, Clean}
use Rattle.proof_machines.proofs.unit.Real.{MovePiece, MovePhase, see}
use Rattle.move_op.specs.Phases.{Streaming}
use Rattle.proof_machines.proofs.net.Holding.{Label, IsController}
use Rattle.proof_machines.proofs.net.Units.{see as seeing}
use Rattle.net_world.specs.Records as specs
use Rattle.nf_net.proofs.paths.ChunkLemmas.{as_spelled, spelled-append, spelled-all, pieces_spelled}
use Rattle.nf_net.proofs.paths.ChunkLinks.{AreSpelled, are_spelled, no_chunks}
use Rattle.nf_net.proofs.paths.ChunkSums.{kept_records, IsAt, From_a, From_b, To_a, To_b, In_store, none_of, one_of}
use Rattle.nf_net.proofs.paths.PathNodes.{map_of}
use Rattle.nf_net.proofs.paths.PathSeats.{labels, link_shown, link_view, on_each}
use Rattle.nf_net.proofs.RunWords.{one_at, no_link, one_link, Reached, IsApart, HoldsAt}
use Rattle.proof_outlines.proofs.joined.Joined.{AreFree}

-- The pieces that the controller keeps.
module _ {R : Type 0} (f : Semantics R) (g : Given) where
  pub good_pieces : (ps : List Piece) → Each (IsGoodPiece f g) ps → Each (λ p. AreGoodChunks f g p.chunks) ps
  good_pieces ps h = each_map {P = (IsGoodPiece f g)} {Q = (λ p. AreGoodChunks f g p.chunks)} (λ p k. k.good) ps h

  pub free_pieces : (d : Door) (ps : List Piece) → AreFree f g d ps → Each (λ p. AreGoodChunks f g p.chunks) ps
  free_pieces (Door.Refused why) ps h = h
  free_pieces Door.Shut ps h = good_pieces ps h
  free_pieces (Door.Asked last) ps h = good_pieces ps h
  free_pieces Door.Open ps h = good_pieces ps h

module _ {R : Type 0} (f : Semantics R) (g : Given) (v : Frame) where
  abbrev u : Unit
  u = v.unit

  -- these pieces spell what the unit sees of them
  pub phase_spelled : (p : Phase) → HasPieces f g p → spelled_of f u (kept_in p) ≡ as_spelled u (kept_records (see_phase v (outline_phase f (place g) p)))
  phase_spelled (phase.Streaming frozen free came d) h =
      let to_remove = records (map (see v) (map (outline_piece f) frozen)) in
      let removed = records (map (see v) (map (outline_piece f) free)) in
      spelled-append f u (chunks_of frozen) (chunks_of free)
      ∙ ap (λ xs. xs ++ spelled_of f u (chunks_of free)) (pieces_spelled f g u v refl frozen (good_pieces f g frozen h.0))
      ∙ ap (λ xs. as_spelled u to_remove ++ xs) (pieces_spelled f g u v refl free (free_pieces f g d free h.1))
      ∙ sym (map-append (λ r. Some (u, r)) to_remove removed)
  phase_spelled p h = refl

  -- those of another move have nothing of it
  none_in : (ps : List (MovePiece R)) → Each (Without u) ps → records (map (see v) ps) ≡ []
  none_in [] h = refl
  none_in (p ∷ ps) h = let own = h.0 in let rest = none_in ps h.1 in rw (own, rest) refl

  pub none_kept : (ph : MovePhase R) → Clean u ph → kept_records (see_phase v ph) ≡ []
  none_kept (Streaming to_remove removed came d) h = let a = none_in to_remove h.0 in let b = none_in removed h.1 in rw (a, b) refl
  none_kept ph h = refl

over_keeps : {R : Type 0} (ph : machine.Phase R) → is_over ph ≡ true → kept_records ph ≡ []
over_keeps (machine.Streaming to_remove removed came d) e = cc
over_keeps ph e = refl

module _ {F R : Type 0} (here : Reached F R) (u : Unit) (apart : IsApart here u) (op : Op) (third : ℕ) (x : State R)
    (holds : HoldsAt here u op third x) where
  open here use {setting, n, count, w, nodes, j, world}
  open setting use {function as f, config as c}

  abbrev g : Given
  g = given setting

  abbrev z : Seeing
  z = seeing (S f g) (is_sys f g.site g.packet) u op third

  abbrev a : ℕ
  a = op.src

  abbrev b : ℕ
  b = op.dst

  -- A link.
  pub link_spelled : (s r : ℕ) → s < n → r < n → (s == 0) && (r == 0) ≡ false → AreSpelled f g z j.world.shares (on_link w s r) (expect a b third x s r)
  link_spelled s r hs hr off =
      subst (AreSpelled f g z j.world.shares (on_link w s r)) (link_view here u apart op third x holds s r hs hr off)
      (are_spelled f g z j.world.shares s r (on_link w s r) (labels here s r hs hr off)
      (subst (λ ms. Each (Label (S f g) z s) (olds ms)) (link_shown here s r hs hr off) (holds.labels s r off)))

  abbrev on : ℕ → ℕ → List (Option (Unit × R))
  on s r = spelled_of f u (flat_map chunks_in (on_link w s r))

  none_else : (s r : ℕ) → s < n → r < n → (FromController s r → ⊥) → (ToController s r → ⊥) → on s r ≡ []
  none_else s r hs hr from to = on_each here (λ ms. spelled_of f u (flat_map chunks_in ms) ≡ []) refl s r
      (λ off. ap (spelled_of f u) (no_chunks f g s r (on_link w s r) (labels here s r hs hr off) from to))

  -- where a unit's record may stand on links
  abbrev at : ℕ → ℕ → List R
  at s r = if r == 1 then (if s == a then records_on x.ac else if s == b then records_on x.bc else [])
      else if s == 1 then (if r == a then records_on x.ca else if r == b then records_on x.cb else []) else []

  module _ (silent : x.cc ≡ []) where
    to_controller : (s : ℕ) → 2 ≤ s → records_on (expect a b third x s 1) ≡ at s 1
    to_controller s two =
        let s0 : (s == 0) ≡ false = grind (arith, nat_tests, two) in
        let s1 : (s == 1) ≡ false = grind (arith, nat_tests, two) in
        rw (s0, s1) (split (s == a)
        (λ t. records_on (if t then x.ac else if s == b then x.bc else if s == third then x.cc else []) ≡
        (if t then records_on x.ac else if s == b then records_on x.bc else []))
        (λ _. refl)
        (λ _. split (s == b) (λ t. records_on (if t then x.bc else if s == third then x.cc else []) ≡ (if t then records_on x.bc else [])) (λ _. refl)
        (λ _. elim (s == third) as (λ t. records_on (if t then x.cc else []) ≡ []) [ true ↦ ap records_on silent | false ↦ refl ])))

    from_controller : (r : ℕ) → 2 ≤ r → records_on (expect a b third x 1 r) ≡ at 1 r
    from_controller r two =
        let r0 : (r == 0) ≡ false = grind (arith, nat_tests, two) in
        let r1 : (r == 1) ≡ false = grind (arith, nat_tests, two) in
        rw (r0, r1) (split (r == a)
        (λ t. records_on (if t then x.ca else if r == b then x.cb else []) ≡ (if t then records_on x.ca else if r == b then records_on x.cb else []))
        (λ _. refl)
        (λ _. elim (r == b) as (λ t. records_on (if t then x.cb else []) ≡ (if t then records_on x.cb else [])) [ true ↦ refl | false ↦ refl ]))

    -- low nodes are no sides
    low_out : (s : ℕ) → s < 2 → ((s == a) ≡ false) × ((s == b) ≡ false)
    low_out s low = let two_a = holds.nodes.a_is in let two_b = holds.nodes.b_is in (grind (arith, nat_tests, low, two_a), grind (arith, nat_tests, low, two_b))

    on_is : (s r : ℕ) → s < n → r < n → on s r ≡ as_spelled u (at s r)
    on_is s r hs hr = split (r == 1)
        (λ t. on s r ≡ as_spelled u
        (if t then (if s == a then records_on x.ac else if s == b then records_on x.bc else []) else if s == 1 then
        (if r == a then records_on x.ca else if r == b then records_on x.cb else []) else []))
        (λ e.
        let one : r ≡ 1 = (Decides-eqb r 1).0 e in
        split (nat_lt s 2) (λ _. on s r ≡ as_spelled u (if s == a then records_on x.ac else if s == b then records_on x.bc else []))
        (λ low.
        let few : s < 2 = (Decides-ltb s 2).0 low in
        let out = low_out s few in
        let out_a = out.0 in let out_b = out.1 in
        rw (out_a, out_b) (none_else s r hs hr (λ h. (let m = h.1 in absurd (omega (arith, one, m))))
        (λ h. (let m = h.0 in absurd (omega (arith, few, m))))))
        (λ high.
        let two : 2 ≤ s = ltb-false s 2 high in
        let s0 : (s == 0) ≡ false = grind (arith, nat_tests, two) in
        ap (on s) one ∙ (link_spelled s 1 hs (subst (λ k. k < n) one hr) (rw s0 refl)).chunks ∙ ap (as_spelled u) (to_controller s two)))
        (λ e. split (s == 1) (λ t. on s r ≡ as_spelled u (if t then (if r == a then records_on x.ca else if r == b then records_on x.cb else []) else []))
        (λ d.
        let one : s ≡ 1 = (Decides-eqb s 1).0 d in
        split (nat_lt r 2) (λ _. on s r ≡ as_spelled u (if r == a then records_on x.ca else if r == b then records_on x.cb else []))
        (λ low.
        let few : r < 2 = (Decides-ltb r 2).0 low in
        let out = low_out r few in
        let out_a = out.0 in let out_b = out.1 in
        rw (out_a, out_b) (none_else s r hs hr (λ h. (let m = h.1 in absurd (omega (arith, few, m))))
        (λ h. (let m = h.0 in absurd (omega (arith, one, m))))))
        (λ high.
        let two : 2 ≤ r = ltb-false r 2 high in
        ap (λ k. on k r) one ∙ (link_spelled 1 r (subst (λ k. k < n) one hs) hr refl).chunks
        ∙ ap (as_spelled u) (from_controller r two ∙ (let r1 : (r == 1) ≡ false = e in rw r1 refl))))
        (λ d. none_else s r hs hr (λ h. (let never : false ≡ true = sym d ∙ (Decides-eqb s 1).1 h.0 in cc))
        (λ h. (let never : false ≡ true = sym e ∙ (Decides-eqb r 1).1 h.1 in cc))))

    -- all links, where no record is on one, and where one has all there is
    pub links_none : ((s r : ℕ) → at s r ≡ []) → spelled_of f u (on_links w chunks_in) ≡ []
    links_none none =
        spelled-all f u (flat_map chunks_in) w.links
        ∙ no_link w world.square (λ ms. spelled_of f u (flat_map chunks_in ms))
        (λ s r hs hr. on_is s r (rw (← nodes) hs) (rw (← nodes) hr) ∙ ap (as_spelled u) (none s r))

    pub links_one : (s r : ℕ) → s < n → r < n → ((i k : ℕ) → (i ≡ s → k ≡ r → ⊥) → at i k ≡ []) → spelled_of f u (on_links w chunks_in) ≡ as_spelled u (at s r)
    links_one s r hs hr only =
        spelled-all f u (flat_map chunks_in) w.links
        ∙ one_link w world.square (λ ms. spelled_of f u (flat_map chunks_in ms)) s r (rw nodes hs) (rw nodes hr)
        (λ i k hi hk off. on_is i k (rw (← nodes) hi) (rw (← nodes) hk) ∙ ap (as_spelled u) (only i k off))
        ∙ on_is s r hs hr

    -- nothing is where none of four is
    at_only : (s r : ℕ) → (s ≡ a → r ≡ 1 → records_on x.ac ≡ []) → (s ≡ b → r ≡ 1 → records_on x.bc ≡ []) → (s ≡ 1 → r ≡ a → records_on x.ca ≡ [])
        → (s ≡ 1 → r ≡ b → records_on x.cb ≡ []) → at s r ≡ []
    at_only s r ac bc ca cb = split (r == 1)
        (λ t. (if t then (if s == a then records_on x.ac else if s == b then records_on x.bc else []) else if s == 1 then
        (if r == a then records_on x.ca else if r == b then records_on x.cb else []) else []) ≡ [])
        (λ r1. split (s == a) (λ t. (if t then records_on x.ac else if s == b then records_on x.bc else []) ≡ [])
        (λ sa. ac ((Decides-eqb s a).0 sa) ((Decides-eqb r 1).0 r1))
        (λ _. split (s == b) (λ t. (if t then records_on x.bc else []) ≡ []) (λ sb. bc ((Decides-eqb s b).0 sb) ((Decides-eqb r 1).0 r1)) (λ _. refl)))
        (λ _.
        split (s == 1) (λ t. (if t then (if r == a then records_on x.ca else if r == b then records_on x.cb else []) else []) ≡ [])
        (λ s1. split (r == a) (λ t. (if t then records_on x.ca else if r == b then records_on x.cb else []) ≡ [])
        (λ ra. ca ((Decides-eqb s 1).0 s1) ((Decides-eqb r a).0 ra))
        (λ _. split (r == b) (λ t. (if t then records_on x.cb else []) ≡ []) (λ rb. cb ((Decides-eqb s 1).0 s1) ((Decides-eqb r b).0 rb))
        (λ _. refl))) (λ _. refl))

  -- What the controller keeps.
  abbrev kept_at : Option Operation → List (Option (Unit × R))
  kept_at None = []
  kept_at (Some o) = spelled_of f u (kept_for o)

  abbrev got : ℕ → Option Operation
  got k = finite.get j.nodes.controller.operations k

  sees_at : (k : ℕ) (o : Option (Open R)) → find_op j.world.ops k ≡ o → Sees f (place g) o (but_shares (got k)) (stored_of j.nodes.controller.store k)
  sees_at k o found = subst (λ e. Sees f (place g) e (but_shares (got k)) (stored_of j.nodes.controller.store k)) found (j.shown_is.controller.opens k).move

  none_seen : (o : Option Operation) (k : ℕ) → Sees f (place g) None (but_shares o) (stored_of j.nodes.controller.store k) → kept_at o ≡ []
  none_seen None k h = refl
  none_seen (Some (Copy c)) k h = refl
  none_seen (Some (Move m)) k h = absurd h
  none_seen (Some (Share s)) k h = refl

  seen_kept : (k : ℕ) (e : Open R) (o : Option Operation) → got k ≡ o → Sees f (place g) (Some e) (but_shares o) (stored_of j.nodes.controller.store k)
      → kept_at o ≡ as_spelled u (kept_records (see_phase (frame (S f g) z) e.phase))
  seen_kept k e None there h = absurd h
  seen_kept k e (Some (Copy c)) there h = absurd h
  seen_kept k e (Some (Share s)) there h = absurd h
  seen_kept k e (Some (Move m)) there h = phase_spelled f g (frame (S f g) z) m.phase (j.shown_is.controller.moves k m there).pieces
      ∙ ap (λ p. as_spelled u (kept_records (see_phase (frame (S f g) z) p))) (sym h.phase)

  other_kept : (k : ℕ) → k ≢ op.num → kept_at (got k) ≡ []
  other_kept k off = by_open (find_op j.world.ops k) refl
    where
      by_open : (o : Option (Open R)) → find_op j.world.ops k ≡ o → kept_at (got k) ≡ []
      by_open None e = none_seen (got k) k (sees_at k None e)
      by_open (Some e) found =
          let l = each_found (OpLabel (S f g) z) k j.world.ops e holds.ops found in
          let same : e.op.num ≡ k = (Decides-eqb e.op.num k).0 l.1 in
          let other : (e.op.num == op.num) ≡ false = grind (arith, nat_tests, same, off) in
          seen_kept k e (got k) refl (sees_at k (Some e) found) ∙ ap (as_spelled u) (none_kept f g (frame (S f g) z) e.phase (l.0.1 other).0)

  -- so another operation keeps none of it
  pub none_in_others : (k : ℕ) (o : Operation) → k ≢ op.num → got k ≡ Some o → spelled_of f u (kept_for o) ≡ []
  none_in_others k o off there = subst (λ y. kept_at y ≡ []) there (other_kept k off)

  own_kept : kept_at (got op.num) ≡ as_spelled u (kept_records x.phase)
  own_kept = by_open (find_op j.world.ops op.num) refl
    where
      by_open : (o : Option (Open R)) → find_op j.world.ops op.num ≡ o → kept_at (got op.num) ≡ as_spelled u (kept_records x.phase)
      by_open None e =
          let over = subst (λ o. IsController (S f g) z o x) e holds.ctrl in
          none_seen (got op.num) op.num (sees_at op.num None e) ∙ ap (as_spelled u) (sym (over_keeps x.phase over))
      by_open (Some e) found =
          let own = subst (λ o. IsController (S f g) z o x) found holds.ctrl in
          seen_kept op.num e (got op.num) refl (sees_at op.num (Some e) found) ∙ ap (λ p. as_spelled u (kept_records p)) own.1

  node_is : (k : ℕ) → k < n → (d : Node F R) → spelled_of f u (kept_by (get_or w.nodes k d)) ≡ spelled_of f u (kept_by (node_of j.nodes k))
  node_is k few d = ap (λ y. spelled_of f u (kept_by y)) (j.nodes_are k few d)

  others_keep : (k : ℕ) → k ≢ 1 → spelled_of f u (kept_by (node_of j.nodes k)) ≡ []
  others_keep zero off = refl
  others_keep (suc zero) off = absurd (off refl)
  others_keep (suc (suc k)) off = refl

  kept_is : spelled_of f u (flat_map kept_by w.nodes) ≡ as_spelled u (kept_records x.phase)
  kept_is =
      let d : Node F R = Switch j.nodes.switch in
      let one : 1 < n = omega (arith, count) in
      spelled-all f u kept_by w.nodes
      ∙ one_at (λ y. spelled_of f u (kept_by y)) w.nodes 1 d (rw nodes one) (λ i small off. node_is i (rw (← nodes) small) d ∙ others_keep i off)
      ∙ node_is 1 one d
      ∙ spelled-all f u (λ e. kept_for e.1) (finite.entries j.nodes.controller.operations)
      ∙ map_of (λ k o. kept_at o) (λ k. refl) op.num j.nodes.controller.operations other_kept
      ∙ own_kept

  -- All of it.

  module _ (silent : x.cc ≡ []) where
    all_is : (links kept : List R) → spelled_of f u (on_links w chunks_in) ≡ as_spelled u links → kept_records x.phase ≡ kept
        → specs.on_way f w u ≡ as_spelled u links ++ as_spelled u kept
    all_is links kept on_them by_it = spelled-append f u (on_links w chunks_in) (flat_map kept_by w.nodes)
        ∙ ap (λ v. v ++ spelled_of f u (flat_map kept_by w.nodes)) on_them ∙ ap (λ v. as_spelled u links ++ v) (kept_is ∙ ap (as_spelled u) by_it)

    -- one link has it, or none
    on_none : records_on x.ac ≡ [] → records_on x.bc ≡ [] → records_on x.ca ≡ [] → records_on x.cb ≡ [] → spelled_of f u (on_links w chunks_in) ≡ []
    on_none ac bc ca cb = links_none silent (λ s r. at_only silent s r (λ _ _. ac) (λ _ _. bc) (λ _ _. ca) (λ _ _. cb))

    on_a : a < n → records_on x.bc ≡ [] → records_on x.ca ≡ [] → records_on x.cb ≡ [] → spelled_of f u (on_links w chunks_in) ≡ as_spelled u (records_on x.ac)
    on_a few bc ca cb =
        links_one silent a 1 few (omega (arith, count)) (λ i k off. at_only silent i k (λ p q. absurd (off p q)) (λ _ _. bc) (λ _ _. ca) (λ _ _. cb))
        ∙ ap (as_spelled u) (rw holds.apart.src refl)

    on_b : b < n → records_on x.ac ≡ [] → records_on x.ca ≡ [] → records_on x.cb ≡ [] → spelled_of f u (on_links w chunks_in) ≡ as_spelled u (records_on x.bc)
    on_b few ac ca cb =
        links_one silent b 1 few (omega (arith, count)) (λ i k off. at_only silent i k (λ _ _. ac) (λ p q. absurd (off p q)) (λ _ _. ca) (λ _ _. cb))
        ∙ ap (as_spelled u) (rw (holds.apart.dst_src, holds.apart.dst) refl)

    to_a : a < n → records_on x.ac ≡ [] → records_on x.bc ≡ [] → records_on x.cb ≡ [] → spelled_of f u (on_links w chunks_in) ≡ as_spelled u (records_on x.ca)
    to_a few ac bc cb =
        let self = holds.apart.src in let two = holds.nodes.a_is in
        let off_1 : (a == 1) ≡ false = grind (arith, nat_tests, two) in
        links_one silent 1 a (omega (arith, count)) few (λ i k off. at_only silent i k (λ _ _. ac) (λ _ _. bc) (λ p q. absurd (off p q)) (λ _ _. cb))
        ∙ ap (as_spelled u) (rw (off_1, self) refl)

    to_b : b < n → records_on x.ac ≡ [] → records_on x.bc ≡ [] → records_on x.ca ≡ [] → spelled_of f u (on_links w chunks_in) ≡ as_spelled u (records_on x.cb)
    to_b few ac bc ca =
        let self = holds.apart.dst in let off_a = holds.apart.dst_src in let two = holds.nodes.b_is in
        let off_1 : (b == 1) ≡ false = grind (arith, nat_tests, two) in
        links_one silent 1 b (omega (arith, count)) few (λ i k off. at_only silent i k (λ _ _. ac) (λ _ _. bc) (λ _ _. ca) (λ p q. absurd (off p q)))
        ∙ ap (as_spelled u) (rw (off_1, off_a, self) refl)

    pub none_on_way : on_way x ≡ [] → specs.on_way f w u ≡ []
    none_on_way none = let e = none_of x none in all_is [] [] (on_none e.ac e.bc e.ca e.cb) e.kept

    pub one_on_way : (r : R) → on_way x ≡ r ∷ [] → a < n → b < n → specs.on_way f w u ≡ Some (u, r) ∷ []
    one_on_way r one few_a few_b = by_place (one_of x r one)
      where
        by_place : IsAt x r → specs.on_way f w u ≡ Some (u, r) ∷ []
        by_place (From_a ac bc ca cb kept) = all_is (r ∷ []) [] (on_a few_a bc ca cb ∙ ap (as_spelled u) ac) kept
        by_place (From_b bc ac ca cb kept) = all_is (r ∷ []) [] (on_b few_b ac ca cb ∙ ap (as_spelled u) bc) kept
        by_place (To_a ca ac bc cb kept) = all_is (r ∷ []) [] (to_a few_a ac bc cb ∙ ap (as_spelled u) ca) kept
        by_place (To_b cb ac bc ca kept) = all_is (r ∷ []) [] (to_b few_b ac bc ca ∙ ap (as_spelled u) cb) kept
        by_place (In_store kept ac bc ca cb) = all_is [] (r ∷ []) (on_none ac bc ca cb) kept
