-- A controller of a run is one after a row of an open move.
use Rattle.proof_outlines.proofs.Words.{not, ◌≡◌, ℕ, ◌+◌, ◌<◌, ◌≤◌, true, false, cond, Option, Some, None, List, [], ◌∷◌, map, refl, sym, ap, ◌∙◌, subst, arith}
use Rattle.proof_outlines.proofs.Words.{if◌then◌else◌, ◌==◌, unwrap_or, nat_tests, Decides-eqb, Semantics, stored_of, Answer, Piece, switch_node, Door, Phase}
use Rattle.proof_outlines.proofs.Words.{MoveState, MoveRow, answer_of, chunks_of, Move, Turn, turn_of_move, ControllerState, Step, after_turn, MovePhase, Each}
use Rattle.proof_outlines.proofs.Words.{each_map, EachSent, Open, close_op, set_op, write_op, OpenShare, have, copies, spelled, sent-append, either_way, split}
use Rattle.proof_outlines.proofs.Words.{Unit, Msg}
use Rattle.std.specs.FinMap as finite
use Rattle.move_op.specs.Phases as phase
use Rattle.proof_outlines.proofs.joined.Words.{entries, outline_piece, filter_map-put, outline_phase, stored_after, got_insert, got_remove, OpensAll, Given}
use Rattle.proof_outlines.proofs.joined.Words.{place, Genuine, Label, IsController, IsListed, HasPieces, AreFree, AreGoodChunks, IsGoodPiece}
use Rattle.proof_outlines.proofs.joined.UnitCounts.{times, times-append, times_chunks}
use Rattle.proof_machines.proofs.NumberedLists.{each-change}
use Rattle.proof_machines.proofs.net.Net.{written}
use Rattle.proof_outlines.proofs.joined.MoveSteps.{RowKeeps, kept_in}
use Rattle.proof_outlines.proofs.joined.ControllerScenes.{AreQuiet}
use Rattle.proof_outlines.proofs.joined.ControllerChanges.{AreAlike, IsKind, IsOperation, changed}

-- moves that are left when one is closed
each_left : {R : Type 0} (P Q : Open R → Type 0) (k : ℕ) (es : List (Open R)) → ((e : Open R) → (e.op.num == k) ≡ false → P e → Q e) → Each P es
    → Each Q (close_op k es)
each_left P Q k [] keep h = tt
each_left P Q k (e ∷ es) keep h = split (e.op.num == k) (λ b. Each Q (if not b then e ∷ close_op k es else close_op k es)) (λ _. each_left P Q k es keep h.1)
    (λ off. (keep e off h.0, each_left P Q k es keep h.1))

move_same : {a b : MoveState} → Some (Move a) ≡ Some (Move b) → a ≡ b
move_same e = cc

module _ {R : Type 0} (f : Semantics R) (g : Given) where
  -- the controller after a row of an open move
  module _ (c : ControllerState) (ops : List (Open R)) (shares : List OpenShare) (next n : ℕ) (mv : MoveState) (real_row : MoveRow) (is : IsController f g c
      ops shares next) (has : finite.get c.operations n ≡ Some (Move mv)) (below : n < next) (keeps : RowKeeps f g n mv (stored_of c.store n) real_row)
      (ends : (why : Answer) → answer_of real_row.next.phase ≡ Some why → unwrap_or real_row.stored (stored_of c.store n) ≡ []) where
    abbrev after : MoveState
    after = record mv { phase = real_row.next.phase }

    abbrev did : Option Answer → Step
    did a = after_turn c n (turn_of_move mv c.store real_row) a

    itself : (n == n) ≡ true
    itself = grind (arith, nat_tests)

    mv_op : mv.plan.op ≡ n
    mv_op = (is.moves n mv has).op_is

    store_is : (k : ℕ)
        → stored_of (turn_of_move mv c.store real_row).store k ≡ cond (k == n) (unwrap_or real_row.stored (stored_of c.store k)) (stored_of c.store k)
    store_is k = stored_after f (place g) c.store mv.plan.op k real_row.stored
        ∙ ap (λ j. cond (k == j) (unwrap_or real_row.stored (stored_of c.store k)) (stored_of c.store k)) mv_op

    store_other : (k : ℕ) → (k == n) ≡ false → stored_of (turn_of_move mv c.store real_row).store k ≡ stored_of c.store k
    store_other k off = store_is k ∙ ap (λ b. cond b (unwrap_or real_row.stored (stored_of c.store k)) (stored_of c.store k)) off

    store_own : stored_of (turn_of_move mv c.store real_row).store n ≡ unwrap_or real_row.stored (stored_of c.store n)
    store_own = store_is n ∙ ap (λ b. cond b (unwrap_or real_row.stored (stored_of c.store n)) (stored_of c.store n)) itself

    genuine_own : Each (Genuine f g) (stored_of (turn_of_move mv c.store real_row).store n)
    genuine_own = subst (Each (Genuine f g)) (sym store_own) keeps.genuine

    later : {X : Type 0} → next ≤ n → X
    later least = let never : ⊥ = omega (arith, below, least) in absurd never

    -- the operations after it
    get_open : (k : ℕ) → finite.get (did None).node.operations k ≡ cond (k == n) (Some (Move after)) (finite.get c.operations k)
    get_open k = got_insert c.operations n k (Move after)

    get_closed : (why : Answer) (k : ℕ)
        → finite.get (did (Some why)).node.operations k ≡ cond (k == n) None (cond (k == n) (Some (Move after)) (finite.get c.operations k))
    get_closed why k = got_remove (finite.insert c.operations n (Move after)) n k ∙ ap (cond (k == n) None) (got_insert c.operations n k (Move after))

    other_closed : (why : Answer) (k : ℕ) → (k == n) ≡ false → finite.get (did (Some why)).node.operations k ≡ finite.get c.operations k
    other_closed why k off = get_closed why k ∙ ap (λ b. cond b None (cond b (Some (Move after)) (finite.get c.operations k))) off

    open_alike : AreAlike c (did None).node n
    open_alike = record {
      names = refl;
      site = refl;
      operations = λ k off. get_open k ∙ ap (λ b. cond b (Some (Move after)) (finite.get c.operations k)) off;
      store = store_other;
    }

    closed_alike : (why : Answer) → AreAlike c (did (Some why)).node n
    closed_alike why = record { names = refl; site = refl; operations = other_closed why; store = store_other }

    -- the list after it
    listed_at : (e : Open R) → IsListed f g c e → IsListed f g (did None).node e
    listed_at e l = either_way (e.op.num == n)
        (λ on.
        let same : e.op.num ≡ n = (Decides-eqb e.op.num n).0 on in
        let its : l.move ≡ mv = move_same (sym l.there ∙ ap (finite.get c.operations) same ∙ has) in
        record {
          move = after;
          there = get_open e.op.num ∙ ap (λ b. cond b (Some (Move after)) (finite.get c.operations e.op.num)) on;
          filter = l.filter ∙ ap (λ y. y.plan.filter) its;
        })
        (λ off. record { move = l.move; there = open_alike.operations e.op.num off ∙ l.there; filter = l.filter })

    listed_open : (rp : MovePhase R) (fs : List ℕ) → Each (IsListed f g (did None).node) (set_op n rp fs ops)
    listed_open rp fs = each-change _ (IsListed f g (did None).node) n (written rp fs)
        (λ e _ l. record { move = l.move; there = l.there; filter = l.filter }) ops
        (each_map {P = (IsListed f g c)} {Q = (IsListed f g (did None).node)} listed_at ops is.listed)

    listed_closed : (why : Answer) → Each (IsListed f g (did (Some why)).node) (close_op n ops)
    listed_closed why = each_left (IsListed f g c) (IsListed f g (did (Some why)).node) n ops
        (λ e off l. record { move = l.move; there = other_closed why e.op.num off ∙ l.there; filter = l.filter }) is.listed

    open_is : (rp : MovePhase R) (fs : List ℕ) → answer_of real_row.next.phase ≡ None → OpensAll f (place g) g.site (set_op n rp fs ops) shares (did None).node
        → IsController f g (did None).node (set_op n rp fs ops) shares next
    open_is rp fs goes_on opens =
        let got : finite.get (did None).node.operations n ≡ Some (Move after) = get_open n
        ∙ ap (λ b. cond b (Some (Move after)) (finite.get c.operations n)) itself in
        let own : IsOperation f g n (finite.get (did None).node.operations n) (stored_of (did None).node.store n) =
        record { kind = subst (λ o. IsKind f g n o (stored_of (did None).node.store n)) (sym got) (keeps.move, goes_on); genuine = genuine_own } in
        changed f g c (did None).node ops shares next next n is open_alike (omega arith) own later (set_op n rp fs ops) shares opens (listed_open rp fs)

    closed_is : (why : Answer) → unwrap_or real_row.stored (stored_of c.store n) ≡ []
        → OpensAll f (place g) g.site (close_op n ops) shares (did (Some why)).node → IsController f g (did (Some why)).node (close_op n ops) shares next
    closed_is why left opens =
        let got : finite.get (did (Some why)).node.operations n ≡ None = get_closed why n
        ∙ ap (λ b. cond b None (cond b (Some (Move after)) (finite.get c.operations n))) itself in
        let own : IsOperation f g n (finite.get (did (Some why)).node.operations n) (stored_of (did (Some why)).node.store n) =
        record { kind = subst (λ o. IsKind f g n o (stored_of (did (Some why)).node.store n)) (sym got) (store_own ∙ left); genuine = genuine_own } in
        changed f g c (did (Some why)).node ops shares next next n is (closed_alike why) (omega arith) own later (close_op n ops) shares opens
        (listed_closed why)

    pub controller_after : (ph : Phase) (rp : MovePhase R) (fs : List ℕ) → ph ≡ real_row.next.phase
        → rp ≡ outline_phase f (place g) ph → OpensAll f (place g) g.site (write_op n rp fs ops) shares (did (answer_of ph)).node
        → IsController f g (did (answer_of ph)).node (write_op n rp fs ops) shares next
    controller_after (phase.Streaming to_remove removed last d) rp fs own e =
        rw e (open_is (outline_phase f (place g) (phase.Streaming to_remove removed last d)) fs (ap answer_of (sym own)))
    controller_after (phase.Over why) rp fs own e = rw e (closed_is why (ends why (ap answer_of (sym own))))
    controller_after ph rp fs own e = rw e (open_is (outline_phase f (place g) ph) fs (ap answer_of (sym own)))

  good_chunks : (ps : List Piece) → Each (IsGoodPiece f g) ps → Each (λ p. AreGoodChunks f g p.chunks) ps
  good_chunks ps h = each_map {P = (IsGoodPiece f g)} {Q = (λ p. AreGoodChunks f g p.chunks)} (λ p k. k.good) ps h

  free_chunks : (d : Door) (ps : List Piece) → AreFree f g d ps → Each (λ p. AreGoodChunks f g p.chunks) ps
  free_chunks (Door.Refused why) ps h = h
  free_chunks d ps h = good_chunks ps h

  -- how often a unit stands among the chunks that a move keeps
  pub kept_count : (ph : Phase) → HasPieces f g ph → (u : Unit) → times u (entries f (kept_in ph)) ≡ copies u (outline_phase f (place g) ph)
  kept_count (phase.Streaming to_remove removed came d) h u = ap (times u) (filter_map-put (spelled f) (chunks_of to_remove) (chunks_of removed))
      ∙ times-append u
      (entries f (chunks_of to_remove)) (entries f (chunks_of removed))
      ∙ ap (λ k. k + times u (entries f (chunks_of removed))) (times_chunks f g to_remove (good_chunks to_remove h.0) u)
      ∙ ap (λ k. have u (map (outline_piece f) to_remove) + k) (times_chunks f g removed (free_chunks d removed h.1) u)
  kept_count ph h u = refl

  pub turn_labels : (c : ControllerState) (n : ℕ) (t : Turn) (a : Option Answer) → EachSent (Label f g) 1 t.sends
      → EachSent (Label f g) 1 (after_turn c n t a).sends
  turn_labels c n t None h = h
  turn_labels c n t (Some why) h = sent-append (Label f g) 1 t.sends ((switch_node, Msg.Answered n) ∷ []) h ((refl, refl), tt)

pub turn_quiet : (c : ControllerState) (n : ℕ) (t : Turn) (a : Option Answer) → AreQuiet (after_turn c n t a).notes
turn_quiet c n t None = record { arrived_is = refl; done_is = refl; installed_is = refl }
turn_quiet c n t (Some why) = record { arrived_is = refl; done_is = refl; installed_is = refl }
