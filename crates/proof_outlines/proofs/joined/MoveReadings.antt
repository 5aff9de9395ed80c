-- What is read of an open move in a whole world: of each unit at most one copy of its record, no packet that is left at the end, and no event
-- without its move. A unit that a share takes has none of these.
use Rattle.proof_outlines.proofs.Words.{◌≡◌, ℕ, ◌+◌, ◌≤◌, true, false, Some, None, List, [], ◌∷◌, sym, ap, ◌∙◌, arith, Filter, Answer, same_unit}
use Rattle.proof_outlines.proofs.Words.{same_unit_equiv, Chunks, MoveMsg, Of_move, Sys, IsSys, Open, find_op, Any, Old, olds, Sharing, WholeWorld, moves_of}
use Rattle.proof_outlines.proofs.Words.{copies, one_copy, one_copy_back, event_open, none_mine, ends, Came, WhereAll, Apart_from_shares, Under_share, EveryAll}
use Rattle.proof_outlines.proofs.Words.{Unit}
use Rattle.proof_machines.proofs.net.UnderStarts.{seeing}
use Rattle.proof_machines.proofs.net.Copies.{has}
use Rattle.proof_machines.proofs.net.Stores.{none_left}
use Rattle.proof_machines.proofs.whole.UnderMoves.{no_copies, none_stored, none_back, no_event}

module _ {R : Type 0} (S : Sys R) (A : Sharing S) (laws : IsSys S) (w : WholeWorld S A) (came : Unit → Came) (every : EveryAll S A laws w came) where
  -- of an open move
  module _ (n : ℕ) (e : Open R) (there : find_op w.ops n ≡ Some e) (u : Unit) where
    pub none_left_all : ends e.phase ≡ true → none_mine S u e.store ≡ []
    none_left_all late = by_where (came u) (every.unit u)
      where
        by_where : (k : Came) → WhereAll S A laws u w k → none_mine S u e.store ≡ []
        by_where k (Apart_from_shares h none) = none_left S laws (moves_of S A w) every.global.moves n e there late u k.all k.bared h.is
        by_where k (Under_share x before b h o f) = none_stored S A (seeing S A u x) w before k.diverted h n e there

    pub one_copy_all : copies u e.phase ≤ 1
    one_copy_all = by_where (came u) (every.unit u)
      where
        by_where : (k : Came) → WhereAll S A laws u w k → copies u e.phase ≤ 1
        by_where k (Apart_from_shares h none) = one_copy S laws (moves_of S A w) every.global.moves u k.all k.bared h.is n e there
        by_where k (Under_share x before b h o f) = let a = no_copies S A (seeing S A u x) w before k.diverted h n e there in omega (arith, a)

    pub one_copy_back_all : (g : Filter) (why : Answer) (cs : Chunks R) (rest : List (Any R)) → w.link e.op.dst 1
        ≡ Old (Of_move g (MoveMsg.Put_no n why cs)) ∷ rest
        → has u cs + copies u e.phase ≤ 1
    one_copy_back_all g why cs rest waits = by_where (came u) (every.unit u)
      where
        by_where : (k : Came) → WhereAll S A laws u w k → has u cs + copies u e.phase ≤ 1
        by_where k (Apart_from_shares h none) =
            one_copy_back S laws (moves_of S A w) every.global.moves u k.all k.bared h.is n e there g why cs (olds rest) (ap olds waits)
        by_where k (Under_share x before b h o f) =
            let c = none_back S A (seeing S A u x) w before k.diverted h e.op.dst n g why cs rest waits in
            omega (arith, no_copies S A (seeing S A u x) w before k.diverted h n e there, c)

  -- an event is one of an open move
  pub event_open_all : (i n p : ℕ) (g : Filter) (rest : List (Any R)) → w.link i 1 ≡ Old (Of_move g (MoveMsg.Event n p)) ∷ rest → find_op w.ops n ≡ None → ⊥
  event_open_all i n p g rest waits none = by_where (came (S.packet_unit p)) (every.unit (S.packet_unit p))
    where
      by_where : (k : Came) → WhereAll S A laws (S.packet_unit p) w k → ⊥
      by_where k (Apart_from_shares h free) = event_open S laws (moves_of S A w) i n p k.all k.bared h.is g (olds rest) (ap olds waits) none
      by_where k (Under_share x before b h o f) =
          let own : same_unit (S.packet_unit p) (S.packet_unit p) ≡ true = same_unit_equiv.refl (S.packet_unit p) in
          let never : true ≡ false = sym own ∙ no_event S A (seeing S A (S.packet_unit p) x) w before k.diverted h i n p g rest waits in
          cc
