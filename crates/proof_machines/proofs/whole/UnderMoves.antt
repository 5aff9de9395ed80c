-- What moves have of a unit under a share: nothing. No open move takes it, keeps a record or a packet of it, and no message of a move has one. So a
-- unit that an open move takes, and that of an event, is apart from shares.
use Rattle.proof_machines.proofs.net.Words.{◌≡◌, ℕ, true, false, Some, List, [], ◌∷◌, refl, sym, ◌∙◌, subst, ◌&&◌, ◌==◌, Chunks, MoveMsg, Each, Filter, Msg}
use Rattle.proof_machines.proofs.net.Words.{Of_move, Sys, IsSys, Open, find_op, RestOp, NothingOf, none_mine, Any, Old, olds, Sharing, WholeWorld, moves_of}
use Rattle.proof_machines.proofs.net.Words.{SeeingShare, Answer, same_unit, Unit}
use Rattle.proof_machines.proofs.net.Ctrl.{each_found}
use Rattle.proof_machines.proofs.net.Copies.{has, copies, has_none, copies_none}
use Rattle.proof_machines.proofs.net.Under.{Under}
use Rattle.proof_machines.proofs.net.Units.{Where}
use Rattle.proof_machines.proofs.net.UnderStarts.{seeing}
use Rattle.proof_machines.proofs.whole.WhereAll.{Came, WhereAll, Apart_from_shares, Under_share}

module _ {R : Type 0} (S : Sys R) (A : Sharing S) (z : SeeingShare) (w : WholeWorld S A) (before since : List ℕ) (h : Under S A z w before since) where
  -- Of an open move
  module _ (n : ℕ) (e : Open R) (there : find_op w.ops n ≡ Some e) where
    its : RestOp S z.unit e
    its = (each_found (RestOp S z.unit) n w.ops e h.ops there).0

    pub not_taken : S.takes e.filter z.unit ≡ false
    not_taken = its.0

    pub no_copies : copies z.unit e.phase ≡ 0
    no_copies = copies_none z.unit e.phase its.1.0

    pub none_stored : none_mine S z.unit e.store ≡ []
    none_stored = its.1.1

  -- Of a message that is taken next
  head_label : (i j : ℕ) → (i == 0) && (j == 0) ≡ false → (m : Msg R) (rest : List (Any R)) → w.link i j ≡ Old m ∷ rest → NothingOf S z.unit i m
  head_label i j off m rest waits = (subst (λ ms. Each (NothingOf S z.unit i) (olds ms)) waits (h.labels i j off)).0

  to_controller : (i : ℕ) → (i == 0) && (1 == 0) ≡ false
  to_controller i = elim (i == 0) as (λ b. b && false ≡ false) [ true ↦ refl | false ↦ refl ]

  pub none_back : (i n : ℕ) (g : Filter) (why : Answer) (cs : Chunks R) (rest : List (Any R)) → w.link i 1 ≡ Old (Of_move g (MoveMsg.Put_no n why cs)) ∷ rest
      → has z.unit cs ≡ 0
  none_back i n g why cs rest waits = has_none z.unit cs (head_label i 1 (to_controller i) (Of_move g (MoveMsg.Put_no n why cs)) rest waits).1

  pub no_event : (i n p : ℕ) (g : Filter) (rest : List (Any R)) → w.link i 1 ≡ Old (Of_move g (MoveMsg.Event n p)) ∷ rest → same_unit (S.packet_unit p) z.unit
      ≡ false
  no_event i n p g rest waits = (head_label i 1 (to_controller i) (Of_move g (MoveMsg.Event n p)) rest waits).1

  pub no_change : (n from to : ℕ) (g : Filter) (rest : List (Any R)) → w.link 1 0 ≡ Old (Of_move g (MoveMsg.Install n from to)) ∷ rest → S.takes g z.unit
      ≡ false
  no_change n from to g rest waits = (head_label 1 0 refl (Of_move g (MoveMsg.Install n from to)) rest waits).1

module _ {R : Type 0} (S : Sys R) (A : Sharing S) (laws : IsSys S) (u : Unit) (w : WholeWorld S A) (k : Came) where
  -- as moves know it
  pub move_apart : WhereAll S A laws u w k → (n : ℕ) (e : Open R) → find_op w.ops n ≡ Some e → S.takes e.filter u ≡ true
      → Where S laws u (moves_of S A w) k.all k.bared
  move_apart (Apart_from_shares h none) n e there takes = h.is
  move_apart (Under_share x before b h o f) n e there takes =
      let never : true ≡ false = sym takes ∙ not_taken S A (seeing S A u x) w before k.diverted h n e there in cc
