-- The controller's step on a message of a number that is no open share's: of a copy or of nothing, neither moves nor shares change; of a move
-- it is that of the network of moves.
use Rattle.proof_machines.proofs.NumberedLists.{found_number}
use Rattle.proof_outlines.proofs.Words.{◌≡◌, ℕ, false, cond, Option, Some, None, List, [], ◌∷◌, map, refl, sym, ap, ◌∙◌, subst, ◌==◌, unwrap_or, Decides-eqb}
use Rattle.proof_outlines.proofs.Words.{self, Packet, Site, Semantics, FullCell, stored_of, Answer, Msg, switch_node, instance_node, MoveState, Store, row_in}
use Rattle.proof_outlines.proofs.Words.{CopyPhase, Getting, Keeping, CopyPlan, CopyState, CopyRow, Operation, Move, Copy, Turn, turn_of, turn_of_move}
use Rattle.proof_outlines.proofs.Words.{turn_of_copy, ControllerState, Step, still, after_turn, takes_turn, hand_step, Open, find_op, found, find_write_other}
use Rattle.proof_outlines.proofs.Words.{OpenShare, find_share, as_old, by_if, MoveMsg}
use Rattle.std.specs.FinMap as finite
use Rattle.move_op.specs.Move as move
use Rattle.copy_share.specs.Copy as copy
use Rattle.proof_machines.proofs.unit.Real as real
use Rattle.proof_machines.proofs.net.Net as net
use Rattle.proof_outlines.proofs.outline.Outline.{number, outline_sends}
use Rattle.proof_outlines.proofs.outline.MoveOutline.{outline_plan, outline_phase, RowFollows}
use Rattle.proof_outlines.proofs.outline.ControlOutline.{Sees, SeesMove, Opens, TurnFollows, turn_same, stored_after}
use Rattle.proof_outlines.proofs.outline.OperationTables.{got_insert, got_remove, gone_twice, insert_same, NotShared, handed_is}
use Rattle.proof_outlines.proofs.whole.WholeOutline.{outline_all}
use Rattle.proof_outlines.proofs.whole.MoveSends.{AreOld, old-put, row_old}
use Rattle.proof_outlines.proofs.whole.OpenShares.{turned_test, but_shares, share_in, IsUnseen, Table, SeesOne, SeesAny, OpensAll, opens_at, unseen_at}
use Rattle.proof_outlines.proofs.whole.OpenShares.{no_open_share, without_shares, got_moves, opens_moves, StepFollows}
use Rattle.proof_outlines.proofs.whole.ShareTurns.{answer_unseen}

-- a message that an open move doesn't look at leaves the controller as it is
pub move_still : (c : ControllerState) (op : ℕ) (mv : MoveState) (p : ℕ) (m : Msg) → move.answer_of mv.phase ≡ None
    → finite.get c.operations op ≡ Some (Move mv) → row_in mv c.store p m ≡ move.keeps (move.next_phase mv.phase []) → hand_step c op p m ≡ still c
move_still c op mv p m going there quiet =
    handed_is c op p m (subst NotShared (sym there) tt)
    ∙ ap (λ o. takes_turn c op (turn_of o c.store p m)) there
    ∙ ap (λ r. takes_turn c op (turn_of_move mv c.store r)) quiet
    ∙ ap (λ a. after_turn c op (turn_of_move mv c.store (move.keeps (move.next_phase mv.phase []))) a) going
    ∙ ap (λ os. still (record c { operations = os })) (insert_same c.operations op (Move mv) there)

module _ {R : Type 0} (f : Semantics R) (at : Site) (packet : ℕ → Packet) (place : List ℕ → Option ℕ) where
  -- what a copy sends isn't seen
  source_unseen : (plan : CopyPlan) (ph : CopyPhase) (m : Msg) → outline_all f place (copy.from_source plan ph m).sends ≡ []
  source_unseen plan Getting (Msg.Chunks op chunks) = refl
  source_unseen plan Getting (Msg.AllChunk op chunk) = refl
  source_unseen plan ph m = refl

  destination_unseen : (plan : CopyPlan) (ph : CopyPhase) (m : Msg) → outline_all f place (copy.from_destination plan ph m).sends ≡ []
  destination_unseen plan Keeping (Msg.Kept op) = refl
  destination_unseen plan ph m = refl

  copy_unseen : (y : CopyState) (p : ℕ) (m : Msg) → outline_all f place (copy.row y p m).sends ≡ []
  copy_unseen y p m = by_if (λ (r : CopyRow). outline_all f place r.sends ≡ []) (p == instance_node y.plan.from) (source_unseen y.plan y.phase m)
      (by_if (λ (r : CopyRow). outline_all f place r.sends ≡ []) (p == instance_node y.plan.to) (destination_unseen y.plan y.phase m) refl)

  module _ (c : ControllerState) (ops : List (Open R)) (shares : List OpenShare) (h : OpensAll f place at ops shares c) (n : ℕ) where
    abbrev table : Table R
    table = record { ops = ops; shares = shares; node = c }

    -- neither moves nor shares change
    abbrev pub Same : Step → Type 0
    Same step = StepFollows f at packet place step (record { ops = ops; shares = shares; sends = [] })

    pub still_follows : Same (still c)
    still_follows = record { opens = h; sends = refl }

    -- of nothing
    pub none_handed : (port : ℕ) (m : Msg) → finite.get c.operations n ≡ None → Same (hand_step c n port m)
    none_handed port m there =
        subst Same (sym (handed_is c n port m (subst NotShared (sym there) tt) ∙ ap (λ p. takes_turn c n (turn_of p c.store port m)) there)) still_follows

    -- of a copy
    module _ (y : CopyState) (there : finite.get c.operations n ≡ Some (Copy y)) where
      seen_there : SeesAny f place at (find_op ops n) (find_share shares n) (Some (Copy y)) (stored_of c.store n)
      seen_there = subst (λ p. SeesAny f place at (find_op ops n) (find_share shares n) p (stored_of c.store n)) there (h n)

      changed : (d : ControllerState) (p : Option Operation) → IsUnseen p → d.store ≡ c.store
          → ((k : ℕ) → finite.get d.operations k ≡ cond (k == n) p (finite.get c.operations k)) → OpensAll f place at ops shares d
      changed d p unseen store got = opens_at f place at n table (record { ops = ops; shares = shares; node = d })
          (record {
            ops = λ k off. refl;
            shares = λ k off. refl;
            operations = λ k off. got k ∙ ap (λ b. cond b p (finite.get c.operations k)) off;
            store = λ k off. ap (λ x. stored_of x k) store;
          })
          (subst (λ q. SeesAny f place at (find_op ops n) (find_share shares n) q (stored_of d.store n))
          (sym (got n ∙ ap (λ b. cond b p (finite.get c.operations n)) (self n)))
          (unseen_at f place at (find_op ops n) (find_share shares n) (Some (Copy y)) p (stored_of c.store n) (stored_of d.store n) tt unseen seen_there))
          h

      copy_turn : (r : CopyRow) (a : Option Answer) → outline_all f place r.sends ≡ [] → Same (after_turn c n (turn_of_copy y c.store r) a)
      copy_turn r None none = record {
        opens = changed (after_turn c n (turn_of_copy y c.store r) None).node (Some (Copy (record y { phase = r.phase }))) tt refl
            (λ k. got_insert c.operations n k (Copy (record y { phase = r.phase })));
        sends = none;
      }
      copy_turn r (Some why) none = record {
        opens = changed (after_turn c n (turn_of_copy y c.store r) (Some why)).node None tt refl
            (λ k. got_remove (finite.insert c.operations n (Copy (record y { phase = r.phase }))) n k
            ∙ ap (cond (k == n) None) (got_insert c.operations n k (Copy (record y { phase = r.phase })))
            ∙ gone_twice (k == n) (Some (Copy (record y { phase = r.phase }))) (finite.get c.operations k));
        sends = answer_unseen f at packet place n r.sends ∙ none;
      }

      pub copy_handed : (port : ℕ) (m : Msg) → Same (hand_step c n port m)
      copy_handed port m =
          subst Same (sym (handed_is c n port m (subst NotShared (sym there) tt) ∙ ap (λ p. takes_turn c n (turn_of p c.store port m)) there))
          (copy_turn (copy.row y port m) (copy.answer_of (copy.row y port m).phase) (copy_unseen y port m))

    -- of a move
    module _ (mv : MoveState) (there : finite.get c.operations n ≡ Some (Move mv)) where
      abbrev cells : List FullCell
      cells = stored_of c.store n

      -- a message that no move looks at
      pub move_quiet : (port : ℕ) (m : Msg) → move.answer_of mv.phase ≡ None → row_in mv c.store port m ≡ move.keeps (move.next_phase mv.phase [])
          → Same (hand_step c n port m)
      move_quiet port m going quiet = subst Same (sym (move_still c n mv port m going there quiet)) still_follows

      -- the abstract network's move
      record ItsMove : Type 0 where
        e : Open R
        found_it : find_op ops n ≡ Some e
        sees : SeesMove f place e mv cells

      seen_move : Sees f place (find_op ops n) (Some (Move mv)) cells
      seen_move = subst (λ p. Sees f place (find_op ops n) (but_shares p) cells) there (h n).move

      its_move : ItsMove
      its_move = by_open (find_op ops n) refl seen_move
        where
          by_open : (o : Option (Open R)) → find_op ops n ≡ o → Sees f place (find_op ops n) (Some (Move mv)) cells → ItsMove
          by_open None e s = absurd (subst (λ o. Sees f place o (Some (Move mv)) cells) e s)
          by_open (Some e) is s = record { e = e; found_it = is; sees = subst (λ o. Sees f place o (Some (Move mv)) cells) is s }

      no_share_there : find_share shares n ≡ None
      no_share_there = no_open_share f place at (find_op ops n) (find_share shares n) (finite.get c.operations n) cells (ap share_in there) (h n)

      -- the controller of moves alone
      abbrev alone : ControllerState
      alone = without_shares f place at c

      there_alone : finite.get alone.operations n ≡ Some (Move mv)
      there_alone = got_moves f place at c n ∙ ap but_shares there

      its_op : mv.plan.op ≡ n
      its_op = sym (ap (λ o. o.num) its_move.sees.op) ∙ (Decides-eqb its_move.e.op.num n).0 (found_number _ n ops its_move.e its_move.found_it)

      -- a turn that leaves a move, or ends it
      module _ (left : MoveState) (store : Store) (sends : List (ℕ × Msg)) (answer : Option Answer) where
        abbrev turn : Turn
        turn = record { operation = Some (Move left); store = store; sends = sends; answer = answer }

        abbrev after_at : Option Answer → Option Operation
        after_at None = Some (Move left)
        after_at (Some why) = None

        got_here : (d : ControllerState) (a : Option Answer) → finite.get (after_turn d n turn a).node.operations n ≡ after_at a
        got_here d None = got_insert d.operations n n (Move left) ∙ ap (λ b. cond b (Some (Move left)) (finite.get d.operations n)) (self n)
        got_here d (Some why) = got_remove (finite.insert d.operations n (Move left)) n n
            ∙ ap (λ b. cond b None (finite.get (finite.insert d.operations n (Move left)) n)) (self n)

        got_other : (d : ControllerState) (a : Option Answer) (k : ℕ) → (k == n) ≡ false
            → finite.get (after_turn d n turn a).node.operations k ≡ finite.get d.operations k
        got_other d None k off = got_insert d.operations n k (Move left) ∙ ap (λ b. cond b (Some (Move left)) (finite.get d.operations k)) off
        got_other d (Some why) k off =
            got_remove (finite.insert d.operations n (Move left)) n k ∙ ap (λ b. cond b None (finite.get (finite.insert d.operations n (Move left)) k)) off
            ∙ got_insert d.operations n k (Move left) ∙ ap (λ b. cond b (Some (Move left)) (finite.get d.operations k)) off

        store_is : (d : ControllerState) (a : Option Answer) → (after_turn d n turn a).node.store ≡ store
        store_is d None = refl
        store_is d (Some why) = refl

        sends_same : (a : Option Answer) → (after_turn c n turn a).sends ≡ (after_turn alone n turn a).sends
        sends_same None = refl
        sends_same (Some why) = refl

        old_sends : (a : Option Answer) → AreOld f place sends → AreOld f place (after_turn c n turn a).sends
        old_sends None old = old
        old_sends (Some why) old = old-put f place sends ((switch_node, Msg.Answered n) ∷ []) old refl

        no_share_after : (a : Option Answer) → but_shares (after_at a) ≡ after_at a
        no_share_after None = refl
        no_share_after (Some why) = refl

        none_shared : (a : Option Answer) → share_in (after_at a) ≡ None
        none_shared None = refl
        none_shared (Some why) = refl

        module _ (a : Option Answer) (new : List (Open R)) (opens : Opens f place new (after_turn alone n turn a).node) (news : (k : ℕ) → (k == n) ≡ false
            → find_op new k ≡ find_op ops k) (stays : (k : ℕ) → (k == n) ≡ false → stored_of store k ≡ stored_of c.store k) where
          abbrev next : Table R
          next = record { ops = new; shares = shares; node = (after_turn c n turn a).node }

          own_move : Sees f place (find_op new n) (but_shares (after_at a)) (stored_of store n)
          own_move = subst (λ p. Sees f place (find_op new n) p (stored_of store n)) (sym (no_share_after a))
              (subst (λ p. Sees f place (find_op new n) p (stored_of store n)) (got_here alone a)
              (subst (λ x. Sees f place (find_op new n) (finite.get (after_turn alone n turn a).node.operations n) (stored_of x n)) (store_is alone a)
              (opens n)))

          own_share : SeesOne f place at (find_share shares n) (share_in (after_at a)) (stored_of store n)
          own_share = subst (λ x. SeesOne f place at (find_share shares n) x (stored_of store n)) (sym (none_shared a))
              (subst (λ o. SeesOne f place at o None (stored_of store n)) (sym no_share_there) tt)

          own : SeesAny f place at (find_op new n) (find_share shares n) (finite.get next.node.operations n) (stored_of next.node.store n)
          own = subst (λ p. SeesAny f place at (find_op new n) (find_share shares n) p (stored_of next.node.store n)) (sym (got_here c a))
              (subst (λ x. SeesAny f place at (find_op new n) (find_share shares n) (after_at a) (stored_of x n)) (sym (store_is c a))
              (record { move = own_move; share = own_share }))

          all_after : OpensAll f place at new shares (after_turn c n turn a).node
          all_after = opens_at f place at n table next (record {
            ops = news;
            shares = λ k off. refl;
            operations = got_other c a;
            store = λ k off. ap (λ x. stored_of x k) (store_is c a) ∙ stays k off;
          }) own h

      -- A message that the move may look at.
      pub move_handed : (port : ℕ) (m : Msg) (pm : MoveMsg R) → RowFollows f place mv.plan cells (move.row mv cells port m)
          (net.row_of (outline_plan mv.plan) (outline_phase f place mv.phase) (map number cells) port pm)
          → StepFollows f at packet place (hand_step c n port m)
          (record { ops = (found ops n port pm (find_op ops n)).ops; shares = shares; sends = as_old (found ops n port pm (find_op ops n)).sends })
      move_handed port m pm follows =
          let i = its_move in
          let did = found ops n port pm (Some i.e) in
          let row = row_in mv c.store port m in
          let left : MoveState = record mv { phase = row.next.phase } in
          let store : Store = move.store_after c.store mv.plan.op row.stored in
          let answer = move.answer_of row.next.phase in
          let alone_is : takes_turn alone n (turn_of (finite.get alone.operations n) alone.store port m)
          ≡ after_turn alone n (turn_of_move mv c.store row) answer =
          ap (λ p. takes_turn alone n (turn_of p alone.store port m)) there_alone in
          let real_is : hand_step c n port m ≡ after_turn c n (turn_of_move mv c.store row) answer = handed_is c n port m (subst NotShared (sym there) tt)
          ∙ ap (λ p. takes_turn c n (turn_of p c.store port m)) there in
          let turns : TurnFollows f place alone (takes_turn alone n (turn_of (finite.get alone.operations n) alone.store port m)) did = turn_same f place
          alone ops n port m pm i.e mv (opens_moves f place at ops shares c h) i.found_it there_alone i.sees its_op follows in
          let opens : Opens f place did.ops (after_turn alone n (turn_of_move mv c.store row) answer).node = subst (λ s. Opens f place did.ops s.node)
          alone_is turns.ops in
          let news : (k : ℕ) → (k == n) ≡ false → find_op did.ops k ≡ find_op ops k = λ k off. find_write_other n k (net.row i.e port pm).phase
          (net.row i.e port pm).store ops (turned_test k n off) in
          let stays : (k : ℕ) → (k == n) ≡ false → stored_of store k ≡ stored_of c.store k = λ k off. stored_after f place c.store mv.plan.op k row.stored
          ∙ ap (λ j. cond (k == j) (unwrap_or row.stored (stored_of c.store k)) (stored_of c.store k)) its_op
          ∙ ap (λ b. cond b (unwrap_or row.stored (stored_of c.store k)) (stored_of c.store k)) off in
          let sends : outline_all f place (after_turn c n (turn_of_move mv c.store row) answer).sends ≡ as_old did.sends =
          old_sends left store row.next.sends answer answer (row_old f place mv (stored_of c.store mv.plan.op) port m)
          ∙ ap (λ xs. as_old (outline_sends f place xs)) (sends_same left store row.next.sends answer answer)
          ∙ ap as_old (ap (λ s. outline_sends f place s.sends) (sym alone_is) ∙ turns.sends) in
          subst (λ o. StepFollows f at packet place (hand_step c n port m)
          (record { ops = (found ops n port pm o).ops; shares = shares; sends = as_old (found ops n port pm o).sends })) (sym i.found_it)
          (subst (λ s. StepFollows f at packet place s (record { ops = did.ops; shares = shares; sends = as_old did.sends })) (sym real_is)
          (record { opens = all_after left store row.next.sends answer answer did.ops opens news stays; sends = sends }))
