-- The controller's step on a message of an open share's number, and on a packet that is put at the end of its queue, is that of the network with
-- shares.
use Rattle.proof_outlines.proofs.Words.{◌≡◌, ℕ, false, cond, Option, Some, None, List, [], ◌∷◌, ◌++◌, map, refl, sym, ap, ◌∙◌, subst, append-nil, ◌==◌}
use Rattle.proof_outlines.proofs.Words.{unwrap_or, Decides-eqb, self, Packet, Site, Semantics, FullCell, stored_of, Answer, Msg, switch_node, instance_node}
use Rattle.proof_outlines.proofs.Words.{ShareState, ShareRow, Share, ControllerState, Step, hand_step, queue_step, Sys, Open, find_op, Sharing, OpenShare}
use Rattle.proof_outlines.proofs.Words.{find_share, set_share, Told, Has_packet, ShareTurn, share_row, by_share, found_num}
use Rattle.std.specs.FinMap as finite
use Rattle.copy_share.specs.Share as real
use Rattle.proof_machines.proofs.share.TableViews.{map_phase}
use Rattle.proof_machines.proofs.net.ShareSees.{found_set, found_set_other}
use Rattle.proof_outlines.proofs.outline.Outline.{number, sys}
use Rattle.proof_outlines.proofs.outline.InstanceOutline.{filter_map-put}
use Rattle.proof_outlines.proofs.outline.ControlOutline.{Sees}
use Rattle.proof_outlines.proofs.whole.WholeOutline.{outline_each, outline_all, sharing}
use Rattle.proof_outlines.proofs.whole.ShareOutline.{SeesShare, ShareFollows, sees_after, rests_served}
use Rattle.proof_outlines.proofs.whole.ShareLeft.{OpenAt, answered, next_share, still_waits, ShareLeaves, handed_leaves, queued_leaves}
use Rattle.proof_outlines.proofs.whole.OpenShares.{turned_test, but_shares, Table, Elsewhere, SeesAny, OpensAll, opens_at, sees_none, StepFollows}

module _ {R : Type 0} (f : Semantics R) (at : Site) (packet : ℕ → Packet) (place : List ℕ → Option ℕ) where
  abbrev S : Sys R
  S = sys f at packet

  abbrev A : Sharing S
  A = sharing f at packet

  -- an answer isn't looked at
  pub answer_unseen : (n : ℕ) (xs : List (ℕ × Msg)) → outline_all f place (xs ++ (switch_node, Msg.Answered n) ∷ []) ≡ outline_all f place xs
  answer_unseen n xs = filter_map-put (outline_each f place) xs ((switch_node, Msg.Answered n) ∷ []) ∙ append-nil (outline_all f place xs)

  module _ (c : ControllerState) (ops : List (Open R)) (shares : List OpenShare) (h : OpensAll f place at ops shares c) (n : ℕ)
      (s : ShareState) (there : finite.get c.operations n ≡ Some (Share s)) (e : OpenShare) (found : find_share shares n ≡ Some e)
      (sees : SeesShare at e s (stored_of c.store n)) where
    abbrev table : Table R
    table = record { ops = ops; shares = shares; node = c }

    num_is : e.num ≡ n
    num_is = (Decides-eqb e.num n).0 (found_num shares n e found)

    op_is : s.plan.op ≡ n
    op_is = sym (ap (λ x. x.num) sees.is) ∙ num_is

    no_move : (cells : List FullCell) → Sees f place (find_op ops n) None cells
    no_move cells = sees_none f place at (find_op ops n) None None (stored_of c.store n) cells tt tt
        (subst (λ p. Sees f place (find_op ops n) (but_shares p) (stored_of c.store n)) there (h n).move)

    -- what is found in a list of shares in which this one has changed
    record Renewed (did : ShareTurn R) (new : List OpenShare) : Type 0 where
      here : find_share new n ≡ Some (record e { phase = did.phase; queue = did.queue })
      other : (k : ℕ) → (k == n) ≡ false → find_share new k ≡ find_share shares k

    set_renewed : (did : ShareTurn R) → Renewed did (set_share e.num did.phase did.queue shares)
    set_renewed did = record {
      here = ap (λ k. find_share (set_share k did.phase did.queue shares) n) num_is ∙ found_set n did.phase did.queue shares e found;
      other = λ k off. ap (λ j. find_share (set_share j did.phase did.queue shares) k) num_is
          ∙ found_set_other n did.phase did.queue shares k (turned_test k n off);
    }

    module _ (did : ShareTurn R) (new : List OpenShare) (renewed : Renewed did new) where
      -- what a row of the share leaves
      module _ (cells : List FullCell) (r : ShareRow) (step : Step) (leaves : ShareLeaves (record { node = c; num = n; share = s; cells = cells }) r step)
          (follows : ShareFollows f at packet place s.plan cells r did) where
        abbrev x : OpenAt
        x = record { node = c; num = n; share = s; cells = cells }

        abbrev next : Table R
        next = record { ops = ops; shares = new; node = step.node }

        own : SeesAny f place at (find_op ops n) (find_share new n) (finite.get step.node.operations n) (stored_of step.node.store n)
        own =
            subst (λ p. SeesAny f place at (find_op ops n) (find_share new n) p (stored_of step.node.store n))
            (sym (leaves.operations n ∙ ap (λ b. cond b (Some (next_share x r)) (finite.get c.operations n)) (self n)))
            (subst (λ o. SeesAny f place at (find_op ops n) o (Some (next_share x r)) (stored_of step.node.store n)) (sym renewed.here)
            (subst (SeesAny f place at (find_op ops n) (Some (record e { phase = did.phase; queue = did.queue })) (Some (next_share x r)))
            (sym (leaves.store n ∙ ap (λ b. cond b (still_waits x r) (stored_of c.store n)) (self n)))
            (record { move = no_move (still_waits x r); share = sees_after f at packet place e s (stored_of c.store n) cells r did sees follows })))

        others : Elsewhere n table next
        others = record {
          ops = λ k off. refl;
          shares = renewed.other;
          operations = λ k off. leaves.operations k ∙ ap (λ b. cond b (Some (next_share x r)) (finite.get c.operations k)) off;
          store = λ k off. leaves.store k ∙ ap (λ b. cond b (still_waits x r) (stored_of c.store k)) off;
        }

        answer_same : (o : Option Answer) → outline_all f place (answered n o r.sends) ≡ outline_all f place r.sends
        answer_same None = refl
        answer_same (Some why) = answer_unseen n r.sends

        leaves_follows : StepFollows f at packet place step (record { ops = ops; shares = new; sends = did.sends })
        leaves_follows =
            let sent = (real.service_if_idle s.plan r.phase cells).sends in
            record {
              opens = opens_at f place at n table next others own h;
              sends = ap (outline_all f place) leaves.sends
                  ∙ filter_map-put (outline_each f place) (answered n r.answer r.sends) sent
                  ∙ ap (λ ys. ys ++ outline_all f place sent) (answer_same r.answer)
                  ∙ sym (filter_map-put (outline_each f place) r.sends sent)
                  ∙ follows.sends;
            }

    -- what the share leaves of a message, and of a packet behind its queue
    its_row : (port : ℕ) (m : Msg) (r : ShareRow) → real.row s port m ≡ r
        → ShareLeaves (record { node = c; num = n; share = s; cells = stored_of c.store n }) r (hand_step c n port m)
    its_row port m r is = handed_leaves (record { node = c; num = n; share = s; cells = stored_of c.store n }) r op_is port m there is refl

    -- what the abstract share does when it is told something
    abbrev pub Share_step : Step → ℕ → Told R → Type 0
    Share_step step sender told = StepFollows f at packet place step
        (record { ops = ops; shares = (by_share S A shares sender (Some (e, told))).shares; sends = (by_share S A shares sender (Some (e, told))).sends })

    -- a message that it is told by
    pub share_handed : (port : ℕ) (m : Msg) (told : Told R)
        → ShareFollows f at packet place s.plan (stored_of c.store n) (real.row s port m) (share_row S A e port told)
        → Share_step (hand_step c n port m) port told
    share_handed port m told follows =
        let did = share_row S A e port told in
        leaves_follows did (set_share e.num did.phase did.queue shares) (set_renewed did) (stored_of c.store n) (real.row s port m) (hand_step c n port m)
        (its_row port m (real.row s port m) refl) follows

    -- a message that it isn't told by
    pub share_quiet : (port : ℕ) (m : Msg) → real.row s port m ≡ real.next_phase s.phase []
        → StepFollows f at packet place (hand_step c n port m) (record { ops = ops; shares = shares; sends = [] })
    share_quiet port m quiet =
        let did : ShareTurn R = record { phase = e.phase; queue = e.queue; sends = [] } in
        let none = rests_served s.plan s.phase (stored_of c.store n) sees.rests in
        let follows : ShareFollows f at packet place s.plan (stored_of c.store n) (real.next_phase s.phase []) did = record {
          phase = ap (λ x. x.phase) sees.is ∙ ap (λ x. map_phase instance_node x.phase) (sym none);
          queue = ap (λ x. x.queue) sees.is ∙ ap (λ x. map number (unwrap_or x.stored (stored_of c.store n))) (sym none);
          sends = ap (λ x. outline_all f place x.sends) none;
        } in
        leaves_follows did shares (record { here = found; other = λ k off. refl }) (stored_of c.store n) (real.next_phase s.phase []) (hand_step c n port m)
        (its_row port m (real.next_phase s.phase []) quiet) follows

    -- a packet behind its queue
    pub share_queued : (port : ℕ) (cell : FullCell) → ShareFollows f at packet place s.plan (stored_of c.store n ++ cell ∷ []) (real.next_phase s.phase [])
        (share_row S A e port (Has_packet (number cell)))
        → Share_step (queue_step c cell (Some n)) port (Has_packet (number cell))
    share_queued port cell follows =
        let did = share_row S A e port (Has_packet (number cell)) in
        leaves_follows did (set_share e.num did.phase did.queue shares) (set_renewed did) (stored_of c.store n ++ cell ∷ []) (real.next_phase s.phase [])
        (queue_step c cell (Some n)) (queued_leaves c n s cell there op_is) follows
