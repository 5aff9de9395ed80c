-- The controller's step on a message of an open move, or of a number under which no move is open.
use Rattle.proof_outlines.proofs.Words.{◌≡◌, ℕ, ◌+◌, ◌<◌, ◌≤◌, true, false, Option, Some, None, List, [], ◌∷◌, ◌++◌, map, length, refl, sym, ap, ◌∙◌, subst}
use Rattle.proof_outlines.proofs.Words.{arith, if◌then◌else◌, ◌==◌, ◌-◌, nat_lt, nat_le, is_some, unwrap_or, nat_tests, Decides-eqb, Decides-ltb, same_Some}
use Rattle.proof_outlines.proofs.Words.{Semantics, FullCell, stored_of, Answer, Msg, Refused, switch_node, MoveState, row, row_in, answer_of, source}
use Rattle.proof_outlines.proofs.Words.{destination, from_source, from_destination, keeps, next_phase, CopyState, ShareState, Operation, Move, Copy, Share}
use Rattle.proof_outlines.proofs.Words.{turn_of, turn_of_move, ControllerState, Step, still, after_turn, takes_turn, hand_step, instance_at, Each, Open}
use Rattle.proof_outlines.proofs.Words.{find_op, num_of, found, numbered, each_found, Any, Old, find_share, told_by, by_share, as_old, found_num, found_each}
use Rattle.proof_outlines.proofs.Words.{copies, either_way, Unit, Mark, split, MoveMsg}
use Rattle.std.specs.FinMap as finite
use Rattle.copy_share.specs.Share as share
use Rattle.ctrl_node.specs.Controller.{on_event}
use Rattle.proof_machines.proofs.unit.Real as real
use Rattle.proof_machines.proofs.net.Net as net
use Rattle.proof_machines.proofs.net.Copies.{has}
use Rattle.proof_outlines.proofs.joined.Words.{number, entries, is_sys, outline_plan, outline_phase, RowFollows, put_no_row, event_row, Sees, SeesMove}
use Rattle.proof_outlines.proofs.joined.Words.{is_copied, quiet_turn, NotShared, handed_is, but_shares, share_in, IsUnseen, SeesAny, OpensAll, no_op}
use Rattle.proof_outlines.proofs.joined.Words.{no_open_share, joins, AllStep, StepFollows, Given, place, Label, Scene, AreShown, IsTaken, IsController}
use Rattle.proof_outlines.proofs.joined.Words.{IsListed, IsMove, S, A, count, shown, came_by}
use Rattle.proof_outlines.proofs.whole.OpenShares.{both as both_shares}
use Rattle.proof_outlines.proofs.whole.ControlAll.{old_follows}
use Rattle.proof_outlines.proofs.joined.UnitCounts.{times, times_is_has}
use Rattle.proof_outlines.proofs.joined.MoveReadings.{one_copy_all, one_copy_back_all, event_open_all}
use Rattle.proof_outlines.proofs.joined.ClosingMoves.{closed_empty}
use Rattle.proof_outlines.proofs.joined.MoveSteps.{RowKeeps, row_keeps, brought, kept_in}
use Rattle.proof_outlines.proofs.joined.ShareTurns.{DidWell, share_handed_well}
use Rattle.proof_outlines.proofs.joined.ControllerChanges.{NotMove, listed_alike, changed}
use Rattle.proof_outlines.proofs.joined.ControllerRows.{controller_after, kept_count, turn_labels, turn_quiet}
use Rattle.proof_outlines.proofs.joined.ControllerScenes.{RowLeads, waits, step_on, taken, Idles, idles, stays}

module _ {F R : Type 0} (f : Semantics R) (g : Given) (n : ℕ) (x : Scene F f g) (p : ℕ) (m : Msg) (are : AreShown f g n x)
    (is : IsTaken f g n x (record { node = 1; port = p; message = m })) where
  abbrev c : ControllerState
  c = x.nodes.controller

  abbrev On : Any R → AllStep R
  On a = step_on f g n x p m are is a

  abbrev ItsRow : ℕ → MoveMsg R → MoveState → Type 0
  ItsRow op pm mv = RowFollows f (place g) mv.plan (stored_of c.store op) (row mv (stored_of c.store op) p m)
      (net.row_of (outline_plan mv.plan) (outline_phase f (place g) mv.phase) (map number (stored_of c.store op)) p pm)

  -- what the abstract network has under a number
  seen_at : (op : ℕ) (o : Option Operation) → finite.get c.operations op ≡ o
      → SeesAny f (place g) g.site (find_op x.world.ops op) (find_share x.world.shares op) o (stored_of c.store op)
  seen_at op o there = subst (λ q. SeesAny f (place g) g.site (find_op x.world.ops op) (find_share x.world.shares op) q (stored_of c.store op)) there
      (are.controller.opens op)

  pub no_open : (op : ℕ) (o : Option Operation) → finite.get c.operations op ≡ o → IsUnseen (but_shares o) → find_op x.world.ops op ≡ None
  no_open op o there unseen =
      no_op f (place g) g.site (find_op x.world.ops op) (find_share x.world.shares op) o (stored_of c.store op) unseen (seen_at op o there)

  pub no_share_open : (op : ℕ) (o : Option Operation) → finite.get c.operations op ≡ o → share_in o ≡ None → find_share x.world.shares op ≡ None
  no_share_open op o there none =
      no_open_share f (place g) g.site (find_op x.world.ops op) (find_share x.world.shares op) o (stored_of c.store op) none (seen_at op o there)

  -- an open move that the abstract network has
  record Both (op : ℕ) (mv : MoveState) : Type 0 where
    e : Open R
    there : find_op x.world.ops op ≡ Some e
    sees : SeesMove f (place g) e mv (stored_of c.store op)

  both : (op : ℕ) (mv : MoveState) → finite.get c.operations op ≡ Some (Move mv) → Both op mv
  both op mv has = by_open (find_op x.world.ops op) refl (seen_at op (Some (Move mv)) has).move
    where
      by_open : (o : Option (Open R)) → find_op x.world.ops op ≡ o → Sees f (place g) (find_op x.world.ops op) (Some (Move mv)) (stored_of c.store op)
          → Both op mv
      by_open None e s = absurd (subst (λ o. Sees f (place g) o (Some (Move mv)) (stored_of c.store op)) e s)
      by_open (Some e) there s = record { e = e; there = there; sees = subst (λ o. Sees f (place g) o (Some (Move mv)) (stored_of c.store op)) there s }

  -- nothing is served where no share is
  turn_leads : (op : ℕ) → NotShared (finite.get c.operations op) → RowLeads f g x p m (takes_turn c op (turn_of (finite.get c.operations op) c.store p m))
      → RowLeads f g x p m (hand_step c op p m)
  turn_leads op none h = subst (RowLeads f g x p m) (sym (handed_is c op p m none)) h

  -- a row that leaves the controller as it is
  pub still_leads : (did : Step) → did ≡ still c → ((a : Any R) → shown f g m ≡ Some a → Idles f g n x p m are is a) → RowLeads f g x p m did
  still_leads did same idle = subst (RowLeads f g x p m) (sym same)
      (stays f g n x p m are is (still c) refl refl refl refl refl tt (record { arrived_is = refl; done_is = refl; installed_is = refl }) idle)

  pub none_leads : (op : ℕ) → finite.get c.operations op ≡ None → ((a : Any R) → shown f g m ≡ Some a → Idles f g n x p m are is a)
      → RowLeads f g x p m (hand_step c op p m)
  none_leads op there idle = turn_leads op (subst NotShared (sym there) tt)
      (still_leads (takes_turn c op (turn_of (finite.get c.operations op) c.store p m)) (ap (λ o. takes_turn c op (turn_of o c.store p m)) there) idle)

  pub copy_leads : (op : ℕ) (y : CopyState) → finite.get c.operations op ≡ Some (Copy y) → is_copied m ≡ false
      → ((a : Any R) → shown f g m ≡ Some a → Idles f g n x p m are is a) → RowLeads f g x p m (hand_step c op p m)
  copy_leads op y there other idle =
      turn_leads op (subst NotShared (sym there) tt) (still_leads (takes_turn c op (turn_of (finite.get c.operations op) c.store p m))
      (ap (λ o. takes_turn c op (turn_of o c.store p m)) there ∙ quiet_turn c op y (are.controller.copies op y there).going there p m other) idle)

  -- a step that changes at most what stands at a number where no move is
  pub well_leads : (op : ℕ) (did : Step) (a : Any R) → shown f g m ≡ Some a → StepFollows f g.site g.packet (place g) did (On a) → (On a).ops ≡ x.world.ops
      → NotMove (finite.get c.operations op) → (x.world.next ≤ op → stored_of did.node.store op ≡ []) → DidWell f g c op did → RowLeads f g x p m did
  well_leads op did a seen follows same was later well =
      let listed : Each (IsListed f g did.node) (On a).ops = subst (Each (IsListed f g did.node)) (sym same)
      (listed_alike f g c did.node op well.alike was x.world.ops are.controller.listed) in
      taken f g n x p m are is did a seen follows.sends
      (changed f g c did.node x.world.ops x.world.shares x.world.next x.world.next op are.controller well.alike (omega arith) well.operation later
      (On a).ops (On a).shares follows.opens listed)
      well.labels well.quiet

  -- the same of a step that no move and no share sees
  pub well_idles : (op : ℕ) (did : Step) → StepFollows f g.site g.packet (place g) did (record { ops = x.world.ops; shares = x.world.shares; sends = [] })
      → NotMove (finite.get c.operations op) → (x.world.next ≤ op → stored_of did.node.store op ≡ []) → DidWell f g c op did
      → ((a : Any R) → shown f g m ≡ Some a → Idles f g n x p m are is a) → RowLeads f g x p m did
  well_idles op did follows was later well idle = idles f g n x p m are is did
      (changed f g c did.node x.world.ops x.world.shares x.world.next x.world.next op are.controller well.alike (omega arith) well.operation later
      x.world.ops x.world.shares follows.opens (listed_alike f g c did.node op well.alike was x.world.ops are.controller.listed))
      follows.sends well.labels well.quiet idle

  -- numbers of open shares are below the next one
  pub share_below : (op : ℕ) (s : ShareState) → finite.get c.operations op ≡ Some (Share s) → op < x.world.next
  share_below op s there =
      let b = both_shares f (place g) g.site x.world.ops x.world.shares c op s are.controller.opens there in
      let low : b.e.num < x.world.next = found_each (λ e. e.num < x.world.next) x.world.shares op b.e are.every.global.shares_below b.there in
      subst (λ k. k < x.world.next) ((Decides-eqb b.e.num op).0 (found_num x.world.shares op b.e b.there)) low

  -- An open share takes the message.
  pub share_leads : (op : ℕ) (s : ShareState) → finite.get c.operations op ≡ Some (Share s) → (a : Any R) → shown f g m ≡ Some a
      → StepFollows f g.site g.packet (place g) (hand_step c op p m) (On a) → (On a).ops ≡ x.world.ops → RowLeads f g x p m (hand_step c op p m)
  share_leads op s there a seen follows same =
      well_leads op (hand_step c op p m) a seen follows same (subst NotMove (sym there) tt)
      (λ least. (let never : ⊥ = omega (arith, share_below op s there, least) in absurd never))
      (share_handed_well f g c op s there (are.controller.shared op s there) (are.controller.genuine op) p m is.label)

  -- A message of moves, of a number.
  module _ (op : ℕ) (pm : MoveMsg R) (seen : shown f g m ≡ Some (Old (net.Of_move net.everything pm))) (num : num_of pm ≡ Some op)
      (untold : find_share x.world.shares op ≡ None → told_by (S f g) (A f g) x.world.shares (Old (net.Of_move net.everything pm)) ≡ None) where
    abbrev a : Any R
    a = Old (net.Of_move net.everything pm)

    -- what it does to the abstract move, and nothing to shares
    stepped : find_share x.world.shares op ≡ None → On a ≡ record {
      ops = (found x.world.ops op p pm (find_op x.world.ops op)).ops;
      shares = x.world.shares;
      sends = as_old (found x.world.ops op p pm (find_op x.world.ops op)).sends ++ [];
    }
    stepped none =
        ap (λ o. joins f g.site g.packet (place g) (numbered x.world.ops p pm o)
        (by_share (S f g) (A f g) x.world.shares p (told_by (S f g) (A f g) x.world.shares a))) num
        ∙ ap (λ t. joins f g.site g.packet (place g) (found x.world.ops op p pm (find_op x.world.ops op)) (by_share (S f g) (A f g) x.world.shares p t))
        (untold none)

    moves_same : find_op x.world.ops op ≡ None → (On a).ops ≡ x.world.ops
    moves_same none = ap (λ o. (numbered x.world.ops p pm o).ops) num ∙ ap (λ o. (found x.world.ops op p pm o).ops) none

    idle : find_op x.world.ops op ≡ None → find_share x.world.shares op ≡ None → (b : Any R) → shown f g m ≡ Some b → Idles f g n x p m are is b
    idle none unshared b e = subst (Idles f g n x p m are is) (same_Some _ _ (sym seen ∙ e)) (stepped unshared ∙ ap
        (λ o. record { ops = (found x.world.ops op p pm o).ops; shares = x.world.shares; sends = as_old (found x.world.ops op p pm o).sends ++ [] }) none)

    -- an open move takes the message
    pub opened : (mv : MoveState) → finite.get c.operations op ≡ Some (Move mv) → StepFollows f g.site g.packet (place g) (hand_step c op p m) (On a)
        → ItsRow op pm mv → RowKeeps f g op mv (stored_of c.store op) (row mv (stored_of c.store op) p m) → RowLeads f g x p m (hand_step c op p m)
    opened mv has step follows keeps =
        let events = stored_of c.store op in
        let real_row = row mv events p m in
        let b = both op mv has in
        let e = b.e in
        let same = (are.controller.moves op mv has).op_is in
        let in_store : row_in mv c.store p m ≡ real_row = ap (λ k. row mv (stored_of c.store k) p m) same in
        let did : Step = after_turn c op (turn_of_move mv c.store real_row) (answer_of real_row.next.phase) in
        let ended : hand_step c op p m ≡ did = handed_is c op p m (subst NotShared (sym has) tt) ∙ ap (λ o. takes_turn c op (turn_of o c.store p m)) has
        ∙ ap (λ r. takes_turn c op (turn_of_move mv c.store r)) in_store in
        let seen_row : net.row e p pm ≡ net.row_of (outline_plan mv.plan) (outline_phase f (place g) mv.phase) (map number events) p pm =
        ap (λ y. net.row_of y e.phase e.store p pm) b.sees.op ∙ ap (λ y. net.row_of (outline_plan mv.plan) y e.store p pm) b.sees.phase
        ∙ ap (λ y. net.row_of (outline_plan mv.plan) (outline_phase f (place g) mv.phase) y p pm) b.sees.store in
        let phases : (net.row e p pm).phase ≡ outline_phase f (place g) real_row.next.phase = ap (λ y. y.phase) seen_row ∙ sym follows.phase in
        let on : On a ≡ record {
          ops = (found x.world.ops op p pm (Some e)).ops;
          shares = x.world.shares;
          sends = as_old (found x.world.ops op p pm (Some e)).sends ++ [];
        } =
        stepped (no_share_open op (Some (Move mv)) has refl)
        ∙ ap (λ o. record { ops = (found x.world.ops op p pm o).ops; shares = x.world.shares; sends = as_old (found x.world.ops op p pm o).sends ++ [] })
        b.there in
        let after_step : StepFollows f g.site g.packet (place g) did (On a) = subst (λ d. StepFollows f g.site g.packet (place g) d (On a)) ended step in
        let opens : OpensAll f (place g) g.site (found x.world.ops op p pm (Some e)).ops x.world.shares did.node =
        subst (λ s. OpensAll f (place g) g.site s.ops s.shares did.node) on after_step.opens in
        let bound = each_found (λ y. y.op.num < x.world.next) op x.world.ops e are.every.global.moves.ops b.there in
        let ends : (why : Answer) → answer_of real_row.next.phase ≡ Some why → unwrap_or real_row.stored events ≡ [] = λ why over. closed_empty f g x.world
        (came_by f g x.log) are.every op e mv events b.there b.sees (are.controller.going op mv has) p m why over in
        let below : op < x.world.next = subst (λ k. k < x.world.next) ((Decides-eqb e.op.num op).0 bound.1) bound.0 in
        let after = controller_after f g c x.world.ops x.world.shares x.world.next op mv real_row are.controller has below keeps ends real_row.next.phase
        (net.row e p pm).phase (net.row e p pm).store refl phases opens in
        subst (RowLeads f g x p m) (sym ended) (taken f g n x p m are is did a seen after_step.sends
        (subst (λ s. IsController f g did.node s.ops s.shares x.world.next) (sym on) after)
        (turn_labels f g c op (turn_of_move mv c.store real_row) (answer_of real_row.next.phase) keeps.labels)
        (turn_quiet c op (turn_of_move mv c.store real_row) (answer_of real_row.next.phase)))

    pub by_operation : is_copied m ≡ false → StepFollows f g.site g.packet (place g) (hand_step c op p m) (On a)
        → ((mv : MoveState) → finite.get c.operations op ≡ Some (Move mv) → RowLeads f g x p m (hand_step c op p m))
        → RowLeads f g x p m (hand_step c op p m)
    by_operation other step at_move = cases (finite.get c.operations op) refl
      where
        cases : (o : Option Operation) → finite.get c.operations op ≡ o → RowLeads f g x p m (hand_step c op p m)
        cases None e = none_leads op e (idle (no_open op None e tt) (no_share_open op None e refl))
        cases (Some (Move mv)) e = at_move mv e
        cases (Some (Copy y)) e = copy_leads op y e other (idle (no_open op (Some (Copy y)) e tt) (no_share_open op (Some (Copy y)) e refl))
        cases (Some (Share s)) e = share_leads op s e a seen step (moves_same (no_open op (Some (Share s)) e tt))

  -- a unit stands at most once among what a move keeps
  kept_once : (op : ℕ) (mv : MoveState) → finite.get c.operations op ≡ Some (Move mv) → (u : Unit) → times u (entries f (kept_in mv.phase)) ≤ 1
  kept_once op mv has u =
      let b = both op mv has in
      let one : copies u b.e.phase ≤ 1 = one_copy_all (S f g) (A f g) (is_sys f g.site g.packet) x.world (came_by f g x.log) are.every op b.e b.there u in
      let counted : times u (entries f (kept_in mv.phase)) ≡ copies u b.e.phase = kept_count f g mv.phase (are.controller.moves op mv has).pieces u
      ∙ ap (copies u) (sym b.sees.phase) in
      omega (arith, one, counted)

  abbrev Once : MoveState → Msg → Type 0
  Once mv message = (u : Unit) → times u (entries f (brought message)) + times u (entries f (kept_in mv.phase)) ≤ 1

  nothing_brought : (op : ℕ) (mv : MoveState) (message : Msg) → finite.get c.operations op ≡ Some (Move mv) → brought message ≡ [] → Once mv message
  nothing_brought op mv message has none u = let kept = kept_once op mv has u in rw none (omega (arith, kept))

  keeps_row : (op : ℕ) (mv : MoveState) (message : Msg) → finite.get c.operations op ≡ Some (Move mv) → Label f g p 1 message → Once mv message
      → RowKeeps f g op mv (stored_of c.store op) (row mv (stored_of c.store op) p message)
  keeps_row op mv message has label once =
      row_keeps f g op mv (stored_of c.store op) p message (are.controller.moves op mv has) (are.controller.genuine op) label once

  -- A message that brings no chunks back, by what the whole network does with it.
  pub told_leads : (op : ℕ) (pm : MoveMsg R) → is_copied m ≡ false → shown f g m ≡ Some (Old (net.Of_move net.everything pm)) → num_of pm ≡ Some op
      → brought m ≡ [] → (find_share x.world.shares op ≡ None → told_by (S f g) (A f g) x.world.shares (Old (net.Of_move net.everything pm)) ≡ None)
      → ((mv : MoveState) → IsMove f g op mv → ItsRow op pm mv)
      → StepFollows f g.site g.packet (place g) (hand_step c op p m) (On (Old (net.Of_move net.everything pm))) → RowLeads f g x p m (hand_step c op p m)
  told_leads op pm other seen num none untold rows step = by_operation op pm seen num untold other step (λ mv has. opened op pm seen num untold mv has step
      (rows mv (are.controller.moves op mv has)) (keeps_row op mv m has is.label (nothing_brought op mv m has none)))

  -- One that no share looks at.
  pub numbered_leads : (op : ℕ) (pm : MoveMsg R) → is_copied m ≡ false → shown f g m ≡ Some (Old (net.Of_move net.everything pm))
      → num_of pm ≡ Some op → brought m ≡ [] → told_by (S f g) (A f g) x.world.shares (Old (net.Of_move net.everything pm)) ≡ None
      → ((s : ShareState) → share.row s p m ≡ share.next_phase s.phase []) → ((mv : MoveState) → IsMove f g op mv → ItsRow op pm mv)
      → RowLeads f g x p m (hand_step c op p m)
  numbered_leads op pm other seen num none untold quiet rows = told_leads op pm other seen num none (λ _. untold) rows
      (old_follows f g.site g.packet (place g) c x.world.ops x.world.shares are.controller.opens op p m pm num untold
      (λ mv has. rows mv (are.controller.moves op mv has)) quiet)

-- What was refused comes back: from the destination, or else it isn't looked at.
module _ {F R : Type 0} (f : Semantics R) (g : Given) (n : ℕ) (x : Scene F f g) (p op : ℕ) (refused : Refused) (are : AreShown f g n x)
    (is : IsTaken f g n x (record { node = 1; port = p; message = Msg.PutNo op refused })) where
  abbrev its_store : List FullCell
  its_store = stored_of x.nodes.controller.store op

  back_once : (mv : MoveState) → finite.get x.nodes.controller.operations op ≡ Some (Move mv) → (p == destination mv.plan) ≡ true → (u : Unit)
      → times u (entries f refused.chunks) + times u (entries f (kept_in mv.phase)) ≤ 1
  back_once mv got at u =
      let b = both f g n x p (Msg.PutNo op refused) are is op mv got in
      let same : b.e.op.dst ≡ p = ap (λ o. o.dst) b.sees.op ∙ sym ((Decides-eqb p (destination mv.plan)).0 at) in
      let comes : x.world.link b.e.op.dst 1 ≡ Old (net.Of_move net.everything (MoveMsg.Put_no op refused.why (entries f refused.chunks))) ∷ is.rest =
      ap (λ k. x.world.link k 1) same
      ∙ waits f g n x p (Msg.PutNo op refused) are is (Old (net.Of_move net.everything (MoveMsg.Put_no op refused.why (entries f refused.chunks)))) refl in
      let one : has u (entries f refused.chunks) + copies u b.e.phase ≤ 1 = one_copy_back_all (S f g) (A f g) (is_sys f g.site g.packet) x.world
      (came_by f g x.log) are.every op b.e b.there u net.everything refused.why (entries f refused.chunks) is.rest comes in
      let brought_is : times u (entries f refused.chunks) ≡ has u (entries f refused.chunks) = times_is_has (entries f refused.chunks) is.label.1.distinct u in
      let counted : times u (entries f (kept_in mv.phase)) ≡ copies u b.e.phase = kept_count f g mv.phase (are.controller.moves op mv got).pieces u
      ∙ ap (copies u) (sym b.sees.phase) in
      omega (arith, one, counted, brought_is)

  -- elsewhere it does what a message does that isn't looked at
  as_put_ok : (mv : MoveState) → (p == destination mv.plan) ≡ false → row mv its_store p (Msg.PutOk op) ≡ row mv its_store p (Msg.PutNo op refused)
  as_put_ok mv off = split (p == source mv.plan)
      (λ a. (if a then from_source mv.plan mv.phase its_store (Msg.PutOk op) else if p == destination mv.plan then from_destination mv.plan mv.phase its_store
      (Msg.PutOk op) else keeps (next_phase mv.phase [])) ≡
      (if a then from_source mv.plan mv.phase its_store
      (Msg.PutNo op refused) else if p == destination mv.plan then from_destination mv.plan mv.phase its_store (Msg.PutNo op refused) else keeps
      (next_phase mv.phase [])))
      (λ _. refl) (λ _. rw off refl)

  back_keeps : (mv : MoveState) → finite.get x.nodes.controller.operations op ≡ Some (Move mv)
      → RowKeeps f g op mv its_store (row mv its_store p (Msg.PutNo op refused))
  back_keeps mv got =
      either_way (p == destination mv.plan)
      (λ at. keeps_row f g n x p (Msg.PutNo op refused) are is op mv (Msg.PutNo op refused) got is.label (back_once mv got at))
      (λ off. subst (RowKeeps f g op mv its_store) (as_put_ok mv off) (keeps_row f g n x p (Msg.PutNo op refused) are is op mv (Msg.PutOk op) got
      is.label.0 (nothing_brought f g n x p (Msg.PutNo op refused) are is op mv (Msg.PutOk op) got refl)))

  pub put_no_leads : RowLeads f g x p (Msg.PutNo op refused) (hand_step x.nodes.controller op p (Msg.PutNo op refused))
  put_no_leads =
      let pm = MoveMsg.Put_no op refused.why (entries f refused.chunks) in
      let step = old_follows f g.site g.packet (place g) x.nodes.controller x.world.ops x.world.shares are.controller.opens op p (Msg.PutNo op refused) pm
      refl refl (λ mv got. put_no_row f (place g) mv.plan mv.phase its_store p op refused) (λ s. refl) in
      by_operation f g n x p (Msg.PutNo op refused) are is op pm refl refl (λ _. refl) refl step (λ mv got. opened f g n x p (Msg.PutNo op refused) are is
      op pm refl refl (λ _. refl) mv got step (put_no_row f (place g) mv.plan mv.phase its_store p op refused) (back_keeps mv got))

-- An event: its move is open.
module _ {F R : Type 0} (f : Semantics R) (g : Given) (n : ℕ) (x : Scene F f g) (p op : ℕ) (cell : FullCell) (are : AreShown f g n x)
    (is : IsTaken f g n x (record { node = 1; port = p; message = Msg.Event op cell })) where
  abbrev event : Msg
  event = Msg.Event op cell

  abbrev seen_event : MoveMsg R
  seen_event = MoveMsg.Event op (number cell)

  its_port : instance_at x.nodes.controller p ≡ Some (p - 2)
  its_port =
      let two = is.label.0.0 in
      let named : length x.nodes.controller.names ≡ count f g = ap length are.controller.names in
      let low : nat_le 2 p ≡ true = grind (arith, nat_tests, two) in
      let high : nat_lt (p - 2) (length x.nodes.controller.names) ≡ true = (Decides-ltb (p - 2) (length x.nodes.controller.names)).1
      (omega (arith, named, two, is.count_is, is.sender)) in
      rw (low, high) refl

  never : find_op x.world.ops op ≡ None → ⊥
  never none = event_open_all (S f g) (A f g) (is_sys f g.site g.packet) x.world (came_by f g x.log) are.every p op (number cell) net.everything is.rest
      (waits f g n x p event are is (Old (net.Of_move net.everything seen_event)) refl) none

  pub event_leads : RowLeads f g x p event (on_event x.nodes.controller p op cell (instance_at x.nodes.controller p))
  event_leads = rw its_port (cases (finite.get x.nodes.controller.operations op) refl)
    where
      cases : (o : Option Operation) → finite.get x.nodes.controller.operations op ≡ o
          → RowLeads f g x p event (on_event x.nodes.controller p op cell (Some (p - 2)))
      cases None e = absurd (never (no_open f g n x p event are is op None e tt))
      cases (Some (Copy y)) e = absurd (never (no_open f g n x p event are is op (Some (Copy y)) e tt))
      cases (Some (Share s)) e = absurd (never (no_open f g n x p event are is op (Some (Share s)) e tt))
      cases (Some (Move mv)) e = subst (λ b. RowLeads f g x p event (if b then hand_step x.nodes.controller op p event
          else record { node = x.nodes.controller; sends = (switch_node, Msg.Forward (p - 2) (Mark.Pass op) cell) ∷ []; notes = [] })) (sym (ap is_some e))
          (numbered_leads f g n x p event are is op seen_event refl refl refl refl refl (λ s. refl)
          (λ y h. event_row f (place g) y.plan y.phase (stored_of x.nodes.controller.store op) p op cell))
