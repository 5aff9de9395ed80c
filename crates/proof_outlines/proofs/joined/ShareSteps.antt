-- The controller's step on a message that a share looks at: a fence's answer, a record of one unit, an answer to records, and a packet whose
-- target is the controller.
use Rattle.proof_outlines.proofs.Words.{◌≡◌, ℕ, true, false, Option, Some, None, [], refl, sym, ap, ◌∙◌, subst, arith, if◌then◌else◌, ◌==◌, option_map}
use Rattle.proof_outlines.proofs.Words.{Decides-eqb, same_Some, Chunk, Semantics, stored_of, FullCell, Msg, switch_node, MoveState, ShareState, Operation, Move}
use Rattle.proof_outlines.proofs.Words.{Copy, Share, ControllerState, still, hand_step, queue_step, on_diverted, Any, New, ShareMsg, Diverted_on, OpenShare}
use Rattle.proof_outlines.proofs.Words.{find_share, share_taking, Told, Is_fenced, Has_chunk, Is_synced, Has_packet, by_share, taking_found, either_way, Unit}
use Rattle.proof_outlines.proofs.Words.{MoveMsg}
use Rattle.std.specs.FinMap as finite
use Rattle.proof_machines.proofs.unit.Real as real
use Rattle.proof_outlines.proofs.joined.Words.{number, fenced_row, is_copied, joins, real_share, StepFollows, Given, place, Scene, AreShown, IsTaken, S, A}
use Rattle.proof_outlines.proofs.joined.Words.{shown}
use Rattle.proof_outlines.proofs.whole.ControlAll.{unlooked, fenced_follows, shared_follows, synced_follows}
use Rattle.proof_outlines.proofs.whole.OtherTurns.{move_still}
use Rattle.proof_outlines.proofs.whole.DivertedAll.{AreApart, taken_is, none_is, diverted_follows}
use Rattle.proof_outlines.proofs.joined.ControllerScenes.{RowLeads, Idles, step_on}
use Rattle.proof_outlines.proofs.joined.ControllerChanges.{NotMove}
use Rattle.proof_outlines.proofs.joined.ControllerTurns.{no_share_open, none_leads, copy_leads, still_leads, well_leads, share_below, share_leads, told_leads}
use Rattle.proof_outlines.proofs.joined.ShareTurns.{DidWell, share_queued_well}

module _ {F R : Type 0} (f : Semantics R) (g : Given) (n : ℕ) (x : Scene F f g) (p : ℕ) (are : AreShown f g n x) where
  abbrev c : ControllerState
  c = x.nodes.controller

  abbrev IsTakenHere : Msg → Type 0
  IsTakenHere m = IsTaken f g n x (record { node = 1; port = p; message = m })

  -- a share that isn't there is told nothing
  untold : (op : ℕ) (t : Told R) → find_share x.world.shares op ≡ None → joins f g.site g.packet (place g) (record { ops = x.world.ops; sends = [] })
      (by_share (S f g) (A f g) x.world.shares p (option_map (λ e. (e, t)) (find_share x.world.shares op)))
      ≡ record { ops = x.world.ops; shares = x.world.shares; sends = [] }
  untold op t none = ap (λ o. joins f g.site g.packet (place g) (record { ops = x.world.ops; sends = [] })
      (by_share (S f g) (A f g) x.world.shares p (option_map (λ e. (e, t)) o))) none

  pub fenced_leads : (op : ℕ) → IsTakenHere (Msg.Fenced op) → RowLeads f g x p (Msg.Fenced op) (hand_step c op p (Msg.Fenced op))
  fenced_leads op is = told_leads f g n x p (Msg.Fenced op) are is op (MoveMsg.Fenced op) refl refl refl refl
      (λ none. ap (option_map (λ e. (e, Is_fenced))) none)
      (λ mv h. fenced_row f (place g) mv.plan mv.phase (stored_of c.store op) p op h.refusing)
      (fenced_follows f g.site g.packet (place g) c x.world.ops x.world.shares are.controller.opens op p (are.controller.genuine op)
      (λ mv has. fenced_row f (place g) mv.plan mv.phase (stored_of c.store op) p op (are.controller.moves op mv has).refusing))

  -- a message that no move and no copy looks at
  module _ (m : Msg) (is : IsTakenHere m) (op : ℕ) (a : Any R) (seen : shown f g m ≡ Some a) (other : is_copied m ≡ false)
      (idle : find_share x.world.shares op ≡ None → Idles f g n x p m are is a) where
    stays_idle : find_share x.world.shares op ≡ None → (b : Any R) → shown f g m ≡ Some b → Idles f g n x p m are is b
    stays_idle none b e = subst (Idles f g n x p m are is) (same_Some _ _ (sym seen ∙ e)) (idle none)

    by_share_alone : ((mv : MoveState) → finite.get c.operations op ≡ Some (Move mv) → hand_step c op p m ≡ still c)
        → ((s : ShareState) → finite.get c.operations op ≡ Some (Share s) → RowLeads f g x p m (hand_step c op p m))
        → RowLeads f g x p m (hand_step c op p m)
    by_share_alone of_move of_share = by_got (finite.get c.operations op) refl
      where
        by_got : (o : Option Operation) → finite.get c.operations op ≡ o → RowLeads f g x p m (hand_step c op p m)
        by_got None e = none_leads f g n x p m are is op e (stays_idle (no_share_open f g n x p m are is op None e refl))
        by_got (Some (Move mv)) e =
            still_leads f g n x p m are is (hand_step c op p m) (of_move mv e) (stays_idle (no_share_open f g n x p m are is op (Some (Move mv)) e refl))
        by_got (Some (Copy y)) e = copy_leads f g n x p m are is op y e other (stays_idle (no_share_open f g n x p m are is op (Some (Copy y)) e refl))
        by_got (Some (Share s)) e = of_share s e

  pub shared_leads : (op : ℕ) (chunk : Chunk) → IsTakenHere (Msg.Shared op chunk)
      → RowLeads f g x p (Msg.Shared op chunk) (hand_step c op p (Msg.Shared op chunk))
  shared_leads op chunk is =
      let m = Msg.Shared op chunk in
      let good = is.label.1.chunk in
      let a : Any R = New (ShareMsg.Shared op good.entry) in
      let seen : shown f g m ≡ Some a = ap (option_map (λ e. New (ShareMsg.Shared op e))) good.spells in
      by_share_alone m is op a seen refl (untold op (Has_chunk good.entry))
      (λ mv there. move_still c op mv p m (are.controller.going op mv there) there (unlooked mv (stored_of c.store mv.plan.op) p m refl refl))
      (λ s there. share_leads f g n x p m are is op s there a seen (shared_follows f g.site g.packet (place g) c x.world.ops x.world.shares
      are.controller.opens op p chunk good.entry good.spells (are.controller.genuine op) (λ mv has. are.controller.going op mv has)) refl)

  pub synced_leads : (op : ℕ) → IsTakenHere (Msg.Synced op) → RowLeads f g x p (Msg.Synced op) (hand_step c op p (Msg.Synced op))
  synced_leads op is =
      let m = Msg.Synced op in
      by_share_alone m is op (New (ShareMsg.Synced op)) refl refl (untold op Is_synced)
      (λ mv there. move_still c op mv p m (are.controller.going op mv there) there (unlooked mv (stored_of c.store mv.plan.op) p m refl refl))
      (λ s there. share_leads f g n x p m are is op s there (New (ShareMsg.Synced op)) refl (synced_follows f g.site g.packet (place g) c x.world.ops
      x.world.shares are.controller.opens op p (are.controller.genuine op) (λ mv has. are.controller.going op mv has)) refl)

  -- A packet whose target is the controller.
  module _ (cell : FullCell) (is : IsTakenHere (Msg.Diverted cell)) where
    abbrev its_unit : Unit
    its_unit = (S f g).packet_unit (number cell)

    one_share : (j k : ℕ) (d e : OpenShare) → find_share x.world.shares j ≡ Some d → find_share x.world.shares k ≡ Some e
        → (S f g).takes d.filter its_unit ≡ true → (S f g).takes e.filter its_unit ≡ true → j ≡ k
    one_share j k d e at_j at_k takes_d takes_e = either_way (j == k) (λ on. (Decides-eqb j k).0 on)
        (λ off. let never : true ≡ false = sym takes_e ∙ are.every.global.apart j k d e at_j at_k off its_unit takes_d in cc)

    apart : AreApart f g.site g.packet (place g) c x.world.ops x.world.shares are.controller.opens its_unit
    apart = record { nums = are.every.global.nums_apart; whole = λ k s there. (are.controller.shared k s there).whole; one = one_share }

    follows : StepFollows f g.site g.packet (place g) (on_diverted c cell) (step_on f g n x p (Msg.Diverted cell) are is (New (Diverted_on (number cell))))
    follows = diverted_follows f g.site g.packet (place g) c x.world.ops x.world.shares are.controller.opens cell are.controller.site is.label.2 apart p
        are.controller.genuine

    taken_leads : (e : OpenShare) → share_taking (S f g) x.world.shares its_unit ≡ Some e → RowLeads f g x p (Msg.Diverted cell) (on_diverted c cell)
    taken_leads e taking =
        let own = taken_is f g.site g.packet (place g) c x.world.ops x.world.shares are.controller.opens cell are.controller.site is.label.2 apart e taking in
        let r = real_share f (place g) g.site x.world.ops x.world.shares c e.num e are.controller.opens
        (taking_found (S f g) (A f g) x.world.shares its_unit e are.every.global.nums_apart taking) in
        let below = share_below f g n x p (Msg.Diverted cell) are is e.num r.s r.there in
        let well : DidWell f g c e.num (on_diverted c cell) = subst (DidWell f g c e.num) (sym (ap (queue_step c cell) own))
        (share_queued_well f g c e.num r.s r.there (are.controller.shared e.num r.s r.there) (are.controller.genuine e.num) cell is.label.2) in
        well_leads f g n x p (Msg.Diverted cell) are is e.num (on_diverted c cell) (New (Diverted_on (number cell))) refl follows refl
        (subst NotMove (sym r.there) tt) (λ least. (let never : ⊥ = omega (arith, below, least) in absurd never)) well

    free_leads : share_taking (S f g) x.world.shares its_unit ≡ None → RowLeads f g x p (Msg.Diverted cell) (on_diverted c cell)
    free_leads free =
        let none = none_is f g.site g.packet (place g) c x.world.ops x.world.shares are.controller.opens cell are.controller.site is.label.2 apart free in
        still_leads f g n x p (Msg.Diverted cell) are is (on_diverted c cell) (ap (queue_step c cell) none)
        (λ a e. subst (Idles f g n x p (Msg.Diverted cell) are is) (same_Some _ _ e) (ap (λ o. joins f g.site g.packet (place g)
        (record { ops = x.world.ops; sends = [] }) (by_share (S f g) (A f g) x.world.shares p (option_map (λ y. (y, Has_packet (number cell))) o))) free))

    pub diverted_leads : RowLeads f g x p (Msg.Diverted cell) (if p == switch_node then on_diverted c cell else still c)
    diverted_leads =
        let on : (p == switch_node) ≡ true = (Decides-eqb p switch_node).1 is.label.0 in
        subst (λ b. RowLeads f g x p (Msg.Diverted cell) (if b then on_diverted c cell else still c)) (sym on)
        (by_taking (share_taking (S f g) x.world.shares its_unit) refl)
      where
        by_taking : (o : Option OpenShare) → share_taking (S f g) x.world.shares its_unit ≡ o → RowLeads f g x p (Msg.Diverted cell) (on_diverted c cell)
        by_taking (Some e) taking = taken_leads e taking
        by_taking None free = free_leads free
