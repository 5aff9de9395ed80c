-- What the controller sends for copies: it asks for records as a copy begins, or for a share, and hands on what came. Nothing else is of a copy.
use Rattle.proof_outlines.proofs.Words.{◌≡◌, ℕ, Bool, true, Option, Some, None, List, [], ◌∷◌, ◌++◌, map, refl, if◌then◌else◌, ◌-◌, ◌==◌, filter_map, Filter}
use Rattle.proof_outlines.proofs.Words.{flow_of, Chunk, Pass, FullCell, Answer, Command, Order, Msg, switch_node, instance_node, op_of, stored_of, with_parcels}
use Rattle.proof_outlines.proofs.Words.{source, destination, Operation, CopyPhase, SharePhase, CopyPlan, CopyState, SharePlan, ShareState, home, Move, Copy}
use Rattle.proof_outlines.proofs.Words.{Share, Turn, turn_of, serving_of, share_of, place_of, ControllerState, Each, each-append, by_if}
use Rattle.std.specs.FinMap as finite
use Rattle.copy_share.specs.Copy as copy
use Rattle.copy_share.specs.Share.{others as members_but}
use Rattle.copy_share.specs.Share as share
use Rattle.ctrl_node.specs.Controller as ctrl
use Rattle.proof_machines.proofs.share.TableViews.{Follow, fenced_follows, chunks_follows, shared_follows, synced_follows}
use Rattle.proof_outlines.proofs.outline.ControllerWays.{row_by}
use Rattle.proof_outlines.proofs.outline.MoveRows.{all_sent}
use Rattle.proof_outlines.proofs.joined.CopyAnswers.{is_uncopied, AreUncopied, no_copy, move_none}

-- What holds of each message that isn't a copy's, of what a copy or a share asks for, and of what a copy hands on, holds of all that is sent.
module _ (P : Msg → Type 0) (others : (m : Msg) → is_uncopied m ≡ true → P m) where
  abbrev pub EachIs : List (ℕ × Msg) → Type 0
  EachIs sends = Each (λ x. P x.1) sends

  each_other : (sends : List (ℕ × Msg)) → AreUncopied sends → EachIs sends
  each_other [] h = tt
  each_other (x ∷ xs) h = (others x.1 h.0, each_other xs h.1)

  each-both : (xs ys : List (ℕ × Msg)) → EachIs xs → EachIs ys → EachIs (xs ++ ys)
  each-both xs ys a b = each-append (λ x. P x.1) xs ys a b

  -- What a copy sends.
  abbrev HandsSo : ℕ → Msg → Type 0
  HandsSo op m = (k : ℕ) (chunks : List Chunk) → m ≡ Msg.Chunks k chunks → P (Msg.Standby op chunks)

  abbrev HandsAllSo : ℕ → Msg → Type 0
  HandsAllSo op m = (k : ℕ) (chunk : Chunk) → m ≡ Msg.AllChunk k chunk → P (Msg.PutAll op chunk)

  source_hands : (plan : CopyPlan) (ph : CopyPhase) (m : Msg) → HandsSo plan.op m → HandsAllSo plan.op m → EachIs (copy.from_source plan ph m).sends
  source_hands plan CopyPhase.Getting (Msg.Chunks op chunks) a b = (a op chunks refl, tt)
  source_hands plan CopyPhase.Getting (Msg.AllChunk op chunk) a b = (b op chunk refl, tt)
  source_hands plan ph m a b = tt

  destination_hands : (plan : CopyPlan) (ph : CopyPhase) (m : Msg) → EachIs (copy.from_destination plan ph m).sends
  destination_hands plan CopyPhase.Keeping (Msg.Kept op) = tt
  destination_hands plan ph m = tt

  copy_hands : (y : CopyState) (port : ℕ) (m : Msg) → HandsSo y.plan.op m → HandsAllSo y.plan.op m → EachIs (copy.row y port m).sends
  copy_hands y port m a b =
      by_if (λ (r : copy.CopyRow). EachIs r.sends) (port == instance_node y.plan.from) (source_hands y.plan y.phase m a b)
      (by_if (λ (r : copy.CopyRow). EachIs r.sends) (port == instance_node y.plan.to) (destination_hands y.plan y.phase m) tt)

  -- What a share sends.
  syncs_sent : (plan : SharePlan) (members : List ℕ) (chunks : List Chunk)
      → EachIs (map (λ member. (instance_node member, Msg.Sync (member == home plan) plan.op chunks)) members)
  syncs_sent plan [] chunks = tt
  syncs_sent plan (member ∷ members) chunks = (others (Msg.Sync (member == home plan) plan.op chunks) refl, syncs_sent plan members chunks)

  share_follow : (plan : SharePlan) → P (Msg.Get plan.op plan.filter) → Follow (share.words plan) (share.words plan) (λ m. m) (λ r _. EachIs r.sends)
  share_follow plan its = record { home = refl; others = λ one. refl; nothing = λ ph. tt; get = (its, tt); done = λ sent. sent }

  share_sent : (y : ShareState) (port : ℕ) (m : Msg) → P (Msg.Get y.plan.op y.plan.filter) → EachIs (share.row y port m).sends
  share_sent y port (Msg.Fenced op) its = by_if (λ (r : share.ShareRow). EachIs r.sends) (port == instance_node (home y.plan))
      (fenced_follows (share_follow y.plan its) y.phase) tt
  share_sent y port (Msg.Chunks op chunks) its = by_if (λ (r : share.ShareRow). EachIs r.sends) (port == instance_node (home y.plan))
      (chunks_follows (share_follow y.plan its) chunks chunks (λ one ph. syncs_sent y.plan (members_but y.plan one) chunks) y.phase) tt
  share_sent y port (Msg.Shared op chunk) its =
      shared_follows (share_follow y.plan its) (chunk ∷ []) (chunk ∷ []) (λ one ph. syncs_sent y.plan (members_but y.plan one) (chunk ∷ []))
      (λ m. port == instance_node m) (λ m. port == instance_node m) y.phase (λ one out. refl)
  share_sent y port (Msg.Synced op) its = synced_follows (share_follow y.plan its) y.phase
  share_sent y port m its = tt

  served_sent : (plan : SharePlan) (ph : SharePhase) (cells : List FullCell) → EachIs (share.service_if_idle plan ph cells).sends
  served_sent plan SharePhase.Idle (cell ∷ cells) = (others _ refl, tt)
  served_sent plan SharePhase.Idle [] = tt
  served_sent plan ph cells = tt

  serving_sent : (s : ControllerState) (o : Option Operation) → EachIs (serving_of o s.store).sends
  serving_sent s None = tt
  serving_sent s (Some (Move mv)) = tt
  serving_sent s (Some (Copy y)) = tt
  serving_sent s (Some (Share y)) = served_sent y.plan y.phase (stored_of s.store y.plan.op)

  serves_sent : (s : ControllerState) (op : ℕ) → EachIs (ctrl.serve_step s op).sends
  serves_sent s op = serving_sent s (finite.get s.operations op)

  -- what an open operation is to send for a message
  abbrev pub TurnSo : Option Operation → Msg → Type 0
  TurnSo (Some (Copy y)) m = HandsSo y.plan.op m × HandsAllSo y.plan.op m
  TurnSo (Some (Share y)) m = P (Msg.Get y.plan.op y.plan.filter)
  TurnSo o m = Unit {0}

  -- and a command, as it begins
  abbrev pub BeginSo : Msg → Type 0
  BeginSo m = (k : Command) (source destination : List ℕ) (filter : Option Filter) → m ≡ Msg.Asked k → k.what ≡ Order.Copy source destination filter
      → P (copy.asks k.op filter)

  module _ (s : ControllerState) (port : ℕ) where
    turn_sent : (o : Option Operation) (m : Msg) → TurnSo o m → EachIs (turn_of o s.store port m).sends
    turn_sent None m its = tt
    turn_sent (Some (Move mv)) m its = each_other _ (all_sent (λ x. is_uncopied x ≡ true) (λ x h. no_copy x (move_none x h))
        mv.plan mv.phase (stored_of s.store mv.plan.op) port m)
    turn_sent (Some (Copy y)) m its = copy_hands y port m its.0 its.1
    turn_sent (Some (Share y)) m its = share_sent y port m its

    after_sent : (op : ℕ) (t : Turn) (o : Option Answer) → EachIs t.sends → EachIs (ctrl.after_turn s op t o).sends
    after_sent op t None h = h
    after_sent op t (Some a) h = each-both t.sends ((switch_node, Msg.Answered op) ∷ []) h (others (Msg.Answered op) refl, tt)

    pub handed_sent : (op : ℕ) (m : Msg) → TurnSo (finite.get s.operations op) m → EachIs (ctrl.hand_step s op port m).sends
    handed_sent op m its =
        let t = turn_of (finite.get s.operations op) s.store port m in
        let did = ctrl.takes_turn s op t in
        each-both did.sends (ctrl.serve_step did.node op).sends (after_sent op t t.answer (turn_sent (finite.get s.operations op) m its))
        (serves_sent did.node op)

    -- for each open operation
    abbrev pub TurnsSo : Msg → Type 0
    TurnsSo m = (op : ℕ) → op_of m ≡ Some op → TurnSo (finite.get s.operations op) m

    pub queued_sent : (cell : FullCell) (o : Option ℕ) → EachIs (ctrl.queue_step s cell o).sends
    queued_sent cell None = tt
    queued_sent cell (Some op) = serves_sent (record s { store = with_parcels s.store op (stored_of s.store op ++ cell ∷ []) }) op

    moves_sent : (op : ℕ) (filter : Filter) (keep : Bool) (from to : Option ℕ) → EachIs (ctrl.move_between s op filter keep from to).sends
    moves_sent op filter keep (Some from) (Some to) = (others _ refl, tt)
    moves_sent op filter keep (Some from) None = tt
    moves_sent op filter keep None to = tt

    copies_sent : (op : ℕ) (filter : Option Filter) (from to : Option ℕ) → P (copy.asks op filter) → EachIs (ctrl.copy_between s op filter from to).sends
    copies_sent op filter (Some from) (Some to) its = (its, tt)
    copies_sent op filter (Some from) None its = tt
    copies_sent op filter None to its = tt

    shares_sent : (op : ℕ) (filter : Filter) (members : List ℕ) → EachIs (ctrl.share_begin s op filter members).sends
    shares_sent op filter [] = tt
    shares_sent op filter (member ∷ members) = (others _ refl, tt)

    begins_sent : (k : Command) (what : Order) → k.what ≡ what → BeginSo (Msg.Asked k) → EachIs (ctrl.begin_step s k.op what).sends
    begins_sent k (Order.Move source destination filter keep) e its = moves_sent k.op filter keep (place_of s.names source) (place_of s.names destination)
    begins_sent k (Order.Copy source destination filter) e its =
        copies_sent k.op filter (place_of s.names source) (place_of s.names destination) (its k source destination filter refl e)
    begins_sent k (Order.Share members filter) e its = shares_sent k.op filter (filter_map (place_of s.names) members)

    decided_sent : (k : Command) (o : Option Answer) → BeginSo (Msg.Asked k) → EachIs (ctrl.decision_step s k.op k.what o).sends
    decided_sent k (Some a) its = (others (Msg.Answered k.op) refl, tt)
    decided_sent k None its = begins_sent k k.what refl its

    pub asked_sent : (k : Command) → BeginSo (Msg.Asked k) → EachIs (ctrl.on_asked s k).sends
    asked_sent k its = by_if (λ (r : ctrl.Step). EachIs r.sends) (finite.contains_key s.operations k.op) tt (decided_sent k (ctrl.refusal s k.what) its)

    row_sent : (m : Msg) → TurnsSo m → BeginSo m → EachIs (ctrl.row s port m).sends
    row_sent = row_by s port (λ m did. TurnsSo m → BeginSo m → EachIs did.sends) (record {
      still = λ m its begins. tt;
      ended = λ its begins. tt;
      stopped = λ i its begins. tt;
      returned = λ op i cell its begins. (others (Msg.Forward i (Pass op) cell) refl, tt);
      handed = λ op m e its begins. handed_sent op m (its op e);
      diverted = λ cell its begins. queued_sent cell (share_of s.operations (flow_of s.site cell.packet).0);
      asked = λ k its begins. asked_sent k begins;
    })

    pub controller_sent : (m : Msg) → TurnsSo m → BeginSo m → EachIs (ctrl.controller_step s port m).sends
    controller_sent m its begins =
        let did = ctrl.row s port m in
        each-both did.sends (ctrl.finish_of did.node) (row_sent m its begins) (by_if EachIs (ctrl.may_finish did.node) (others Msg.Finish refl, tt) tt)
