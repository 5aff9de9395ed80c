-- What the controller's step says of commands: it begins one, answers one and tells the switch, or neither. A move that hasn't changed the
-- rules after the step hadn't before it, and one that is answered with a refusal hasn't.
use Rattle.nf_net.proofs.Words.{◌≡◌, ◌≢◌, ℕ, Bool, true, false, cond, Option, Some, None, List, [], ◌∷◌, ◌++◌, refl, sym, ap, ◌∙◌, subst, arith, if◌then◌else◌}
use Rattle.nf_net.proofs.Words.{◌==◌, Decides-eqb, Filter, Semantics, FullCell, Answer, Order, Msg, Note, stored_of, Keeping, CopyPlan, CopyState, SharePlan}
use Rattle.nf_net.proofs.Words.{ShareState, MovePlan, MoveState, MoveRow, row_in, move_at_start, answer_of, Operation, Move, Copy, Share, turn_of, turn_of_move}
use Rattle.nf_net.proofs.Words.{ControllerState, on_asked, on_diverted, after_turn, takes_turn, hand_step, may_finish, step_and_finish, controller_step}
use Rattle.nf_net.proofs.Words.{reaches, sent_weight, row_by, NotMove, CopyTurn, Idle, Hands, Hands_all, Ends, hands, copy_turns, got_insert, got_remove}
use Rattle.nf_net.proofs.Words.{gone_twice, NotShared, answered, noted, Given, IsPlan, IsCopyPlan, Label, Mark, Done, split}
use Rattle.std.specs.FinMap as finite
use Rattle.copy_share.specs.Copy as copy
use Rattle.copy_share.specs.Share as share
use Rattle.ctrl_node.specs.Controller as controller
use Rattle.ctrl_node.specs.Controller.{Step, still, finish_of}
use Rattle.nf_net.proofs.answers.ControllerCases.{OpensBy, Opens_move, Opens_copy, Opens_share, by_command, by_diverted, by_handed}
use Rattle.nf_net.proofs.answers.AnswerSends.{answering, NoAnswer, none_weighs, row_quiet}
use Rattle.proof_outlines.proofs.outline.CopyTurns.{ends}
use Rattle.proof_outlines.proofs.joined.KnownOperations.{AreKnown}
use Rattle.net_world.proofs.SentMessages.{sent_weight-append}
use Rattle.nf_net.proofs.answers.InstallCounts.{passed, row_adds}
use Rattle.nf_net.proofs.answers.InstallRuns.{not_done}
use Rattle.nf_net.proofs.answers.InstallSteps.{over_is}
use Rattle.nf_net.proofs.answers.ShareTells.{is_set_up, is_of_share, AreOfShare, Tells, ShareStep}

abbrev move_in : MoveState → Option Operation → MoveState
move_in d (Some (Move m)) = m
move_in d o = d

move_is : (a b : MoveState) → Some (Move a) ≡ Some (Move b) → a ≡ b
move_is a b is = ap (move_in a) is

-- a share sends no answer once it has begun
share_quiet : (m : Msg) → is_of_share m ≡ true → answering m ≡ 0
share_quiet (Msg.Answered op) e = cc
share_quiet m e = refl

shares_quiet : (sends : List (ℕ × Msg)) → AreOfShare sends → NoAnswer sends
shares_quiet [] h = tt
shares_quiet (x ∷ xs) h = (share_quiet x.1 h.0, shares_quiet xs h.1)

-- a move that hasn't changed the rules, or nothing open
abbrev pub IsEarly : Option Operation → Type 0
IsEarly None = Unit {0}
IsEarly (Some (Move m)) = passed m.phase ≡ 0
IsEarly (Some (Copy y)) = ⊥
IsEarly (Some (Share s)) = ⊥

-- where another operation stands
pub other_there : (b : Bool) (p o : Option Operation) (x : MoveState) → NotMove p → cond b p o ≡ Some (Move x) → o ≡ Some (Move x)
other_there true None o x h e = cc
other_there true (Some (Copy y)) o x h e = cc
other_there true (Some (Share s)) o x h e = cc
other_there true (Some (Move m)) o x h e = absurd h
other_there false p o x h e = e

module _ (g : Given) (n : ℕ) (reach : reaches n 1 0 ≡ true) (c : ControllerState) where
  -- a move that hasn't changed the rules after the step
  pub data Was (k : ℕ) (x : MoveState) (notes : List Note) : Type 0 where
    Was_open : (m : MoveState) → finite.get c.operations k ≡ Some (Move m) → passed m.phase ≡ 0 → m.plan ≡ x.plan → Was k x notes
    Begins_now : notes ≡ Note.Begun k ∷ [] → Was k x notes

  -- what the step says
  pub data SaysSo (did : Step) : Type 0 where
    Neither : did.notes ≡ [] → sent_weight answering n 1 did.sends ≡ 0 → SaysSo did
    Begins : (op : ℕ) → did.notes ≡ Note.Begun op ∷ [] → sent_weight answering n 1 did.sends ≡ 0 → finite.get c.operations op ≡ None → SaysSo did
    Answers : (op : ℕ) (a : Answer) (what : Order) → did.notes ≡ Note.Answered op a ∷ [] → sent_weight answering n 1 did.sends ≡ 1 → g.orders op ≡ Some what
        → (a ≢ Done → IsEarly (finite.get c.operations op)) → SaysSo did

  pub record Acts (did : Step) : Type 0 where
    pub says : SaysSo did
    pub early : (k : ℕ) (x : MoveState) → finite.get did.node.operations k ≡ Some (Move x) → passed x.phase ≡ 0 → Was k x did.notes

  finished_says : (did : Step) → SaysSo did → SaysSo (step_and_finish did)
  finished_says did h = by_says h
    where
      none : sent_weight answering n 1 (finish_of did.node) ≡ 0
      none = elim (may_finish did.node) as (λ b. sent_weight answering n 1 (if b then (0, Msg.Finish) ∷ [] else []) ≡ 0) [ true ↦ rw reach refl | false ↦ refl ]

      same : (k : ℕ) → sent_weight answering n 1 did.sends ≡ k → sent_weight answering n 1 (step_and_finish did).sends ≡ k
      same k e = let both = sent_weight-append answering n 1 did.sends (finish_of did.node) in let last = none in omega (arith, both, last, e)

      by_says : SaysSo did → SaysSo (step_and_finish did)
      by_says (Neither e w) = Neither e (same 0 w)
      by_says (Begins op e w none) = Begins op e (same 0 w) none
      by_says (Answers op a what e w known was) = Answers op a what e (same 1 w) known was

  finished_acts : (did : Step) → Acts did → Acts (step_and_finish did)
  finished_acts did h = record {
    says = finished_says did h.says;
    early = λ k x. elim (may_finish did.node) as (λ b.
        finite.get (if b then record did.node { finish_sent = true } else did.node).operations k ≡ Some (Move x) → passed x.phase ≡ 0 → Was k x did.notes)
        [ true ↦ h.early k x | false ↦ h.early k x ];
  }

  -- open operations stay, and nothing is noted
  quiet_acts : (s : ControllerState) (sends : List (ℕ × Msg)) → s.operations ≡ c.operations → NoAnswer sends
      → Acts (record { node = s; sends = sends; notes = [] })
  quiet_acts s sends same none = record {
    says = Neither refl (none_weighs n 1 sends none);
    early = λ k x there zero. Was_open x (ap (λ ops. finite.get ops k) (sym same) ∙ there) zero refl;
  }

  still_acts : Acts (still c)
  still_acts = quiet_acts c [] refl tt

  module _ (are : AreKnown g c) where
    -- a copy hands on what came, and ends
    hands_acts : (op : ℕ) (y : CopyState) (m : Msg) → answering m ≡ 0 → Acts (hands c op y m)
    hands_acts op y m quiet = record {
      says = Neither refl (none_weighs n 1 (hands c op y m).sends (quiet, tt));
      early = λ k x there zero. Was_open x (other_there (k == op) (Some (Copy (record y { phase = Keeping }))) (finite.get c.operations k) x tt
          (sym (got_insert c.operations op k (Copy (record y { phase = Keeping }))) ∙ there)) zero refl;
    }

    ends_acts : (op : ℕ) (y : CopyState) → finite.get c.operations op ≡ Some (Copy y) → Acts (ends c op)
    ends_acts op y is = let plan : IsCopyPlan g op y.plan = (are.copies op y is).1 in record {
      says = Answers op Done (Order.Copy plan.source plan.destination y.plan.filter) refl (rw reach refl) plan.order_is (λ other. absurd (other refl));
      early = λ k x there zero. Was_open x (other_there (k == op) None (finite.get c.operations k) x tt (sym (got_remove c.operations op k) ∙ there)) zero refl;
    }

    copy_acts : (op : ℕ) (y : CopyState) → finite.get c.operations op ≡ Some (Copy y) → (m : Msg) (did : Step)
        → CopyTurn (record { controller = c; op = op; copy = y }) m did → Acts did
    copy_acts op y is m did (Idle e) = subst Acts (sym e) still_acts
    copy_acts op y is m did (Hands k chunks e d) = subst Acts (sym d) (hands_acts op y (Msg.Standby y.plan.op chunks) refl)
    copy_acts op y is m did (Hands_all k chunk e d) = subst Acts (sym d) (hands_acts op y (Msg.PutAll y.plan.op chunk) refl)
    copy_acts op y is m did (Ends d) = subst Acts (sym d) (ends_acts op y is)

    turn_acts : (op port : ℕ) (m : Msg) (o : Option Operation) → finite.get c.operations op ≡ o → NotShared o
        → Acts (takes_turn c op (turn_of o c.store port m))
    turn_acts op port m (Some (Share s)) is no_share = absurd no_share
    turn_acts op port m None is no_share = quiet_acts c [] refl tt
    turn_acts op port m (Some (Copy y)) is no_share = copy_acts op y is m _ (copy_turns g c are op y is port m)
    turn_acts op port m (Some (Move mv)) is no_share = by_answer (answer_of r.next.phase) refl
      where
        r : MoveRow
        r = row_in mv c.store port m

        x : MoveState
        x = record mv { phase = r.next.phase }

        quiet : NoAnswer r.next.sends
        quiet = row_quiet mv.plan (stored_of c.store mv.plan.op) mv.phase port m

        -- a move that hasn't changed the rules hadn't before
        before : passed r.next.phase ≡ 0 → passed mv.phase ≡ 0
        before zero =
            let sent = (row_adds n reach mv.plan (stored_of c.store mv.plan.op) mv.phase port m (are.moves op mv is).1).own in omega (arith, sent, zero)

        by_answer : (a : Option Answer) → answer_of r.next.phase ≡ a → Acts (after_turn c op (turn_of_move mv c.store r) a)
        by_answer None e = record {
          says = Neither refl (none_weighs n 1 r.next.sends quiet);
          early = λ k y there zero. split (k == op) (λ b. cond b (Some (Move x)) (finite.get c.operations k) ≡ Some (Move y) → Was k y [])
              (λ on own.
              let same : x ≡ y = move_is x y own in
              let at : k ≡ op = (Decides-eqb k op).0 on in
              Was_open mv (ap (finite.get c.operations) at ∙ is) (before (ap (λ z. passed z.phase) same ∙ zero)) (ap (λ z. z.plan) same))
              (λ off other. Was_open y other zero refl) (sym (got_insert c.operations op k (Move x)) ∙ there);
        }
        by_answer (Some a) e = let plan : IsPlan g op mv.plan = (are.moves op mv is).2 in record {
          says = Answers op a (Order.Move plan.source plan.destination mv.plan.filter mv.plan.keep) refl
              (let both = sent_weight-append answering n 1 r.next.sends ((0, Msg.Answered op) ∷ []) in
              let none = none_weighs n 1 r.next.sends quiet in
              let one : sent_weight answering n 1 ((0, Msg.Answered op) ∷ []) ≡ 1 = rw reach refl in omega (arith, both, none, one))
              plan.order_is
              (λ other. subst IsEarly (sym is) (before (over_is r.next.phase a e ∙ not_done a other)));
          early = λ k y there zero. split (k == op) (λ b. cond b None (finite.get c.operations k) ≡ Some (Move y) → Was k y (Note.Answered op a ∷ []))
              (λ _ own. cc) (λ _ other. Was_open y other zero refl)
              (sym (got_remove (finite.insert c.operations op (Move x)) op k ∙ ap (λ o. cond (k == op) None o) (got_insert c.operations op k (Move x))
              ∙ gone_twice (k == op) (Some (Move x)) (finite.get c.operations k)) ∙ there);
        }

    -- an open share is answered where it is set up
    share_acts : (op : ℕ) (s : ShareState) → finite.get c.operations op ≡ Some (Share s) → (did : Step) → ShareStep c op s did → Acts did
    share_acts op s there did l = record {
      says = by_answer l.answer l.notes_are l.sends_are l.tells;
      early = λ k x stands zero. Was_open x
          (other_there (k == op) (Some (Share (record s { phase = l.after }))) (finite.get c.operations k) x tt (sym (l.operations k) ∙ stands)) zero refl;
    }
      where
        first_none : sent_weight answering n 1 l.first ≡ 0
        first_none = none_weighs n 1 l.first (shares_quiet l.first l.first_own)

        second_none : sent_weight answering n 1 l.second ≡ 0
        second_none = none_weighs n 1 l.second (shares_quiet l.second l.second_own)

        weighs : (xs : List (ℕ × Msg)) (w : ℕ) → did.sends ≡ xs ++ l.second → sent_weight answering n 1 xs ≡ w → sent_weight answering n 1 did.sends ≡ w
        weighs xs w sends own =
            let all = ap (sent_weight answering n 1) sends in
            let both = sent_weight-append answering n 1 xs l.second in let none = second_none in omega (arith, all, both, none, own)

        by_answer : (o : Option Answer) → did.notes ≡ noted op o → did.sends ≡ answered op o l.first ++ l.second
            → Tells (is_set_up s.phase) (is_set_up l.after) o → SaysSo did
        by_answer None notes sends same = Neither notes (weighs l.first 0 sends first_none)
        by_answer (Some why) notes sends tells =
            let plan = (are.shares op s there).1 in
            let one : sent_weight answering n 1 ((0, Msg.Answered op) ∷ []) ≡ 1 = rw reach refl in
            let both = sent_weight-append answering n 1 l.first ((0, Msg.Answered op) ∷ []) in
            Answers op Done (Order.Share plan.names s.plan.filter) (notes ∙ ap (λ a. Note.Answered op a ∷ []) tells.0)
            (weighs (l.first ++ (0, Msg.Answered op) ∷ []) 1 sends (omega (arith, both, first_none, one))) plan.order_is (λ other. absurd (other refl))

    handed_acts : (op port : ℕ) (m : Msg) → Acts (hand_step c op port m)
    handed_acts op port m = by_handed Acts c (λ k s is. (are.shares k s is).0) share_acts op port m (turn_acts op port m (finite.get c.operations op) refl)

    diverted_acts : (cell : FullCell) → Acts (on_diverted c cell)
    diverted_acts = by_diverted Acts c (λ k s is. (are.shares k s is).0) share_acts still_acts

    -- a command that waits
    begun_acts : (op : ℕ) → finite.get c.operations op ≡ None → {what : Order} (did : Step) → OpensBy c op what did → Acts did
    begun_acts op none did (Opens_move {filter = filter} {keep = keep} from to e at) =
        let plan : MovePlan = record { op = op; from = from; to = to; filter = filter; keep = keep } in
        record {
          says = Begins op refl (none_weighs n 1 (controller.move_begin c plan).sends (refl, tt)) none;
          early = λ k y there zero. split (k == op)
              (λ b. cond b (Some (Move (move_at_start plan))) (finite.get c.operations k) ≡ Some (Move y) → Was k y (Note.Begun op ∷ []))
              (λ on own. Begins_now (ap (λ q. Note.Begun q ∷ []) (sym ((Decides-eqb k op).0 on)))) (λ off other. Was_open y other zero refl)
              (sym (got_insert c.operations op k (Move (move_at_start plan))) ∙ there);
        }
    begun_acts op none did (Opens_copy {filter = filter} from to e at) =
        let plan : CopyPlan = record { op = op; from = from; to = to; filter = filter } in
        record {
          says = Begins op refl (none_weighs n 1 (copy.begin_sends plan) (asks_quiet filter, tt)) none;
          early = λ k x there zero. Was_open x (other_there (k == op) (Some (Copy (copy.copy_at_start plan))) (finite.get c.operations k) x tt
              (sym (got_insert c.operations op k (Copy (copy.copy_at_start plan))) ∙ there)) zero refl;
        }
      where
        asks_quiet : (o : Option Filter) → answering (copy.asks op o) ≡ 0
        asks_quiet None = refl
        asks_quiet (Some flt) = refl
    begun_acts op none did (Opens_share {filter = filter} home others) =
        let plan : SharePlan = record { op = op; members = home ∷ others; filter = filter; site = c.site } in
        record {
          says = Begins op refl (none_weighs n 1 (share.begin_sends plan) (refl, tt)) none;
          early = λ k x there zero. Was_open x (other_there (k == op) (Some (Share (share.share_at_start plan))) (finite.get c.operations k) x tt
              (sym (got_insert c.operations op k (Share (share.share_at_start plan))) ∙ there)) zero refl;
        }

    asked_acts : (op : ℕ) (what : Order) → g.orders op ≡ Some what → Acts (on_asked c (record { op = op; what = what }))
    asked_acts op what known = by_command Acts c op what still_acts (λ a none is. record {
      says = Answers op a what refl (rw reach refl) known (λ other. subst IsEarly (sym none) tt);
      early = λ k y there zero. Was_open y there zero refl;
    }) (λ did none is by. begun_acts op none did by)

    row_acts : {R : Type 0} (f : Semantics R) (port : ℕ) (m : Msg) → Label f g port 1 m → Acts (controller.row c port m)
    row_acts f port = row_by c port (λ m did. Label f g port 1 m → Acts did) (record {
      still = λ m label. still_acts;
      ended = λ label. quiet_acts _ [] refl tt;
      stopped = λ i label. quiet_acts _ [] refl tt;
      returned = λ op i cell label. quiet_acts c ((0, Msg.Forward i (Mark.Pass op) cell) ∷ []) refl (refl, tt);
      handed = λ op m its label. handed_acts op port m;
      diverted = λ cell label. diverted_acts cell;
      asked = λ k label. asked_acts k.op k.what label.2.known;
    })

    pub controller_acts : {R : Type 0} (f : Semantics R) (port : ℕ) (m : Msg) → Label f g port 1 m → Acts (controller_step c port m)
    controller_acts f port m label = finished_acts (controller.row c port m) (row_acts f port m label)
