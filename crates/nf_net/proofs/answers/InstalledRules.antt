-- The controller's step has asked for a change of the switch's rules for each open move that passes packets on, each done one and each open share.
use Rattle.nf_net.proofs.Words.{◌≡◌, ℕ, ◌+◌, Bool, true, false, cond, Option, Some, None, List, [], ◌∷◌, ◌++◌, refl, sym, ap, ◌∙◌, subst, arith, map}
use Rattle.nf_net.proofs.Words.{if◌then◌else◌, ◌==◌, nat_tests, Decides-eqb, Filter, Semantics, FullCell, Answer, Order, Msg, instance_node, Keeping, CopyState}
use Rattle.nf_net.proofs.Words.{SharePlan, ShareState, MoveState, MoveRow, row_in, move_at_start, answer_of, stored_of, Operation, Move, Copy, Share, turn_of}
use Rattle.nf_net.proofs.Words.{turn_of_move, ControllerState, on_asked, on_diverted, after_turn, takes_turn, hand_step, unknown_name, overlap, step_and_finish}
use Rattle.nf_net.proofs.Words.{controller_step, reaches, sent_weight, answers_of, row_by, got_insert, got_remove, gone_twice, NotShared, CopyTurn, Idle, Hands}
use Rattle.nf_net.proofs.Words.{Hands_all, Ends, hands, copy_turns, answered, noted, Given, IsPlan, IsCopyPlan, Label, Action, Mark, Note, Done, split}
use Rattle.std.specs.FinMap as finite
use Rattle.copy_share.specs.Copy as copy
use Rattle.copy_share.specs.Share as share
use Rattle.ctrl_node.specs.Controller as controller
use Rattle.ctrl_node.specs.Controller.{Step, still, opening_step}
use Rattle.proof_outlines.proofs.outline.CopyTurns.{ends}
use Rattle.proof_outlines.proofs.joined.KnownOperations.{AreKnown}
use Rattle.nf_net.proofs.answers.ControllerCases.{OpensBy, Opens_move, Opens_copy, Opens_share, by_command, by_finish, by_diverted, by_handed}
use Rattle.net_world.proofs.SentMessages.{sent_weight-append}
use Rattle.nf_net.proofs.answers.InstallCounts.{sent_of, install, finish, done_in, passed, Adds, NoInstall, no_one, no_both, row_adds}
use Rattle.nf_net.proofs.answers.ShareTells.{ShareStep}
use Rattle.nf_net.proofs.answers.InstallSteps.{is_moving, dones, dones-none, open_in, over_is, shares_none, answered_none, refused_none}

-- The controller.
module _ (n : ℕ) (reach : reaches n 1 0 ≡ true) (g : Given) (k : ℕ) (c : ControllerState) where
  -- whether the command moves units
  abbrev moving : Bool
  moving = is_moving (g.orders k)

  -- what the step does for the command
  pub record Counts (did : Step) : Type 0 where
    pub sent : open_in (finite.get did.node.operations k) + dones moving (answers_of k did.notes)
        ≡ open_in (finite.get c.operations k) + sent_weight (install k) n 1 did.sends
    pub unfinished : sent_weight finish n 1 did.sends ≡ 0
    pub finish_same : did.node.finish_sent ≡ c.finish_sent

  abbrev pub Sent : Step → Type 0
  Sent did = open_in (finite.get did.node.operations k) + dones moving (answers_of k did.notes)
      ≡ open_in (finite.get c.operations k) + sent_weight (install k) n 1 did.sends

  finished_is : (did : Step) → Counts did → Sent (step_and_finish did)
  finished_is did h =
      let was = h.sent in
      let one : sent_weight (install k) n 1 ((0, Msg.Finish) ∷ []) ≡ 0 = rw reach refl in
      let untold = sent_weight-append (install k) n 1 did.sends [] in
      by_finish Sent c did (omega (arith, was, sent_weight-append (install k) n 1 did.sends ((0, Msg.Finish) ∷ []), one)) (omega (arith, was, untold))

  still_is : Counts (still c)
  still_is = record { sent = refl; unfinished = refl; finish_same = refl }

  none_is : (s : ControllerState) (sends : List (ℕ × Msg)) → s.operations ≡ c.operations → s.finish_sent ≡ c.finish_sent → NoInstall n 1 sends
      → Counts (record { node = s; sends = sends; notes = [] })
  none_is s sends same kept none = record {
    sent = (let own = none (Some k) in let all = ap (λ ops. open_in (finite.get ops k)) same in omega (arith, own, all));
    unfinished = none None;
    finish_same = kept;
  }

  module _ (are : AreKnown g c) where
    -- a copy sends no change
    hands_is : (op : ℕ) (y : CopyState) → finite.get c.operations op ≡ Some (Copy y) → (m : Msg) → ((o : Option ℕ) → sent_of o m ≡ 0) → Counts (hands c op y m)
    hands_is op y is m none =
        let own = no_one n 1 (instance_node y.plan.to) m none in
        let here : open_in (finite.get (hands c op y m).node.operations k) ≡ open_in (finite.get c.operations k) =
        ap open_in (got_insert c.operations op k (Copy (record y { phase = Keeping }))) ∙ split (k == op)
        (λ b. open_in (cond b (Some (Copy (record y { phase = Keeping }))) (finite.get c.operations k)) ≡ open_in (finite.get c.operations k))
        (λ on. sym (ap (λ j. open_in (finite.get c.operations j)) ((Decides-eqb k op).0 on) ∙ ap open_in is)) (λ off. refl) in
        record { sent = omega (arith, here, own (Some k)); unfinished = own None; finish_same = refl }

    ends_is : (op : ℕ) (y : CopyState) → finite.get c.operations op ≡ Some (Copy y) → Counts (ends c op)
    ends_is op y is =
        let plan : IsCopyPlan g op y.plan = (are.copies op y is).1 in
        let own = no_one n 1 0 (Msg.Answered op) (λ o. refl) in
        let turned : (op == k) ≡ (k == op) = grind (arith, nat_tests) in
        let here : open_in (finite.get (finite.remove c.operations op) k) + dones moving (answers_of k (Note.Answered op Done ∷ []))
        ≡ open_in (finite.get c.operations k) =
        rw (got_remove c.operations op k, turned) (split (k == op)
        (λ b. open_in (cond b None (finite.get c.operations k)) + dones moving (map (λ (one : ℕ × Answer). one.1) (if b then (op, Done) ∷ [] else []))
        ≡ open_in (finite.get c.operations k))
        (λ on.
        let same : k ≡ op = (Decides-eqb k op).0 on in
        let still : moving ≡ false = ap (λ j. is_moving (g.orders j)) same ∙ ap is_moving plan.order_is in
        let none : open_in (finite.get c.operations k) ≡ 0 = ap (λ j. open_in (finite.get c.operations j)) same ∙ ap open_in is in
        rw still (sym none)) (λ off. omega arith)) in
        record { sent = omega (arith, here, own (Some k)); unfinished = own None; finish_same = refl }

    copy_is : (op : ℕ) (y : CopyState) → finite.get c.operations op ≡ Some (Copy y) → (m : Msg) (did : Step)
        → CopyTurn (record { controller = c; op = op; copy = y }) m did → Counts did
    copy_is op y is m did (Idle e) = subst Counts (sym e) still_is
    copy_is op y is m did (Hands j chunks e d) = subst Counts (sym d) (hands_is op y is (Msg.Standby y.plan.op chunks) (λ o. refl))
    copy_is op y is m did (Hands_all j chunk e d) = subst Counts (sym d) (hands_is op y is (Msg.PutAll y.plan.op chunk) (λ o. refl))
    copy_is op y is m did (Ends d) = subst Counts (sym d) (ends_is op y is)

    turn_is : (op port : ℕ) (m : Msg) (o : Option Operation) → finite.get c.operations op ≡ o → NotShared o
        → Counts (takes_turn c op (turn_of o c.store port m))
    turn_is op port m (Some (Share s)) is no_share = absurd no_share
    turn_is op port m None is no_share = record { sent = refl; unfinished = refl; finish_same = refl }
    turn_is op port m (Some (Copy y)) is no_share = copy_is op y is m _ (copy_turns g c are op y is port m)
    turn_is op port m (Some (Move mv)) is no_share = by_answer (answer_of r.next.phase) refl
      where
        r : MoveRow
        r = row_in mv c.store port m

        x : MoveState
        x = record mv { phase = r.next.phase }

        adds : Adds n reach mv.plan mv.phase r.next
        adds = row_adds n reach mv.plan (stored_of c.store mv.plan.op) mv.phase port m (are.moves op mv is).1

        -- what it sends, by whether the command is the move's
        sends_are : (after : ℕ) → after ≡ passed r.next.phase
            → (if k == op then after else open_in (finite.get c.operations k)) ≡ open_in (finite.get c.operations k) + sent_weight (install k) n 1 r.next.sends
        sends_are after e = split (k == op)
            (λ b. (if b then after else open_in (finite.get c.operations k)) ≡ open_in (finite.get c.operations k) + sent_weight (install k) n 1 r.next.sends)
            (λ on.
            let own : mv.plan.op ≡ k = (are.moves op mv is).0 ∙ sym ((Decides-eqb k op).0 on) in
            let sent = subst (λ y. sent_weight (install y) n 1 r.next.sends + passed mv.phase ≡ passed r.next.phase) own adds.own in
            let before : open_in (finite.get c.operations k) ≡ passed mv.phase = ap (λ y. open_in (finite.get c.operations y)) ((Decides-eqb k op).0 on)
            ∙ ap open_in is in
            omega (arith, e, sent, before))
            (λ off.
            let apart : (mv.plan.op == k) ≡ false = grind (arith, nat_tests, off, (are.moves op mv is).0) in
            omega (arith, adds.other k apart))

        by_answer : (a : Option Answer) → answer_of r.next.phase ≡ a → Counts (after_turn c op (turn_of_move mv c.store r) a)
        by_answer None e =
            let here : open_in (finite.get (finite.insert c.operations op (Move x)) k)
            ≡ (if k == op then passed r.next.phase else open_in (finite.get c.operations k)) =
            ap open_in (got_insert c.operations op k (Move x)) ∙ elim (k == op) as (λ b. open_in (cond b (Some (Move x)) (finite.get c.operations k))
            ≡ (if b then passed r.next.phase else open_in (finite.get c.operations k))) [ true ↦ refl | false ↦ refl ] in
            let sent = sends_are (passed r.next.phase) refl in
            record { sent = omega (arith, here, sent); unfinished = adds.unfinished; finish_same = refl }
        by_answer (Some a) e =
            let sends = r.next.sends ++ (0, Msg.Answered op) ∷ [] in
            let none = no_one n 1 0 (Msg.Answered op) (λ y. refl) (Some k) in
            let gone : finite.get (finite.remove (finite.insert c.operations op (Move x)) op) k ≡ cond (k == op) None (finite.get c.operations k) =
            got_remove (finite.insert c.operations op (Move x)) op k ∙ ap (λ o. cond (k == op) None o) (got_insert c.operations op k (Move x))
            ∙ gone_twice (k == op) (Some (Move x)) (finite.get c.operations k) in
            let turned : (op == k) ≡ (k == op) = grind (arith, nat_tests) in
            let plan : IsPlan g op mv.plan = (are.moves op mv is).2 in
            let here : open_in (finite.get (finite.remove (finite.insert c.operations op (Move x)) op) k)
            + dones moving (answers_of k (Note.Answered op a ∷ [])) ≡ (if k == op then done_in a else open_in (finite.get c.operations k)) =
            rw (gone, turned) (split (k == op)
            (λ b. open_in (cond b None (finite.get c.operations k)) + dones moving (map (λ (one : ℕ × Answer). one.1) (if b then (op, a) ∷ [] else [])) ≡
            (if b then done_in a else open_in (finite.get c.operations k)))
            (λ on.
            (let does : moving ≡ true = ap (λ j. is_moving (g.orders j)) ((Decides-eqb k op).0 on) ∙ ap is_moving plan.order_is in rw does (omega arith)))
            (λ off. omega arith)) in
            let sent = sends_are (done_in a) (sym (over_is r.next.phase a e)) in
            record {
              sent = omega (arith, sent_weight-append (install k) n 1 r.next.sends ((0, Msg.Answered op) ∷ []), none, here, sent);
              unfinished = (let all = sent_weight-append finish n 1 r.next.sends ((0, Msg.Answered op) ∷ []) in
                  let first = adds.unfinished in let last = no_one n 1 0 (Msg.Answered op) (λ y. refl) None in omega (arith, all, first, last));
              finish_same = refl;
            }

    -- an open share sends no change, and has sent one
    share_is : (op : ℕ) (s : ShareState) → finite.get c.operations op ≡ Some (Share s) → (did : Step) → ShareStep c op s did → Counts did
    share_is op s there did l =
        let quiet : NoInstall n 1 did.sends = subst (NoInstall n 1) (sym l.sends_are)
        (no_both n 1 (answered op l.answer l.first) l.second (answered_none n op l.answer l.first l.first_own) (shares_none n l.second l.second_own)) in
        let plan = (are.shares op s there).1 in
        let still : (k == op) ≡ true → moving ≡ false = (λ on. ap (λ j. is_moving (g.orders j)) ((Decides-eqb k op).0 on) ∙ ap is_moving plan.order_is) in
        let turned : (op == k) ≡ (k == op) = grind (arith, nat_tests) in
        let noted_none : dones moving (answers_of k did.notes) ≡ 0 = ap (λ ns. dones moving (answers_of k ns)) l.notes_are
        ∙ by_answer op l.answer turned still in
        let same : open_in (finite.get did.node.operations k) ≡ open_in (finite.get c.operations k) = ap open_in (l.operations k) ∙ split (k == op)
        (λ b. open_in (cond b (Some (Share (record s { phase = l.after }))) (finite.get c.operations k)) ≡ open_in (finite.get c.operations k))
        (λ on. sym (ap (λ j. open_in (finite.get c.operations j)) ((Decides-eqb k op).0 on) ∙ ap open_in there)) (λ off. refl) in
        record { sent = omega (arith, quiet (Some k), noted_none, same); unfinished = quiet None; finish_same = l.finish_same }
      where
        by_answer : (op : ℕ) (a : Option Answer) → (op == k) ≡ (k == op) → ((k == op) ≡ true → moving ≡ false) → dones moving (answers_of k (noted op a)) ≡ 0
        by_answer op None turned still = refl
        by_answer op (Some why) turned still = ap (λ b. dones moving (map (λ (one : ℕ × Answer). one.1) (if b then (op, why) ∷ [] else []))) turned
            ∙ split (k == op) (λ b. dones moving (map (λ (one : ℕ × Answer). one.1) (if b then (op, why) ∷ [] else [])) ≡ 0)
            (λ on. ap (λ b. dones b (why ∷ [])) (still on)) (λ off. refl)

    handed_is : (op port : ℕ) (m : Msg) → Counts (hand_step c op port m)
    handed_is op port m = by_handed Counts c (λ k s is. (are.shares k s is).0) share_is op port m (turn_is op port m (finite.get c.operations op) refl)

    diverted_is : (cell : FullCell) → Counts (on_diverted c cell)
    diverted_is = by_diverted Counts c (λ k s is. (are.shares k s is).0) share_is still_is

    -- another operation than a share begins
    opens_is : (op : ℕ) → finite.get c.operations op ≡ None → (o : Operation) (sends : List (ℕ × Msg)) → open_in (Some o) ≡ 0 → NoInstall n 1 sends
        → Counts (opening_step c op o sends)
    opens_is op none o sends zero quiet =
        let here : open_in (finite.get (finite.insert c.operations op o) k) ≡ open_in (finite.get c.operations k) =
        ap open_in (got_insert c.operations op k o)
        ∙ split (k == op) (λ b. open_in (cond b (Some o) (finite.get c.operations k)) ≡ open_in (finite.get c.operations k))
        (λ on. zero ∙ sym (ap (λ y. open_in (finite.get c.operations y)) ((Decides-eqb k op).0 on) ∙ ap open_in none)) (λ off. refl) in
        record { sent = omega (arith, here, quiet (Some k)); unfinished = quiet None; finish_same = refl }

    begun_is : (op : ℕ) → finite.get c.operations op ≡ None → {what : Order} (did : Step) → OpensBy c op what did → Counts did
    begun_is op none did (Opens_move {filter = filter} {keep = keep} from to e at) =
        opens_is op none (Move (move_at_start (record { op = op; from = from; to = to; filter = filter; keep = keep })))
        ((from + 2, Msg.Enable op filter Action.Drop) ∷ []) refl (no_one n 1 (from + 2) (Msg.Enable op filter Action.Drop) (λ y. refl))
    begun_is op none did (Opens_copy {filter = filter} from to e at) =
        opens_is op none (Copy (copy.copy_at_start (record { op = op; from = from; to = to; filter = filter })))
        ((instance_node from, copy.asks op filter) ∷ []) refl (no_one n 1 (instance_node from) (copy.asks op filter) (asks_quiet filter))
      where
        asks_quiet : (o : Option Filter) (j : Option ℕ) → sent_of j (copy.asks op o) ≡ 0
        asks_quiet None j = refl
        asks_quiet (Some flt) j = refl
    begun_is op none did (Opens_share {filter = filter} home others) =
        let plan : SharePlan = record { op = op; members = home ∷ others; filter = filter; site = c.site } in
        let turned : (op == k) ≡ (k == op) = grind (arith, nat_tests) in
        let sent : sent_weight (install k) n 1 (share.begin_sends plan) ≡ (if k == op then 1 else 0) = rw (reach, turned) (omega arith) in
        let here : open_in (finite.get (finite.insert c.operations op (Share (share.share_at_start plan))) k)
        ≡ open_in (finite.get c.operations k) + (if k == op then 1 else 0) =
        ap open_in (got_insert c.operations op k (Share (share.share_at_start plan))) ∙ split (k == op)
        (λ b. open_in (cond b (Some (Share (share.share_at_start plan))) (finite.get c.operations k)) ≡ open_in (finite.get c.operations k) +
        (if b then 1 else 0))
        (λ on. (let was : open_in (finite.get c.operations k) ≡ 0 = ap (λ y. open_in (finite.get c.operations y)) ((Decides-eqb k op).0 on)
        ∙ ap open_in none in
        omega (arith, was))) (λ off. omega arith) in
        record { sent = omega (arith, sent, here); unfinished = rw reach refl; finish_same = refl }

    asked_is : (op : ℕ) (what : Order) → Counts (on_asked c (record { op = op; what = what }))
    asked_is op what = by_command Counts c op what still_is (λ a new is.
        let refused = refused_none (unknown_name c what) (overlap c what) a is in
        let sent = no_one n 1 0 (Msg.Answered op) (λ y. refl) in
        let own = sent (Some k) in
        let noted : dones moving (map (λ (one : ℕ × Answer). one.1) (if op == k then (op, a) ∷ [] else [])) ≡ 0 = elim (op == k) as (λ b.
        dones moving (map (λ (one : ℕ × Answer). one.1) (if b then (op, a) ∷ [] else [])) ≡ 0) [ true ↦ dones-none moving a refused | false ↦ refl ] in
        record { sent = omega (arith, own, noted); unfinished = sent None; finish_same = refl }) (λ did new is by. begun_is op new did by)

    pub row_counts : {R : Type 0} (f : Semantics R) (port : ℕ) (m : Msg) → Label f g port 1 m → Counts (controller.row c port m)
    row_counts f port m label = row_by c port (λ _ did. Counts did) (record {
      still = λ m. still_is;
      ended = none_is _ [] refl refl (λ op. refl);
      stopped = λ i. none_is _ [] refl refl (λ op. refl);
      returned = λ op i cell. none_is c ((0, Msg.Forward i (Mark.Pass op) cell) ∷ []) refl refl (no_one n 1 0 (Msg.Forward i (Mark.Pass op) cell) (λ y. refl));
      handed = λ op m its. handed_is op port m;
      diverted = λ cell. diverted_is cell;
      asked = λ k. asked_is k.op k.what;
    }) m

    pub controller_counts : {R : Type 0} (f : Semantics R) (port : ℕ) (m : Msg) → Label f g port 1 m → Sent (controller_step c port m)
    controller_counts f port m label = finished_is (controller.row c port m) (row_counts f port m label)
