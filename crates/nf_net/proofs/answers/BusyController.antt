-- The controller's step keeps that its open operations are the commands under way, and sends what the orders say.
use Rattle.nf_net.proofs.Words.{◌≡◌, ℕ, true, false, Option, Some, None, List, [], ◌∷◌, ◌++◌, refl, sym, ap, ◌∙◌, subst, if◌then◌else◌, ◌==◌, Filter, Semantics}
use Rattle.nf_net.proofs.Words.{FullCell, Answer, Order, Msg, Note, switch_node, instance_node, op_of, Keeping, SharePlan, ShareState, MoveState, MoveRow}
use Rattle.nf_net.proofs.Words.{row_in, answer_of, move_at_start, Operation, Move, Copy, Share, turn_of, turn_of_move, ControllerState, on_asked, on_diverted}
use Rattle.nf_net.proofs.Words.{after_turn, takes_turn, hand_step, on_final, instance_at, step_and_finish, controller_step, place_of, stored_of, EachSent}
use Rattle.nf_net.proofs.Words.{CopyTurn, Idle, Hands, Hands_all, Ends, hands, copy_turn, got_insert, remove_insert, NotShared, Given, Label, answered, noted}
use Rattle.nf_net.proofs.Words.{is_share, sent-append, Done, split}
use Rattle.std.specs.FinMap as finite
use Rattle.copy_share.specs.Copy as copy
use Rattle.copy_share.specs.Share as share
use Rattle.ctrl_node.specs.Controller.{Step, still, numbered, on_event, row as controller_row}
use Rattle.nf_net.proofs.answers.ControllerCases.{OpensBy, Opens_move, Opens_copy, Opens_share, by_command, by_finish, by_diverted, by_handed, by_sender}
use Rattle.nf_net.proofs.answers.ControllerCases.{by_stop}
use Rattle.nf_net.proofs.answers.BusyOperations.{HasOutcome, IsShareOf, answers_to, IsBusy, Causes, refusal_is}
use Rattle.nf_net.proofs.answers.BusyChanges.{other_notes, turned as op_turned, set_up as op_set_up, closed as op_closed, dropped, refused, begun as op_begun}
use Rattle.nf_net.proofs.answers.MoveSays.{Says, answer_is, move_says}
use Rattle.nf_net.proofs.answers.ShareTells.{is_set_up, is_of_share, AreOfShare, Tells, ShareStep}

-- the number of a command that a message brings
abbrev pub told_in : Msg → List ℕ
told_in (Msg.Asked c) = c.op ∷ []
told_in (Msg.InCommand c) = c.op ∷ []
told_in m = []

-- what a share sends says nothing of moves
module _ (g : Given) where
  share_says : (r : ℕ) (m : Msg) → is_of_share m ≡ true → Says g 1 r m
  share_says r (Msg.PutNo op refused) e = cc
  share_says r m e = tt

  shares_say : (sends : List (ℕ × Msg)) → AreOfShare sends → EachSent (Says g) 1 sends
  shares_say [] h = tt
  shares_say (x ∷ xs) h = (share_says x.0 x.1 h.0, shares_say xs h.1)

  answer_says : (op : ℕ) (answer : Option Answer) (sends : List (ℕ × Msg)) → AreOfShare sends → EachSent (Says g) 1 (answered op answer sends)
  answer_says op None sends h = shares_say sends h
  answer_says op (Some why) sends h = sent-append (Says g) 1 sends ((switch_node, Msg.Answered op) ∷ []) (shares_say sends h) (tt, tt)

-- the answers to a share that is set up, or isn't
set_up_answers : (s : ShareState) → is_set_up s.phase ≡ true → answers_to (Share s) ≡ Done ∷ []
set_up_answers s on = ap (λ b. if b then Done ∷ [] else []) on

not_set_up : (s : ShareState) → is_set_up s.phase ≡ false → answers_to (Share s) ≡ []
not_set_up s off = ap (λ b. if b then Done ∷ [] else []) off

module _ (g : Given) (log : List Note) (waits : List ℕ) where
  pub record StepIs (did : Step) : Type 0 where
    pub busy : IsBusy g did.node.operations (log ++ did.notes) waits
    pub says : EachSent (Says g) 1 did.sends

  -- the finish behind all else changes nothing of it
  finished_is : (did : Step) → StepIs did → StepIs (step_and_finish did)
  finished_is did h =
      by_finish StepIs did.node did (record { busy = h.busy; says = sent-append (Says g) 1 did.sends ((switch_node, Msg.Finish) ∷ []) h.says (tt, tt) })
      (record { busy = h.busy; says = sent-append (Says g) 1 did.sends [] h.says tt })

  module _ (c : ControllerState) (h : IsBusy g c.operations log waits) where
    still_is : StepIs (still c)
    still_is = record { busy = other_notes g c.operations log waits h [] tt; says = tt }

    -- a message of an open operation
    turn_is : (op port : ℕ) (m : Msg) (o : Option Operation) → finite.get c.operations op ≡ o → NotShared o → Says g port 1 m
        → StepIs (takes_turn c op (turn_of o c.store port m))
    turn_is op port m (Some (Share s)) is no_share label = absurd no_share
    turn_is op port m None is no_share label = record { busy = other_notes g c.operations log waits h [] tt; says = tt }
    turn_is op port m (Some (Copy y)) is no_share label = by_turn _ (copy_turn c op y (h.plan op (Copy y) is).1 is port m)
      where
        hands_is : (message : Msg) → Says g 1 (instance_node y.plan.to) message → StepIs (hands c op y message)
        hands_is message says = record {
          busy = other_notes g (finite.insert c.operations op (Copy (record y { phase = Keeping }))) log waits (op_turned g c.operations log
              waits h op (Copy y) (Copy (record y { phase = Keeping })) is ((h.plan op (Copy y) is).0, refl) (finite.insert c.operations op
              (Copy (record y { phase = Keeping }))) (λ k. got_insert c.operations op k (Copy (record y { phase = Keeping }))) refl tt) [] tt;
          says = (says, tt);
        }

        by_turn : (did : Step) → CopyTurn (record { controller = c; op = op; copy = y }) m did → StepIs did
        by_turn did (Idle e) = subst StepIs (sym e) still_is
        by_turn did (Hands k chunks e d) = subst StepIs (sym d) (hands_is (Msg.Standby y.plan.op chunks) tt)
        by_turn did (Hands_all k chunk e d) = subst StepIs (sym d) (hands_is (Msg.PutAll y.plan.op chunk) tt)
        by_turn did (Ends d) = subst StepIs (sym d) (record {
          busy = op_closed g c.operations log waits h op (Copy y) (Copy y) is (h.plan op (Copy y) is) Done refl
              (ap is_share (h.plan op (Copy y) is).0.order_is) refl;
          says = (tt, tt);
        })
    turn_is op port m (Some (Move mv)) is no_share label = by_answer (answer_of r.next.phase) refl
      where
        r : MoveRow
        r = row_in mv c.store port m

        n : MoveState
        n = record mv { phase = r.next.phase }

        says : HasOutcome r.next.phase × EachSent (Says g) 1 r.next.sends
        says = let it = move_says g mv (stored_of c.store mv.plan.op) port m (h.outcome op (Move mv) is) label in (it.outcome, it.says)

        by_answer : (a : Option Answer) → answer_of r.next.phase ≡ a → StepIs (after_turn c op (turn_of_move mv c.store r) a)
        by_answer None e = record {
          busy = other_notes g (finite.insert c.operations op (Move n)) log waits (op_turned g c.operations log waits h op (Move mv) (Move n) is
              (h.plan op (Move mv) is) (finite.insert c.operations op (Move n)) (λ k. got_insert c.operations op k (Move n)) refl says.0) [] tt;
          says = says.1;
        }
        by_answer (Some a) e = record {
          busy = subst (λ ops. IsBusy g ops (log ++ Note.Answered op a ∷ []) waits) (sym (remove_insert c.operations op (Move n)))
              (op_closed g c.operations log waits h op (Move mv) (Move mv) is (h.plan op (Move mv) is) a (answer_is r.next.phase a says.0 e)
              (ap is_share (h.plan op (Move mv) is).order_is) refl);
          says = sent-append (Says g) 1 r.next.sends ((switch_node, Msg.Answered op) ∷ []) says.1 (tt, tt);
        }

    -- an open share
    share_is : (op : ℕ) (s : ShareState) → finite.get c.operations op ≡ Some (Share s) → (did : Step) → ShareStep c op s did → StepIs did
    share_is op s there did l = record {
      busy = by_answer l.answer l.notes_are l.tells;
      says = subst (EachSent (Says g) 1) (sym l.sends_are) (sent-append (Says g) 1 (answered op l.answer l.first) l.second
          (answer_says g op l.answer l.first l.first_own) (shares_say g l.second l.second_own));
    }
      where
        now : ShareState
        now = record s { phase = l.after }

        plan : IsShareOf g op s.plan
        plan = h.plan op (Share s) there

        by_answer : (o : Option Answer) → did.notes ≡ noted op o → Tells (is_set_up s.phase) (is_set_up l.after) o
            → IsBusy g did.node.operations (log ++ did.notes) waits
        by_answer None notes same = subst (λ ns. IsBusy g did.node.operations (log ++ ns) waits) (sym notes)
            (other_notes g did.node.operations log waits (op_turned g c.operations log waits h op (Share s) (Share now) there plan did.node.operations
            l.operations (ap (λ b. if b then Done ∷ [] else []) (sym same)) tt) [] tt)
        by_answer (Some why) notes tells =
            subst (λ ns. IsBusy g did.node.operations (log ++ ns) waits) (sym (notes ∙ ap (λ a. Note.Answered op a ∷ []) tells.0))
            (op_set_up g c.operations log waits h op (Share s) (Share now) there plan did.node.operations l.operations (ap is_share plan.order_is)
            (not_set_up s tells.1) (set_up_answers now tells.2) tt)

    handed_is : (op port : ℕ) (m : Msg) → Says g port 1 m → StepIs (hand_step c op port m)
    handed_is op port m label = by_handed StepIs c (λ k s is. (h.plan k (Share s) is).op_is) share_is op port m
        (λ no_share. turn_is op port m (finite.get c.operations op) refl no_share label)

    diverted_is : (cell : FullCell) → StepIs (on_diverted c cell)
    diverted_is = by_diverted StepIs c (λ k s is. (h.plan k (Share s) is).op_is) share_is still_is

    numbered_is : (port : ℕ) (m : Msg) (o : Option ℕ) → Says g port 1 m → StepIs (numbered c port m o)
    numbered_is port m None label = still_is
    numbered_is port m (Some op) label = handed_is op port m label

    event_is : (port op : ℕ) (cell : FullCell) (i : Option ℕ) → StepIs (on_event c port op cell i)
    event_is port op cell i = by_sender StepIs c port op cell i still_is (handed_is op port (Msg.Event op cell) tt)
        (λ k. record { busy = other_notes g c.operations log waits h [] tt; says = (tt, tt) })

    final_is : (i : Option ℕ) → StepIs (on_final c i)
    final_is i = by_stop StepIs c i still_is (λ k. record { busy = other_notes g c.operations log waits h [] tt; says = tt })

  -- a command that waits
  module _ (c : ControllerState) (op : ℕ) (what : Order) (names : c.names ≡ g.names) (h : IsBusy g c.operations log (op ∷ waits))
      (known : g.orders op ≡ Some what) where
    dropped_is : StepIs (still c)
    dropped_is = still_is c (dropped g c.operations log op waits h)

    begun_is : {o : Order} (did : Step) → OpensBy c op o did → what ≡ o → Causes g c.operations log (op ∷ waits) h what None → StepIs did
    begun_is did (Opens_move {source} {destination} {filter} {keep} from to e k) is may = record {
      busy = op_begun g c.operations log op waits h what (Move (move_at_start (record { op = op; from = from; to = to; filter = filter; keep = keep })))
          known may (record {
            source = source;
            destination = destination;
            order_is = known ∙ ap Some is;
            from_is = ap (λ ns. place_of ns source) (sym names) ∙ e;
            to_is = ap (λ ns. place_of ns destination) (sym names) ∙ k;
          }) tt refl;
      says = (tt, tt);
    }
    begun_is did (Opens_copy {source} {destination} {filter} from to e k) is may = record {
      busy = op_begun g c.operations log op waits h what (Copy (copy.copy_at_start (record { op = op; from = from; to = to; filter = filter }))) known may (
        record {
          source = source;
          destination = destination;
          order_is = known ∙ ap Some is;
          from_is = ap (λ ns. place_of ns source) (sym names) ∙ e;
          to_is = ap (λ ns. place_of ns destination) (sym names) ∙ k;
        },
        refl,
      ) tt refl;
      says = (asks_say filter, tt);
    }
      where
        asks_say : (o : Option Filter) → Says g 1 (instance_node from) (copy.asks op o)
        asks_say None = tt
        asks_say (Some flt) = tt
    begun_is did (Opens_share {members} {filter} home others) is may =
        let plan : SharePlan = record { op = op; members = home ∷ others; filter = filter; site = c.site } in
        record {
          busy = op_begun g c.operations log op waits h what (Share (share.share_at_start plan)) known may
              (record { op_is = refl; names = members; order_is = known ∙ ap Some is }) tt refl;
          says = (tt, tt);
        }

    asked_is : StepIs (on_asked c (record { op = op; what = what }))
    asked_is =
        let cause = refusal_is g c log (op ∷ waits) names h what in
        by_command StepIs c op what dropped_is
        (λ a new is. record {
          busy = refused g c.operations log op waits h what a known (subst (Causes g c.operations log (op ∷ waits) h what) is cause);
          says = (tt, tt);
        })
        (λ did new is by. begun_is did by refl (subst (Causes g c.operations log (op ∷ waits) h what) is cause))

module _ {R : Type 0} (f : Semantics R) (g : Given) (log : List Note) (waits : List ℕ) (c : ControllerState) (names : c.names ≡ g.names) where
  row_busy : (p : ℕ) (m : Msg) → Label f g p 1 m → Says g p 1 m → IsBusy g c.operations log (told_in m ++ waits) → StepIs g log waits (controller_row c p m)
  row_busy p (Msg.Asked k) label says h = split (p == switch_node) (λ b. StepIs g log waits (if b then on_asked c k else still c))
      (λ _. asked_is g log waits c k.op k.what names h label.2.known) (λ _. dropped_is g log waits c k.op k.what names h label.2.known)
  row_busy p (Msg.Diverted cell) label says h = split (p == switch_node) (λ b. StepIs g log waits (if b then on_diverted c cell else still c))
      (λ _. diverted_is g log waits c h cell) (λ _. still_is g log waits c h)
  row_busy p Msg.End label says h = split (p == switch_node) (λ b. StepIs g log waits (if b then still (record c { end_came = true }) else still c))
      (λ _. record { busy = other_notes g c.operations log waits h [] tt; says = tt }) (λ _. still_is g log waits c h)
  row_busy p (Msg.Event op cell) label says h = event_is g log waits c h p op cell (instance_at c p)
  row_busy p Msg.Final label says h = final_is g log waits c h (instance_at c p)
  row_busy p (Msg.InCommand k) label says h = let never = label.0.1 in cc
  row_busy p m label says h = numbered_is g log waits c h p m (op_of m) says

  pub controller_busy : (p : ℕ) (m : Msg) → Label f g p 1 m → Says g p 1 m → IsBusy g c.operations log (told_in m ++ waits)
      → StepIs g log waits (controller_step c p m)
  controller_busy p m label says h = finished_is g log waits (controller_row c p m) (row_busy p m label says h)
