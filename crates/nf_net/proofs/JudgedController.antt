-- The controller's step keeps what is known of open moves and of their answers, asks once for a command's state, and puts one piece of it first.
use Rattle.nf_net.proofs.Words.{◌≡◌, ℕ, ◌+◌, ◌≤◌, Bool, true, false, cond, Option, Some, None, List, [], ◌∷◌, ◌++◌, refl, sym, ap, ◌∙◌, subst, arith, map}
use Rattle.nf_net.proofs.Words.{if◌then◌else◌, ◌==◌, option_map, unwrap_or, option_or, nat_tests, Decides-eqb, Filter, FullCell, Answer, Unknown, Overlap}
use Rattle.nf_net.proofs.Words.{Order, Piece, Msg, Note, instance_node, op_of, CopyPlan, CopyState, SharePlan, ShareState, MovePlan, MoveState, MoveRow, row_in}
use Rattle.nf_net.proofs.Words.{move_at_start, answer_of, destination, stored_of, Operation, Move, Copy, Share, OpenOperations, turn_of, turn_of_move}
use Rattle.nf_net.proofs.Words.{ControllerState, on_asked, on_diverted, after_turn, takes_turn, hand_step, unknown_name, overlap, step_and_finish}
use Rattle.nf_net.proofs.Words.{controller_step, EachSent, sent_weight, is_begun, is_refusal, sent-append, row_by, got_insert, got_remove, gone_twice}
use Rattle.nf_net.proofs.Words.{NotShared, copy_turn, Action, Target, split}
use Rattle.std.specs.FinMap as finite
use Rattle.event_filter.specs.declared.mark.Mark.TheVariants.{Pass}
use Rattle.copy_share.specs.Copy as copy
use Rattle.copy_share.specs.Share as share
use Rattle.ctrl_node.specs.Controller as controller
use Rattle.ctrl_node.specs.Controller.{Step, still}
use Rattle.nf_net.proofs.answers.ControllerCases.{OpensBy, Opens_move, Opens_copy, Opens_share, by_command, by_finish, by_operation, by_queue}
use Rattle.nf_net.proofs.RunWords.{other_there, began_same, first_is, sent_weight-append}
use Rattle.nf_net.proofs.JudgedShares.{handed_shared, queued_shared}
use Rattle.nf_net.proofs.JudgedTables as tables
use Rattle.nf_net.proofs.JudgedTables.{used, By_verdict}
use Rattle.nf_net.proofs.MoveJudged.{Said, Knows, answer_known, row_follows}
use Rattle.nf_net.proofs.answers.MoveOnce.{once, spent, spent_few, NoneOnce, no_one, at_most, few_counts, row_spends}

-- a refusal
refused_is : (u : Option (List ℕ)) (q : Option ℕ) (a : Answer) → option_or (option_map Unknown u) (option_map Overlap q) ≡ Some a → is_refusal a ≡ true
refused_is (Some name) q a is = subst (λ x. is_refusal x ≡ true) (ap (λ o. unwrap_or o (Unknown name)) is) refl
refused_is None (Some k) a is = subst (λ x. is_refusal x ≡ true) (ap (λ o. unwrap_or o (Overlap k)) is) refl
refused_is None None a is = cc

-- a command that a message brings didn't begin
abbrev pub IsNew : List Note → Msg → Type 0
IsNew log (Msg.Asked a) = is_begun a.op log ≡ false
IsNew log m = Unit {0}

abbrev move_in : MoveState → Option Operation → MoveState
move_in d (Some (Move m)) = m
move_in d o = d

module _ (Part : ℕ → Piece → Type 0) (Verdict : ℕ → Answer → Type 0) (Goes : ℕ → ℕ → Type 0) (Still : ℕ → Type 0) (log : List Note) (n : ℕ)
    (c : ControllerState) where
  abbrev IsFound : ℕ → Answer → Type 0
  IsFound = tables.IsFound Part Verdict Goes Still log n c

  abbrev AllKnow : OpenOperations → Type 0
  AllKnow = tables.AllKnow Part Verdict Goes Still log n c

  abbrev pub StepIs : Step → Type 0
  StepIs = tables.StepIs Part Verdict Goes Still log n c

  -- the finish behind all else
  finished_is : (did : Step) → StepIs did → StepIs (step_and_finish did)
  finished_is did h = by_finish StepIs c did (record {
    knows = h.knows;
    says = sent-append (Said Part Verdict Goes) 1 did.sends ((0, Msg.Finish) ∷ []) h.says (tt, tt);
    found = h.found;
    own = h.own;
    once = λ op first. (let both = sent_weight-append (once first op) n 1 did.sends ((0, Msg.Finish) ∷ []) in
        let none = no_one n 1 first 0 Msg.Finish (λ y. refl) op in let own = h.once op first in omega (arith, both, none, own));
  }) (record {
    knows = h.knows;
    says = sent-append (Said Part Verdict Goes) 1 did.sends [] h.says tt;
    found = h.found;
    own = h.own;
    once = λ op first. (let both = sent_weight-append (once first op) n 1 did.sends [] in let own = h.once op first in omega (arith, both, own));
  })

  module _ (knows : AllKnow c.operations) where
    quiet_is : (s : ControllerState) (sends : List (ℕ × Msg)) → s.operations ≡ c.operations → EachSent (Said Part Verdict Goes) 1 sends
        → ((first : Bool) → NoneOnce n 1 first sends) → StepIs (record { node = s; sends = sends; notes = [] })
    quiet_is = tables.quiet_is Part Verdict Goes Still log n c knows

    still_is : StepIs (still c)
    still_is = tables.still_is Part Verdict Goes Still log n c knows

    -- an operation in place of one, or a new one
    knows_insert : (op : ℕ) (m : MoveState) → Knows Part Verdict Goes op m.phase → AllKnow (finite.insert c.operations op (Move m))
    knows_insert op m h k x there =
        split (k == op) (λ b. cond b (Some (Move m)) (finite.get c.operations k) ≡ Some (Move x) → Knows Part Verdict Goes k x.phase)
        (λ on e. subst (λ j. Knows Part Verdict Goes j x.phase) (sym ((Decides-eqb k op).0 on))
        (subst (λ y. Knows Part Verdict Goes op y.phase) (ap (move_in m) e) h)) (λ off e. knows k x e) (sym (got_insert c.operations op k (Move m)) ∙ there)

    module _ (moves : (op : ℕ) (m : MoveState) → finite.get c.operations op ≡ Some (Move m) → (m.plan.op ≡ op) × Goes op (destination m.plan))
        (copies : (op : ℕ) (y : CopyState) → finite.get c.operations op ≡ Some (Copy y) → (copy.answer_of y.phase ≡ None) × Still op)
        (shares : (op : ℕ) (s : ShareState) → finite.get c.operations op ≡ Some (Share s) → (s.plan.op ≡ op) × Still op)
        (busy : (op : ℕ) (o : Operation) → finite.get c.operations op ≡ Some o → is_begun op log ≡ true) where
      module _ (op port : ℕ) (m : Msg) (mv : MoveState) (there : finite.get c.operations op ≡ Some (Move mv)) (own : op_of m ≡ Some op)
          (label : Said Part Verdict Goes port 1 m) where
        abbrev r : MoveRow
        r = row_in mv c.store port m

        abbrev x : MoveState
        x = record mv { phase = r.next.phase }

        same : mv.plan.op ≡ op
        same = (moves op mv there).0

        knows_next : Knows Part Verdict Goes op r.next.phase
        knows_next = subst (λ k. Knows Part Verdict Goes k r.next.phase) same (row_follows Part Verdict Goes mv.plan
            (subst (λ k. Goes k (destination mv.plan)) (sym same) (moves op mv there).1) (stored_of c.store mv.plan.op) mv.phase port m
            (subst (λ k. Knows Part Verdict Goes k mv.phase) (sym same) (knows op mv there)) (own ∙ ap Some (sym same)) label).knows

        says_next : EachSent (Said Part Verdict Goes) 1 r.next.sends
        says_next = (row_follows Part Verdict Goes mv.plan (subst (λ k. Goes k (destination mv.plan)) (sym same) (moves op mv there).1)
            (stored_of c.store mv.plan.op) mv.phase port m (subst (λ k. Knows Part Verdict Goes k mv.phase) (sym same) (knows op mv there))
            (own ∙ ap Some (sym same)) label).says

        -- what is sent once, where the operation then counts for so many
        spends : (k : ℕ) (first : Bool) (after : ℕ) → spent r.next.phase first ≤ after → sent_weight (once first k) n 1 r.next.sends
            + used (finite.get c.operations k) (is_begun k log) first ≤ (if k == op then after else used (finite.get c.operations k) (is_begun k log) first)
        spends k first after few = split (k == op)
            (λ b. sent_weight (once first k) n 1 r.next.sends + used (finite.get c.operations k) (is_begun k log) first ≤
            (if b then after else used (finite.get c.operations k) (is_begun k log) first))
            (λ on.
            let it : mv.plan.op ≡ k = same ∙ sym ((Decides-eqb k op).0 on) in
            let sent = subst (λ y. sent_weight (once first y) n 1 r.next.sends + spent mv.phase first ≤ spent r.next.phase first) it
            (row_spends n first mv.plan (stored_of c.store mv.plan.op) mv.phase port m).own in
            let before : used (finite.get c.operations k) (is_begun k log) first ≡ spent mv.phase first =
            ap (λ y. used (finite.get c.operations y) (is_begun k log) first) ((Decides-eqb k op).0 on) ∙ ap (λ o. used o (is_begun k log) first) there in
            omega (arith, few, sent, before))
            (λ off.
            let apart : (mv.plan.op == k) ≡ false = grind (arith, nat_tests, off, same) in
            omega (arith, (row_spends n first mv.plan (stored_of c.store mv.plan.op) mv.phase port m).other k apart))

        turn_by : (a : Option Answer) → answer_of r.next.phase ≡ a → StepIs (after_turn c op (turn_of_move mv c.store r) a)
        turn_by None e = record {
          knows = knows_insert op x knows_next;
          says = says_next;
          found = λ k a is. cc;
          own = tt;
          once = λ k first.
              let sent = spends k first (spent r.next.phase first) (omega arith) in
              let move_at_start = began_same k log [] refl in
              let here : used (finite.get (finite.insert c.operations op (Move x)) k) (is_begun k (log ++ [])) first
              ≡ (if k == op then spent r.next.phase first else used (finite.get c.operations k) (is_begun k log) first) =
              ap (λ o. used o (is_begun k (log ++ [])) first) (got_insert c.operations op k (Move x))
              ∙ ap (λ b. used (cond (k == op) (Some (Move x)) (finite.get c.operations k)) b first) move_at_start
              ∙ elim (k == op) as (λ b. used (cond b (Some (Move x)) (finite.get c.operations k)) (is_begun k log) first
              ≡ (if b then spent r.next.phase first else used (finite.get c.operations k) (is_begun k log) first)) [ true ↦ refl | false ↦ refl ] in
              omega (arith, sent, here);
        }
        turn_by (Some a) e = record {
          knows = λ k y got. split (k == op) (λ b. cond b None (finite.get c.operations k) ≡ Some (Move y) → Knows Part Verdict Goes k y.phase)
              (λ _ never. cc) (λ _ was. knows k y was) (sym (gone k) ∙ got);
          says = sent-append (Said Part Verdict Goes) 1 r.next.sends ((0, Msg.Answered op) ∷ []) says_next (tt, tt);
          found = λ k b is. split (op == k) (λ t. map (λ (one : ℕ × Answer). one.1) (if t then (op, a) ∷ [] else []) ≡ b ∷ [] → IsFound k b)
              (λ on given.
              let it : op ≡ k = (Decides-eqb op k).0 on in
              let its : a ≡ b = first_is a b given in
              subst (λ j. IsFound j b) it (subst (λ z. IsFound op z) its (record {
                known = λ _. By_verdict (answer_known Part Verdict Goes op r.next.phase a knows_next e);
                refused = λ never. (let on = sym (busy op (Move mv) there) ∙ never in cc);
              }))) (λ off never. cc) is;
          own = (refl, tt);
          once = λ k first.
              let none = no_one n 1 first 0 (Msg.Answered op) (λ y. refl) k in
              let sent = spends k first 1 (spent_few r.next.phase first) in
              let move_at_start = began_same k log (Note.Answered op a ∷ []) refl in
              let here : used (finite.get (finite.remove (finite.insert c.operations op (Move x)) op) k) (is_begun k (log ++ Note.Answered op a ∷ [])) first
              ≡ (if k == op then 1 else used (finite.get c.operations k) (is_begun k log) first) =
              ap (λ o. used o (is_begun k (log ++ Note.Answered op a ∷ [])) first) (gone k)
              ∙ ap (λ b. used (cond (k == op) None (finite.get c.operations k)) b first) move_at_start
              ∙ split (k == op) (λ b. used (cond b None (finite.get c.operations k)) (is_begun k log) first ≡
              (if b then 1 else used (finite.get c.operations k) (is_begun k log) first))
              (λ on. (let has : is_begun k log ≡ true = ap (λ j. is_begun j log) ((Decides-eqb k op).0 on) ∙ busy op (Move mv) there in rw has refl))
              (λ off. refl) in
              omega (arith, sent_weight-append (once first k) n 1 r.next.sends ((0, Msg.Answered op) ∷ []), none, sent, here);
        }
          where
            gone : (k : ℕ) → finite.get (finite.remove (finite.insert c.operations op (Move x)) op) k ≡ cond (k == op) None (finite.get c.operations k)
            gone k = got_remove (finite.insert c.operations op (Move x)) op k ∙ ap (λ o. cond (k == op) None o) (got_insert c.operations op k (Move x))
                ∙ gone_twice (k == op) (Some (Move x)) (finite.get c.operations k)

      turn_is : (op port : ℕ) (m : Msg) (o : Option Operation) → finite.get c.operations op ≡ o → NotShared o → op_of m ≡ Some op
          → Said Part Verdict Goes port 1 m → StepIs (takes_turn c op (turn_of o c.store port m))
      turn_is op port m (Some (Share s)) is no_share own label = absurd no_share
      turn_is op port m None is no_share own label = quiet_is (record c { operations = c.operations; store = c.store }) [] refl tt (λ first k. refl)
      turn_is op port m (Some (Copy y)) is no_share own label = tables.copy_is Part Verdict Goes Still log n c knows op y is (copies op y is).1
          (busy op (Copy y) is) m _ (copy_turn c op y (copies op y is).0 is port m)
      turn_is op port m (Some (Move mv)) is no_share own label = turn_by op port m mv is own label (answer_of (row_in mv c.store port m).next.phase) refl

      handed_is : (op port : ℕ) (m : Msg) → op_of m ≡ Some op → Said Part Verdict Goes port 1 m → StepIs (hand_step c op port m)
      handed_is op port m own label = by_operation StepIs c op port m
          (λ no_share. turn_is op port m (finite.get c.operations op) refl no_share own label)
          (λ s is. (let it = shares op s is in handed_shared Part Verdict Goes Still log n c knows op s is it.1 (busy op (Share s) is) it.0 port m))

      diverted_is : (cell : FullCell) → StepIs (on_diverted c cell)
      diverted_is cell = by_queue StepIs c cell still_is (λ op s is.
          let it = shares op s is in queued_shared Part Verdict Goes Still log n c knows op s is it.1 (busy op (Share s) is) it.0 cell)

      -- a command that waits, of which nothing is noted
      module _ (op : ℕ) (new : is_begun op log ≡ false) (none : finite.get c.operations op ≡ None) where
        -- before it began nothing was sent once for it
        opened_more : (o : Operation) (k : ℕ) (first b : Bool) → (k == op) ≡ b → used (finite.get c.operations k) (is_begun k log) first
            ≤ used (cond b (Some o) (finite.get c.operations k)) (is_begun k (log ++ Note.Begun op ∷ [])) first
        opened_more o k first true on =
            let it : k ≡ op = (Decides-eqb k op).0 on in
            let zero : used (finite.get c.operations k) (is_begun k log) first ≡ 0 = ap (λ j. used (finite.get c.operations j) (is_begun j log) first) it
            ∙ ap (λ q. used q (is_begun op log) first) none ∙ ap (λ b. if b then 1 else 0) new in
            omega (arith, zero)
        opened_more o k first false off =
            let turned : (op == k) ≡ false = grind (arith, nat_tests, off) in
            let same : is_begun k (log ++ Note.Begun op ∷ []) ≡ is_begun k log = began_same k log (Note.Begun op ∷ []) (rw turned refl) in
            rw same (omega arith)

        -- where what is sent counts for none
        opens_once : (o : Operation) (sends : List (ℕ × Msg)) → ((first : Bool) → NoneOnce n 1 first sends) → (k : ℕ) (first : Bool)
            → sent_weight (once first k) n 1 sends + used (finite.get c.operations k) (is_begun k log) first
            ≤ used (finite.get (finite.insert c.operations op o) k) (is_begun k (log ++ Note.Begun op ∷ [])) first
        opens_once o sends none_sent k first =
            let here : used (finite.get c.operations k) (is_begun k log) first
            ≤ used (finite.get (finite.insert c.operations op o) k) (is_begun k (log ++ Note.Begun op ∷ [])) first =
            subst (λ q. used (finite.get c.operations k) (is_begun k log) first ≤ used q (is_begun k (log ++ Note.Begun op ∷ [])) first)
            (sym (got_insert c.operations op k o)) (opened_more o k first (k == op) refl) in
            omega (arith, none_sent first k, here)

        begun_is : {what : Order} (did : Step) → OpensBy c op what did → StepIs did
        begun_is did (Opens_move {filter = filter} {keep = keep} from to e at) =
            let plan : MovePlan = record { op = op; from = from; to = to; filter = filter; keep = keep } in
            record {
              knows = knows_insert op (move_at_start plan) tt;
              says = (tt, tt);
              found = λ k a is. cc;
              own = (refl, tt);
              once = opens_once (Move (move_at_start plan)) ((from + 2, Msg.Enable op filter Action.Drop) ∷ [])
                  (λ first k. no_one n 1 first (from + 2) (Msg.Enable op filter Action.Drop) (λ y. refl) k);
            }
        begun_is did (Opens_copy {filter = filter} from to e at) =
            let plan : CopyPlan = record { op = op; from = from; to = to; filter = filter } in
            record {
              knows = λ k x e. knows k x (other_there (k == op) (Some (Copy (copy.copy_at_start plan))) (finite.get c.operations k) x tt
                  (sym (got_insert c.operations op k (Copy (copy.copy_at_start plan))) ∙ e));
              says = (asks_said filter, tt);
              found = λ k a is. cc;
              own = (refl, tt);
              once = λ k first.
                  let here : once first k (copy.asks op filter) + used (finite.get c.operations k) (is_begun k log) first
                  ≤ used (finite.get (finite.insert c.operations op (Copy (copy.copy_at_start plan))) k) (is_begun k (log ++ Note.Begun op ∷ [])) first =
                  subst (λ o. once first k (copy.asks op filter) + used (finite.get c.operations k) (is_begun k log) first
                  ≤ used o (is_begun k (log ++ Note.Begun op ∷ [])) first) (sym (got_insert c.operations op k (Copy (copy.copy_at_start plan))))
                  (split (k == op) (λ b. once first k (copy.asks op filter) + used (finite.get c.operations k) (is_begun k log) first ≤ used
                  (cond b (Some (Copy (copy.copy_at_start plan))) (finite.get c.operations k)) (is_begun k (log ++ Note.Begun op ∷ [])) first)
                  (λ on.
                  let it : k ≡ op = (Decides-eqb k op).0 on in
                  let zero : used (finite.get c.operations k) (is_begun k log) first ≡ 0 =
                  ap (λ j. used (finite.get c.operations j) (is_begun j log) first) it ∙ ap (λ o. used o (is_begun op log) first) none
                  ∙ ap (λ b. if b then 1 else 0) new in
                  omega (arith, zero, few_counts (copy.asks op filter) first k))
                  (λ off.
                  let turned : (op == k) ≡ false = grind (arith, nat_tests, off) in
                  let same : is_begun k (log ++ Note.Begun op ∷ []) ≡ is_begun k log = began_same k log (Note.Begun op ∷ []) (rw turned refl) in
                  rw same (omega (arith, asks_apart filter first k turned)))) in
                  omega (arith, at_most n 1 first (instance_node from) (copy.asks op filter) k, here);
            }
          where
            asks_said : (o : Option Filter) → Said Part Verdict Goes 1 (instance_node from) (copy.asks op o)
            asks_said None = tt
            asks_said (Some flt) = tt

            asks_apart : (o : Option Filter) (first : Bool) (k : ℕ) → (op == k) ≡ false → once first k (copy.asks op o) ≡ 0
            asks_apart None first k off = refl
            asks_apart (Some flt) true k off = refl
            asks_apart (Some flt) false k off = rw off refl
        begun_is did (Opens_share {filter = filter} home others) =
            let plan : SharePlan = record { op = op; members = home ∷ others; filter = filter; site = c.site } in
            record {
              knows = λ k x e. knows k x (other_there (k == op) (Some (Share (share.share_at_start plan))) (finite.get c.operations k) x tt
                  (sym (got_insert c.operations op k (Share (share.share_at_start plan))) ∙ e));
              says = (tt, tt);
              found = λ k a is. cc;
              own = (refl, tt);
              once = opens_once (Share (share.share_at_start plan)) ((0, Msg.Install op filter home Target.Controller) ∷ [])
                  (λ first k. no_one n 1 first 0 (Msg.Install op filter home Target.Controller) (λ y. refl) k);
            }

      asked_is : (op : ℕ) (what : Order) → is_begun op log ≡ false → StepIs (on_asked c (record { op = op; what = what }))
      asked_is op what new = by_command StepIs c op what still_is (λ a none is. record {
        knows = knows;
        says = (tt, tt);
        found = λ k b given.
            split (op == k) (λ t. map (λ (one : ℕ × Answer). one.1) (if t then (op, a) ∷ [] else []) ≡ b ∷ [] → IsFound k b)
            (λ on e.
            let it : op ≡ k = (Decides-eqb op k).0 on in
            let its : a ≡ b = first_is a b e in
            subst (λ j. IsFound j b) it (subst (λ z. IsFound op z) its (record {
              known = λ never. (let on = sym new ∙ never in cc);
              refused = λ _. refused_is (unknown_name c what) (overlap c what) a is;
            }))) (λ off never. cc) given;
        own = (refl, tt);
        once = λ k first.
            let sent = no_one n 1 first 0 (Msg.Answered op) (λ y. refl) k in
            let same = began_same k log (Note.Answered op a ∷ []) refl in
            let here = ap (λ b. used (finite.get c.operations k) b first) same in
            omega (arith, sent, here);
      }) (λ did none is by. begun_is op new none did by)

      row_is : (port : ℕ) (m : Msg) → Said Part Verdict Goes port 1 m → IsNew log m → StepIs (controller.row c port m)
      row_is port = row_by c port (λ m did. Said Part Verdict Goes port 1 m → IsNew log m → StepIs did) (record {
        still = λ m said new. still_is;
        ended = λ said new. quiet_is _ [] refl tt (λ first op. refl);
        stopped = λ i said new. quiet_is _ [] refl tt (λ first op. refl);
        returned = λ op i cell said new.
            quiet_is c ((0, Msg.Forward i (Pass op) cell) ∷ []) refl (tt, tt) (λ first. no_one n 1 first 0 (Msg.Forward i (Pass op) cell) (λ y. refl));
        handed = λ op m its said new. handed_is op port m its said;
        diverted = λ cell said new. diverted_is cell;
        asked = λ k said new. asked_is k.op k.what new;
      })

      pub controller_judges : (port : ℕ) (m : Msg) → Said Part Verdict Goes port 1 m → IsNew log m → StepIs (controller_step c port m)
      controller_judges port m label new = finished_is (controller.row c port m) (row_is port m label new)
