-- In every run the packets of units that a refused move was to take from its source were processed there, from its begin to its answer.
use Rattle.nf_net.proofs.Words.{◌≡◌, ◌≢◌, ℕ, zero, suc, ◌<◌, Bool, true, false, Option, Some, None, List, [], ◌∷◌, ◌++◌, length, length-append, get_or}
use Rattle.nf_net.proofs.Words.{append_assoc, append-nil, refl, sym, ap, ◌∙◌, subst, arith, ◌&&◌, ◌||◌, ◌==◌, not, nat_cmp, nat_tests, Decides-eqb, Decides-ltb}
use Rattle.nf_net.proofs.Words.{and_parts, Filter, Output, Answer, Msg, Note, instance_node, switch_step, MoveState, Operation, Move, Copy, Share}
use Rattle.nf_net.proofs.Words.{ControllerState, controller_step, opened_controller, place_of, Choice, Network, IsRun, reaches, run, world_next, at, Takes}
use Rattle.nf_net.proofs.Words.{taken_outcome, Node, Controller, is_begun, has_answered, is_busy, answers_of, times_begun, order_numbered, node_step}
use Rattle.nf_net.proofs.Words.{node_ready, owner, owner_after_order, unit_numbered, begins_in, answers_of-append, times_begun-append, counted_now, owner_next}
use Rattle.nf_net.proofs.Words.{known, Given, Label, IsTaken, Joined, node_of, scene, Wants, node_leads, installed_none, Stands, In_first, In_second, stands}
use Rattle.nf_net.proofs.Words.{each_there, switch_unprocessed, controller_uninstalled, uninstalled_unprocessed, Runs, given, all_fit, Order, Done, nowhere}
use Rattle.nf_net.proofs.Words.{split, Setting, start}
use Rattle.std.specs.FinMap as finite
use Rattle.nf_function.specs.Units.{takes as takes_unit}
use Rattle.net_world.specs.Refused.{moves_away, StaysAtSource}
use Rattle.nf_net.proofs.answers.BusyLemmas.{AreOther, is_other, other_not_begun}
use Rattle.nf_net.proofs.RunWords.{switch_hands, instance_says, Busy, own_controller, busy_next, run_busy, controller_acts, passed, AreUnderWay}
use Rattle.nf_net.proofs.RunWords.{moves_under_way, units_fit, count, run_keeps}
use Rattle.nf_net.proofs.answers.ControllerActs.{IsEarly, Was, Was.Was_open, Was.Begins_now, SaysSo, SaysSo.Neither, SaysSo.Begins, SaysSo.Answers, Acts}
use Rattle.nf_net.proofs.InstalledShares.{Alone, Is_it, alone}
use Rattle.nf_net.proofs.RuleSteps.{Changed, No_rule, Moves_on, Diverts, changed}
use Rattle.nf_net.proofs.SourceSteps.{Stays, Leaves, AreAt, Is_at, stays_more, owner_stays, quiet_leaves, unprocessed_at, other_change, instance_leaves}
use Rattle.nf_net.proofs.SourceSteps.{began_there}
use Rattle.nf_net.proofs.answers.ToldCommands.{some_answers}

-- a note of an answer is none of other things
answered_not_other : (front back : List Note) (op : ℕ) (a : Answer) (notes : List Note) → AreOther notes → notes ≡ front ++ Note.Answered op a ∷ back → ⊥
answered_not_other front back op a notes h e =
    let never : false ≡ true = each_there (λ n. is_other n ≡ true) front (Note.Answered op a) back (subst AreOther e h) in cc

abbrev answer_in : ℕ → Note → ℕ
answer_in d (Note.Answered op a) = op
answer_in d n = d

abbrev answer_of_note : Answer → Note → Answer
answer_of_note d (Note.Answered op a) = a
answer_of_note d n = d

module _ {F R : Type 0} (setting : Setting F R) where
  open setting use {function as f, laws, config as c, items}

  abbrev g : Given
  g = given setting

  abbrev n : ℕ
  n = count setting

  abbrev at_start : Network (Node F R) Msg Note
  at_start = start setting

  reach : reaches n 1 0 ≡ true
  reach = let some = (Decides-ltb 0 n).1 (omega arith) in rw some refl

  abbrev At_source : List Note → Type 0
  At_source log = StaysAtSource c items f.kind log

  -- what a run keeps
  record Keeps (w : Network (Node F R) Msg Note) : Type 0 where
    controller : ControllerState
    controller_is : (d : Node F R) → get_or w.nodes 1 d ≡ Controller controller
    stay : (op : ℕ) (m : MoveState) → finite.get controller.operations op ≡ Some (Move m) → passed m.phase ≡ 0
        → Stays f c items op m.plan.filter m.plan.from w.log
    at_source : At_source w.log

  -- an answer to a move is new, or it stood there
  source_more : (log notes : List Note) → At_source log → ((op : ℕ) (a : Answer) (first between cs back : List Note)
      → a ≢ Done → first ++ Note.Begun op ∷ between ≡ log ++ cs → notes ≡ cs ++ Note.Answered op a ∷ back
      → (front behind : List Note) (number i : ℕ) (output : Output) → between ≡ front ++ Note.Processed number i output ∷ behind
      → moves_away c (order_numbered items op) (unit_numbered c items f.kind number) (owner c items (unit_numbered c items f.kind number) first) ≡ true
      → i ≡ owner c items (unit_numbered c items f.kind number) first)
      → At_source (log ++ notes)
  source_more log notes old new op first between front behind number i output refused e away =
      by_place (stands log notes (first ++ Note.Begun op ∷ between) (Note.Answered op refused.answer) refused.after
      (refused.whole ∙ sym (append_assoc first (Note.Begun op ∷ between) (Note.Answered op refused.answer ∷ refused.after))))
    where
      by_place : Stands log notes (record { before = first ++ Note.Begun op ∷ between; item = Note.Answered op refused.answer; after = refused.after })
          → i ≡ owner c items (unit_numbered c items f.kind number) first
      by_place (In_first cs here) = old op first between front behind number i output (record {
        answer = refused.answer;
        refused = refused.refused;
        after = cs;
        whole = here ∙ append_assoc first (Note.Begun op ∷ between) (Note.Answered op refused.answer ∷ cs);
      }) e away
      by_place (In_second cs from there) = new op refused.answer first between cs refused.after refused.refused from there front behind number i output e away

  module _ (w : Network (Node F R) Msg Note) (r : Runs setting w) (under : AreUnderWay setting n w r.joined) (h : Keeps w) where
    abbrev j : Joined f g n w
    j = r.joined

    -- what a node takes in a run
    abbrev In_run : ℕ → ℕ → Msg → Type 0
    In_run k p m =
        IsTaken f g n (scene f g n refl (Wants f g) (node_leads f laws g (all_fit setting) n) w r.joined) (record { node = k; port = p; message = m })

    same_one : 1 < n → h.controller ≡ j.nodes.controller
    same_one there = own_controller j there h.controller h.controller_is

    kept : (op : ℕ) (m : MoveState) → finite.get j.nodes.controller.operations op ≡ Some (Move m) → passed m.phase ≡ 0
        → Stays f c items op m.plan.filter m.plan.from w.log
    kept op m there early = h.stay op m (ap (λ x. finite.get x.operations op) (same_one (omega arith)) ∙ there) early

    -- a (node_step f) of the switch or of an instance
    module _ (k p : ℕ) (m : Msg) (rest : List Msg) (takes : Takes (node_step f) n w k p (node_of j.nodes k) m rest)
        (other : 1 ≢ k) (notes_are : AreOther (node_step f (node_of j.nodes k) p m).notes)
        (leaves : (op : ℕ) (x : MoveState) → finite.get j.nodes.controller.operations op ≡ Some (Move x) → passed x.phase ≡ 0
        → Leaves f c items x.plan.filter x.plan.from w.log (node_step f (node_of j.nodes k) p m).notes) where
      others_keep : Keeps (world_next (node_step f) w (at k p))
      others_keep =
          let left = taken_outcome (node_step f) n w k p (node_of j.nodes k) m rest takes in
          let notes = (node_step f (node_of j.nodes k) p m).notes in
          record {
            controller = j.nodes.controller;
            controller_is = λ d. left.others 1 d other ∙ j.nodes_are 1 (omega arith) d;
            stay = λ op x there early. subst (λ l. Stays f c items op x.plan.filter x.plan.from l) (sym left.log) (stays_more f c items op x.plan.filter
                x.plan.from w.log notes (kept op x there early) (other_not_begun op notes notes_are) (leaves op x there early));
            at_source = subst At_source (sym left.log) (source_more w.log notes h.at_source
                (λ op a first between cs back refused from there. absurd (answered_not_other cs back op a notes notes_are there)));
          }

    -- the switch
    switch_leaves : (p : ℕ) (m : Msg) (it : In_run 0 p m) → Changed f g n _ j.shown_is p m it
        → (op : ℕ) (x : MoveState) → finite.get j.nodes.controller.operations op ≡ Some (Move x) → passed x.phase ≡ 0
        → Leaves f c items x.plan.filter x.plan.from w.log (switch_step j.nodes.switch m).notes
    switch_leaves p m it (No_rule none) op x there early u fits owning owned = quiet_leaves f c items x.plan.filter x.plan.from w.log
        (switch_step j.nodes.switch m).notes none (switch_unprocessed j.nodes.switch m) u fits owning owned
    switch_leaves p m it (Moves_on k filter from dst rest noted its whole waits) op x there early u fits owning owned =
        let off = other_change setting n w j op x there early u fits owning owned k filter (instance_node from) (instance_node dst) rest whole
        waits in
        let plan = its.plan_is in
        let order_is = plan.order_is ∙ ap (λ y. Some (Order.Move plan.source plan.destination y its.plan.keep)) its.filter_is in
        let handed : owner_after_order c.names (order_numbered items) u (order_numbered items k) (owner c items u w.log) ≡ owner c items u w.log =
        rw (order_is, off) refl in (
          ap (λ ns. owner c items u (w.log ++ ns)) noted ∙ owner_next g u w.log k ∙ handed ∙ owned,
          unprocessed_at f c items u x.plan.from (switch_step j.nodes.switch m).notes (switch_unprocessed j.nodes.switch m),
        )
    switch_leaves p m it (Diverts k filter from rest noted its whole waits) op x there early u fits owning owned =
        let handed : owner_after_order c.names (order_numbered items) u (order_numbered items k) (owner c items u w.log) ≡ owner c items u w.log =
        rw its.order_is refl in (
          ap (λ ns. owner c items u (w.log ++ ns)) noted ∙ owner_next g u w.log k ∙ handed ∙ owned,
          unprocessed_at f c items u x.plan.from (switch_step j.nodes.switch m).notes (switch_unprocessed j.nodes.switch m),
        )

    -- the controller
    module _ (p : ℕ) (m : Msg) (rest : List Msg) (takes : Takes (node_step f) n w 1 p (node_of j.nodes 1) m rest) (labelled : Label f g p 1 m)
        (after : Busy g (world_next (node_step f) w (at 1 p))) where
      abbrev t : ControllerState
      t = j.nodes.controller

      abbrev notes : List Note
      notes = (controller_step t p m).notes

      left : (world_next (node_step f) w (at 1 p)).log ≡ w.log ++ notes
      left = (taken_outcome (node_step f) n w 1 p (node_of j.nodes 1) m rest takes).log

      acts : Acts g n reach t (controller_step t p m)
      acts = controller_acts g n reach t (known f g t j.world.ops j.world.shares j.world.next j.shown_is.controller) f p m labelled

      leaves : (filter : Filter) (i : ℕ) → Leaves f c items filter i w.log notes
      leaves filter i = quiet_leaves f c items filter i w.log notes (installed_none notes (controller_uninstalled t p m))
          (uninstalled_unprocessed notes (controller_uninstalled t p m))

      -- an open command doesn't begin again
      not_begun : (op : ℕ) (x : MoveState) → finite.get t.operations op ≡ Some (Move x) → SaysSo g n reach t (controller_step t p m) → is_begun op notes ≡ false
      not_begun op x there (Neither e sent) = ap (is_begun op) e
      not_begun op x there (Answers k a what e sent known early) = ap (is_begun op) e
      not_begun op x there (Begins k e sent closed) = ap (is_begun op) e ∙ split (k == op) (λ q. q || false ≡ false)
          (λ on. (let same = (Decides-eqb k op).0 on in let never : None ≡ Some (Move x) = sym closed ∙ ap (finite.get t.operations) same ∙ there in cc))
          (λ off. refl)

      -- what begins now has nothing behind its begin
      begins_now : (op : ℕ) (filter : Filter) (i : ℕ) → notes ≡ Note.Begun op ∷ [] → Stays f c items op filter i (w.log ++ notes)
      begins_now op filter i e first rest u whole fits world_next owned = by_place (stands w.log notes first (Note.Begun op) rest whole)
        where
          by_place : Stands w.log notes (record { before = first; item = Note.Begun op; after = rest })
              → (owner c items u (w.log ++ notes) ≡ i) × AreAt f c items u i rest
          by_place (In_first cs here) =
              let self : (op == op) ≡ true = grind (arith, nat_tests) in
              let log = ap (times_begun op) (left ∙ ap (λ ns. w.log ++ ns) e) ∙ times_begun-append op w.log (Note.Begun op ∷ []) in
              let new : times_begun op (Note.Begun op ∷ []) ≡ 1 = rw self refl in
              let old = ap (times_begun op) here ∙ times_begun-append op first (Note.Begun op ∷ cs) in
              absurd (omega (arith, (after.is.answered op).begun_once, log, new, old, counted_now op (begins_in cs)))
          by_place (In_second cs from there) = by_alone (alone (Note.Begun op) (Note.Begun op) cs rest (sym e ∙ there))
            where
              by_alone : Alone (Note.Begun op) (Note.Begun op) cs rest → (owner c items u (w.log ++ notes) ≡ i) × AreAt f c items u i rest
              by_alone (Is_it same front back) =
                  let at_first : first ≡ w.log = from ∙ ap (λ xs. w.log ++ xs) front ∙ append-nil w.log in (
                    owner_stays f c items u w.log notes (installed_none notes (controller_uninstalled t p m)) ∙ ap (owner c items u) (sym at_first) ∙ owned,
                    subst (λ xs. AreAt f c items u i xs) (sym back) tt,
                  )

      -- what was refused stayed
      refused_now : (op : ℕ) (a : Answer) (first between cs back : List Note) → a ≢ Done
          → first ++ Note.Begun op ∷ between ≡ w.log ++ cs → notes ≡ cs ++ Note.Answered op a ∷ back
          → (front behind : List Note) (number i : ℕ) (output : Output) → between ≡ front ++ Note.Processed number i output ∷ behind
          → moves_away c (order_numbered items op) (unit_numbered c items f.kind number) (owner c items (unit_numbered c items f.kind number) first) ≡ true
          → i ≡ owner c items (unit_numbered c items f.kind number) first
      refused_now op a first between cs back refused from there front behind number i output e away = by_says acts.says
        where
          -- the move was open, and early
          was_open : (x : MoveState) → finite.get t.operations op ≡ Some (Move x) → passed x.phase ≡ 0 → w.log ≡ first ++ Note.Begun op ∷ between
              → i ≡ owner c items (unit_numbered c items f.kind number) first
          was_open x got early whole =
              let of = under.plan_is op x got in
              let order_is : order_numbered items op ≡ Some (Order.Move of.source of.destination x.plan.filter x.plan.keep) = of.order_is in
              let from_is : place_of c.names of.source ≡ Some x.plan.from = of.from_is in
              let both : takes_unit x.plan.filter (unit_numbered c items f.kind number)
              && (owner c items (unit_numbered c items f.kind number) first == x.plan.from) ≡ true =
              rw (order_is, from_is) at away in
              let owned = (Decides-eqb (owner c items (unit_numbered c items f.kind number) first) x.plan.from).0
              (and_parts (takes_unit x.plan.filter (unit_numbered c items f.kind number)) _ both).1 in
              let stayed = kept op x got early first between (unit_numbered c items f.kind number) whole (units_fit setting number)
              (and_parts (takes_unit x.plan.filter (unit_numbered c items f.kind number)) _ both).0 owned in
              each_there (Is_at f c items (unit_numbered c items f.kind number) x.plan.from) front (Note.Processed number i output) behind
              (subst (λ ns. AreAt f c items (unit_numbered c items f.kind number) x.plan.from ns) e stayed.1) refl ∙ sym owned

          -- a command that isn't open would be answered twice
          was_closed : finite.get t.operations op ≡ None → notes ≡ Note.Answered op a ∷ [] → w.log ≡ first ++ Note.Begun op ∷ between
              → i ≡ owner c items (unit_numbered c items f.kind number) first
          was_closed none noted whole =
              let off : is_busy op w.log ≡ false = under.closed_busy op none in
              let on : is_begun op w.log ≡ true = ap (is_begun op) whole ∙ began_there op first between in
              let answered : has_answered op w.log ≡ true =
              (let both : true && not (has_answered op w.log) ≡ false = rw on at off in answered_of (has_answered op w.log) both) in
              let self : (op == op) ≡ true = grind (arith, nat_tests) in
              let one : length (answers_of op (Note.Answered op a ∷ [])) ≡ 1 = rw self refl in
              let all = ap (λ l. length (answers_of op l)) (left ∙ ap (λ ns. w.log ++ ns) noted) ∙ ap length
              (answers_of-append op w.log (Note.Answered op a ∷ [])) ∙ length-append (answers_of op w.log) (answers_of op (Note.Answered op a ∷ [])) in
              absurd (omega (arith, one, all, some_answers op w.log answered, (after.is.answered op).answered_once))
            where
              answered_of : (q : Bool) → true && not q ≡ false → q ≡ true
              answered_of true h = refl
              answered_of false h = cc

          by_got : (o : Option Operation) → finite.get t.operations op ≡ o → IsEarly o → notes ≡ Note.Answered op a ∷ []
              → w.log ≡ first ++ Note.Begun op ∷ between → i ≡ owner c items (unit_numbered c items f.kind number) first
          by_got None got early noted whole = was_closed got noted whole
          by_got (Some (Copy y)) got early noted whole = absurd early
          by_got (Some (Share s)) got early noted whole = absurd early
          by_got (Some (Move x)) got early noted whole = was_open x got early whole

          by_alone : (k : ℕ) (d : Answer) → notes ≡ Note.Answered k d ∷ [] → (d ≢ Done → IsEarly (finite.get t.operations k))
              → Alone (Note.Answered k d) (Note.Answered op a) cs back → i ≡ owner c items (unit_numbered c items f.kind number) first
          by_alone k d noted early (Is_it same front none) =
              let op_is : k ≡ op = ap (answer_in 0) same in
              let a_is : d ≡ a = ap (answer_of_note Done) same in
              let whole : w.log ≡ first ++ Note.Begun op ∷ between = sym (from ∙ ap (λ xs. w.log ++ xs) front ∙ append-nil w.log) in
              by_got (finite.get t.operations op) refl (subst (λ q. IsEarly (finite.get t.operations q)) op_is
              (early (λ is_done. refused (sym a_is ∙ is_done)))) (noted ∙ ap (λ y. y ∷ []) same) whole

          by_says : SaysSo g n reach t (controller_step t p m) → i ≡ owner c items (unit_numbered c items f.kind number) first
          by_says (Neither noted sent) = absurd (nowhere cs back (Note.Answered op a) (sym noted ∙ there))
          by_says (Begins k noted sent closed) = not_both (alone (Note.Begun k) (Note.Answered op a) cs back (sym noted ∙ there))
            where
              not_both : Alone (Note.Begun k) (Note.Answered op a) cs back → i ≡ owner c items (unit_numbered c items f.kind number) first
              not_both (Is_it same front none) = cc
          by_says (Answers k d what noted sent known early) =
              by_alone k d noted early (alone (Note.Answered k d) (Note.Answered op a) cs back (sym noted ∙ there))

      controller_keeps : Keeps (world_next (node_step f) w (at 1 p))
      controller_keeps = record {
        controller = (controller_step t p m).node;
        controller_is = (taken_outcome (node_step f) n w 1 p (node_of j.nodes 1) m rest takes).own;
        stay = λ op x there early. subst (λ l. Stays f c items op x.plan.filter x.plan.from l) (sym left) (by_was op x (acts.early op x there early));
        at_source = subst At_source (sym left) (source_more w.log notes h.at_source refused_now);
      }
        where
          by_was : (op : ℕ) (x : MoveState) → Was g n reach t op x notes → Stays f c items op x.plan.filter x.plan.from (w.log ++ notes)
          by_was op x (Was_open y got early same) = subst (λ q. Stays f c items op q.filter q.from (w.log ++ notes)) same (stays_more f c items op
              y.plan.filter y.plan.from w.log notes (kept op y got early) (not_begun op y got acts.says) (leaves y.plan.filter y.plan.from))
          by_was op x (Begins_now e) = begins_now op x.plan.filter x.plan.from e

    keeps : (k p : ℕ) (m : Msg) (rest : List Msg) → Takes (node_step f) n w k p (node_of j.nodes k) m rest → In_run k p m → Busy g
        (world_next (node_step f) w (at k p))
        → Keeps (world_next (node_step f) w (at k p))
    keeps zero p m rest takes it after = others_keep 0 p m rest takes (λ e. cc) (switch_hands f g j.nodes.switch p m it.label).notes_are
        (switch_leaves p m it (changed f g n _ j.shown_is p m it))
    keeps (suc zero) p m rest takes it after = controller_keeps p m rest takes it.label after
    keeps (suc (suc y)) p m rest takes it after = others_keep (suc (suc y)) p m rest takes (λ e. cc) (instance_says f g (suc (suc y))
        (j.nodes.instance (suc (suc y))) m).notes_are (λ op x there early. instance_leaves setting n w j op x there early y p m it)

  start_keeps : Keeps at_start
  start_keeps = record {
    controller = opened_controller c.names c.site;
    controller_is = λ d. refl;
    stay = λ op m there early. (let never = sym there ∙ closed op in cc);
    at_source = λ op first between before after number i output refused e away. absurd (nowhere first _ (Note.Begun op) refused.whole);
  }
    where
      closed : (op : ℕ) → finite.get (finite.empty {X = Operation} {R = nat_cmp}) op ≡ None
      closed op = finite.get-empty nat_cmp op

  -- of every run
  pub stays_at_source : (cs : List Choice) → IsRun node_ready (node_step f) cs at_start → StaysAtSource c items f.kind (run (node_step f) cs at_start).log
  stays_at_source cs run_is = (run_keeps setting (λ _ w. Keeps w) start_keeps (λ ds ok d s h. keeps (run (node_step f) ds at_start) s.runs
      (moves_under_way setting ds ok s.runs.joined) h d.node d.port s.taking.message s.taking.rest s.takes s.taken
      (busy_next f g n refl (run (node_step f) ds at_start) d s.taking s.runs.joined (run_busy setting ds ok).1)) cs run_is).at_source
