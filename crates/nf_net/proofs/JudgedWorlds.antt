-- Each node's step keeps what is known of moves, in a world of a run.
use Rattle.nf_net.proofs.Words.{◌≡◌, ℕ, zero, suc, ◌+◌, ◌<◌, ◌≤◌, true, false, Some, None, List, [], ◌∷◌, ◌++◌, length, get_or, append-nil, refl, sym, ap, ◌∙◌}
use Rattle.nf_net.proofs.Words.{subst, arith, if◌then◌else◌, ◌==◌, slice_get, slice_index, slice_index_or, list_any, nat_tests, Decides-eqb, slice_get-get_or}
use Rattle.nf_net.proofs.Words.{Filter, Chunk, version_number, Answer, Piece, Msg, Note, units_in, instance_node, MoveState, destination, CopyState, ShareState}
use Rattle.nf_net.proofs.Words.{Move, Copy, Share, controller_step, switch_step, InstanceState, piece_refusal, selected_chunks, instance_step, pieces, whole_of}
use Rattle.nf_net.proofs.Words.{Choice, Network, IsRun, run, world_next, at, Takes, taken_outcome, EachSent, total_after, sent_weight, Each, Node, is_begun}
use Rattle.nf_net.proofs.Words.{has_answered, node_step, node_ready, processed_of, live_in, before_export, is_timed, exported_for, live_number, receiver_of}
use Rattle.nf_net.proofs.Words.{Given, Label, Joined, node_of, is_whole, given, all_fit, Unit, Instance, Runs, split, Setting, start, world_of}
use Rattle.std.specs.FinMap as finite
use Rattle.nf_function.specs.Units as filters
use Rattle.copy_share.specs.Copy as copy
use Rattle.nf_net.proofs.RunWords.{or_off, switch_hands, instance_says, Busy, own_controller, open_began, plan_is, is_moving, run_busy, Knows, once}
use Rattle.nf_net.proofs.RunWords.{after_world}
use Rattle.nf_net.proofs.answers.BusyController.{told_in}
use Rattle.nf_net.proofs.answers.BusyOperations.{IsBusy}
use Rattle.nf_net.proofs.StreamedUnits.{IsOf, pieces_of, GivesState, record_timed}
use Rattle.nf_net.proofs.MovedRecords.{streamed_record, taken_give}
use Rattle.nf_net.proofs.JudgedController.{IsNew, controller_judges}
use Rattle.nf_net.proofs.JudgedTables.{used, used_few, IsDue, By_verdict, By_still}
use Rattle.nf_net.proofs.JudgedFacts.{answer_is, IsStill, IsFound, Was_refused, Was_judged, Was_still, began_kept, knows_kept}
use Rattle.nf_net.proofs.JudgedInstance.{answer_by, IsReady, instance_does}
use Rattle.nf_net.proofs.JudgedSteps as steps
use Rattle.nf_net.proofs.JudgedSteps.{Judging, Leaves, IsFixed, no_stream_to, none_once}
use Rattle.nf_net.proofs.answers.LinePicks.{at_controller as way_at_controller}
use Rattle.nf_net.proofs.VerdictLemmas.{none_exported, exported_new, before_export_new, before_own}
use Rattle.nf_net.proofs.JudgedNodes.{switch_given, own_given, switch_says, same_instance, stream_notes}

module _ {F R : Type 0} (setting : Setting F R) (cs : List Choice) (run_is : IsRun node_ready (node_step setting.function) cs (start setting))
    (r : Runs setting (run (node_step setting.function) cs (start setting))) where
  open setting use {function as f, laws, config as c, items}

  abbrev g : Given
  g = given setting

  abbrev n : ℕ
  n = length c.names + 2

  abbrev w : Network (Node F R) Msg Note
  w = world_of setting cs

  abbrev j : Joined f g n w
  j = r.joined

  abbrev b : Busy g w
  b = (run_busy setting cs run_is).1

  abbrev Part : List Note → ℕ → Piece → Type 0
  Part = steps.Part setting

  abbrev Verdict : List Choice → ℕ → Answer → Type 0
  Verdict = steps.Verdict setting

  abbrev Goes : ℕ → ℕ → Type 0
  Goes = steps.Goes setting

  module _ (h : Judging setting cs w w.log) (p : ℕ) (rest : List Msg) where
    abbrev Leads : (k : ℕ) (m : Msg) → Takes (node_step f) n w k p (node_of j.nodes k) m rest → Type 0
    Leads k m takes = Leaves setting cs w refl h k p (node_of j.nodes k) m rest takes

    abbrev AreLabelled : ℕ → Msg → Type 0
    AreLabelled k m = EachSent (Label f g) k (node_step f (node_of j.nodes k) p m).sends

    at_switch : (m : Msg) (takes : Takes (node_step f) n w 0 p (node_of j.nodes 0) m rest) → Label f g p 0 m → AreLabelled 0 m → Leads 0 m takes
    at_switch m takes labelled labels =
        let s = j.nodes.switch in
        steps.leaves_other setting cs w refl h 0 p (node_of j.nodes 0) m rest takes (λ never. cc) (switch_hands f g s p m labelled).notes_are
        labels
        (switch_says f g (Part (w.log ++ (switch_step s m).notes)) (Verdict (cs ++ at 0 p ∷ [])) Goes (switch_step s m).sends labels)
        (λ op. switch_given op s m ∙ sym (no_stream_to f g op p 0 m (omega arith) labelled))
        (λ i small x e. steps.fixed_other setting cs w refl h 0 p (node_of j.nodes 0) m rest takes i (λ never. absurd (omega (arith, never))) small
        x e)

    -- The controller.
    moves : (op : ℕ) (x : MoveState) → finite.get j.nodes.controller.operations op ≡ Some (Move x) → (x.plan.op ≡ op) × Goes op (destination x.plan)
    moves op x there =
        let plan = plan_is f g n refl w j b op x there in (
          (j.shown_is.controller.moves op x there).op_is,
          record { destination = x.plan.to; destination_is = ap (receiver_of c) plan.order_is ∙ plan.to_is; node_is = refl },
        )

    new_of : (m : Msg) (takes : Takes (node_step f) n w 1 p (node_of j.nodes 1) m rest) → Label f g p 1 m → IsNew w.log m
    new_of (Msg.Asked a) takes labelled =
        let from : told_in (Msg.Asked a) ≡ (if 0 == p then told_in (Msg.Asked a) else []) = (let sender = labelled.0 in rw sender refl) in
        let same = way_at_controller told_in (node_step f) n (omega arith) w p (node_of j.nodes 1) (Msg.Asked a) rest takes from in
        let first = subst (λ xs. IsBusy g b.controller.operations w.log xs) same b.is in
        (or_off (is_begun a.op w.log) (has_answered a.op w.log) (first.unnoted a.op first.rising.0)).0
    new_of m takes labelled = tt

    abbrev Still : ℕ → Type 0
    Still = IsStill f c items (start setting)

    copies : (op : ℕ) (x : CopyState) → finite.get j.nodes.controller.operations op ≡ Some (Copy x) → (copy.answer_of x.phase ≡ None) × Still op
    copies op x there =
        let it = j.shown_is.controller.copies op x there in
        (it.going, ap is_moving (ap g.orders (sym it.op_is) ∙ it.plan.order_is))

    shares : (op : ℕ) (x : ShareState) → finite.get j.nodes.controller.operations op ≡ Some (Share x) → (x.plan.op ≡ op) × Still op
    shares op x there =
        let it = j.shown_is.controller.shared op x there in
        (it.op_is, ap is_moving (ap g.orders (sym it.op_is) ∙ it.plan.order_is))

    due_found : (later : List Choice) (log : List Note) (op : ℕ) (a : Answer) → is_begun op log ≡ true
        → IsDue (Part log) (Verdict later) Goes Still w.log n j.nodes.controller op a → IsFound f c items (start setting) later log op a
    due_found later log op a on (By_verdict v) = Was_judged on v
    due_found later log op a on (By_still still done) = Was_still on still done

    at_controller : (m : Msg) (takes : Takes (node_step f) n w 1 p (node_of j.nodes 1) m rest) → Label f g p 1 m → Leads 1 m takes
    at_controller m takes labelled =
        let s = j.nodes.controller in
        let log = w.log ++ (controller_step s p m).notes in
        let later = cs ++ at 1 p ∷ [] in
        let same : h.controller ≡ s = own_controller j takes.receiver h.controller h.controller_is in
        let part = steps.part setting cs w refl h 1 p (node_of j.nodes 1) m rest takes in
        let judged = steps.judged setting cs w refl h 1 p (node_of j.nodes 1) m rest takes in
        let known : (op : ℕ) (x : MoveState) → finite.get s.operations op ≡ Some (Move x) → Knows (Part log) (Verdict later) Goes op x.phase = λ op x there.
        knows_kept (Part w.log) (Part log) (Verdict cs) (Verdict later) Goes part judged op x.phase
        (h.knows op x (ap (λ y. finite.get y.operations op) same ∙ there)) in
        let did = controller_judges (Part log) (Verdict later) Goes Still w.log n s known moves copies shares (open_began f g n refl w j b) p m
        (steps.said_later setting cs w refl h 1 p (node_of j.nodes 1) m rest takes) (new_of m takes labelled) in
        record {
          controller = (controller_step s p m).node;
          controller_is = (taken_outcome (node_step f) n w 1 p (node_of j.nodes 1) m rest takes).own;
          knows = did.knows;
          says = did.says;
          found = λ op a e. split (is_begun op w.log) (λ _. IsFound f c items (start setting) later log op a)
              (λ on. due_found later log op a (began_kept f c items (start setting) op w.log (controller_step s p m).notes on)
              ((did.found op a e).known on)) (λ off. Was_refused ((did.found op a e).refused off));
          spends = λ op first.
              subst (λ y. sent_weight (once first op) n 1 (controller_step s p m).sends + used (finite.get y.operations op) (is_begun op w.log) first
              ≤ used (finite.get (controller_step s p m).node.operations op) (is_begun op log) first) (sym same) (did.once op first);
          given = λ op. own_given op (controller_step s p m).notes did.own ∙ sym (no_stream_to f g op p 1 m (omega arith) labelled);
          fixed = λ i small x e. steps.fixed_other setting cs w refl h 1 p (node_of j.nodes 1) m rest takes i
              (λ never. absurd (omega (arith, never))) small x e;
        }

    -- An instance.
    module _ (y : ℕ) where
      abbrev k : ℕ
      k = suc (suc y)

      abbrev i : InstanceState F R
      i = j.nodes.instance k

      module _ (small : k < n) where
        counted : length w.nodes ≡ n
        counted = (after_world setting cs run_is).1

        there : slice_get w.nodes (instance_node y) ≡ Some (Instance i)
        there =
            let number : instance_node y ≡ k = omega arith in
            subst (λ z. slice_get w.nodes z ≡ Some (Instance i)) (sym number)
            (slice_get-get_or w.nodes k (Instance i) (rw counted small) ∙ ap Some (j.nodes_are k small (Instance i)))

        fixed_here : IsFixed setting y i
        fixed_here = h.fixed y (omega (arith, small)) i (λ d. j.nodes_are k small d)

        -- whether a live record of a unit that is asked for has a time
        timed_is : (op : ℕ) (filter : Filter) → Takes (node_step f) n w k p (Instance i) (Msg.Stream op filter) rest → is_whole f.kind filter ≡ true
            → (u : Unit) (r : R) → filters.takes filter u ≡ true → finite.get i.table.live u ≡ Some r → f.is_timed r ≡ is_timed f c items u w.log
        timed_is op filter takes whole u r on got = record_timed f laws c items (all_fit setting) (processed_of f c items u w.log) r
            (streamed_record setting n w j counted k p (omega arith) small takes.sender op filter rest takes.waits whole u y r on got
            (ap (live_in u) there ∙ got))

        part_of : (op : ℕ) (chunks : List Chunk) (log : List Note) → exported_for op log ≡ Some (units_in chunks) → before_export op log ≡ w.log
            → GivesState f laws (λ u. is_timed f c items u w.log) chunks → (ps : List Piece) → Each (IsOf (whole_of chunks)) ps → Each (Part log op) ps
        part_of op chunks log units_are before gives [] each = tt
        part_of op chunks log units_are before gives (q ∷ qs) each = (
          record {
            units = units_in chunks;
            units_are = units_are;
            total = each.0.0 ∙ sym gives.number;
            newest = each.0.1 ∙ gives.version ∙ ap (λ l. version_number (list_any (λ u. is_timed f c items u l) (units_in chunks))) (sym before);
          },
          part_of op chunks log units_are before gives qs each.1,
        )

        -- the pieces of a stream say what is noted that is given
        streamed : (op : ℕ) (filter : Filter) → Takes (node_step f) n w k p (Instance i) (Msg.Stream op filter) rest → is_whole f.kind filter ≡ true
            → exported_for op w.log ≡ None → Each (Part (w.log ++ (instance_step f i (Msg.Stream op filter)).notes) op) (pieces (selected_chunks f i filter))
        streamed op filter takes whole none =
            let chunks = selected_chunks f i filter in
            let notes = Note.Exported i.index op (units_in chunks) ∷ [] in
            let own : (op == op) ≡ true = grind (arith, nat_tests) in
            let units_are : exported_for op (w.log ++ notes) ≡ Some (units_in chunks) = exported_new op w.log notes none ∙ rw own refl in
            let before : before_export op (w.log ++ notes) ≡ w.log = before_export_new op w.log notes none
            ∙ ap (λ ns. w.log ++ ns) (before_own op i.index (units_in chunks)) ∙ append-nil w.log in
            subst (λ ns. Each (Part (w.log ++ ns) op) (pieces chunks)) (sym (stream_notes f i op filter)) (part_of op chunks (w.log ++ notes) units_are before
            (taken_give filter f laws i.table.live (λ u. is_timed f c items u w.log) (timed_is op filter takes whole)) (pieces chunks) (pieces_of chunks))

      -- nothing was given before a stream is taken
      none_before : (op : ℕ) (filter : Filter) (takes : Takes (node_step f) n w k p (Instance i) (Msg.Stream op filter) rest) → AreLabelled k
          (Msg.Stream op filter)
          → exported_for op w.log ≡ None
      none_before op filter takes labels =
          let m = Msg.Stream op filter in
          let none = none_once f g op false n k (node_step f (Instance i) p m).sends (λ never. absurd (omega (arith, never))) labels in
          let own : (op == op) ≡ true = grind (arith, nat_tests) in
          let one : once false op m ≡ 1 = rw own refl in
          let few = used_few (finite.get h.controller.operations op) (is_begun op w.log) false in
          none_exported op w.log (omega (arith, total_after (node_step f) n w k p (Instance i) m rest takes (once false op), none, one, h.once op false, few))

      -- the verdict on a piece that is put first
      judged_first : (op : ℕ) (piece : Piece) (takes : Takes (node_step f) n w k p (Instance i) (Msg.Put op piece true) rest) → Part w.log op piece → Goes op k
          → Verdict (cs ++ at k p ∷ []) op (answer_by (piece_refusal i piece))
      judged_first op piece takes part going =
          let same : going.destination ≡ y = (let at_node = going.node_is in omega (arith, at_node)) in
          let fixed = fixed_here takes.receiver in
          let timed = list_any (λ u. is_timed f c items u (before_export op w.log)) part.units in
          record {
            front = cs;
            is_taken = record { choice = at k p; back = []; whole = refl; piece = piece; rest = rest; waits = takes.waits };
            weighed = record { held = finite.len i.table.live; coming = piece.total; limit = i.limit; marked = i.marked; timed = timed };
            are_weighed = record {
              destination = going.destination;
              destination_is = going.destination_is;
              units = part.units;
              units_are = part.units_are;
              held = ap live_number (sym (there takes.receiver)) ∙ ap (λ z. live_number (slice_get w.nodes (instance_node z))) (sym same);
              coming = part.total;
              limit = fixed.limit ∙ ap (λ z. slice_index c.limits z) (sym same);
              marked = fixed.marked ∙ ap (λ z. slice_index_or c.marked z false) (sym same);
              timed = refl;
            };
            at_destination = going.node_is;
            answer_is = answer_is i piece timed part.newest;
          }

      ready_for : (m : Msg) (takes : Takes (node_step f) n w k p (Instance i) m rest) → AreLabelled k m → Label f g p k m → steps.SaidBy setting cs w.log p
          k m → steps.SaidBy setting (cs ++ at k p ∷ []) (w.log ++ (instance_step f i m).notes) p k m
          → IsReady (Part (w.log ++ (instance_step f i m).notes)) (Verdict (cs ++ at k p ∷ [])) Goes k f i m
      ready_for (Msg.Stream op filter) takes labels labelled said later =
          streamed takes.receiver op filter takes labelled.1 (none_before op filter takes labels)
      ready_for (Msg.Put op piece true) takes labels labelled said later = judged_first op piece takes said.0 said.1
      ready_for (Msg.Put op piece false) takes labels labelled said later = later
      ready_for m takes labels labelled said later = tt

      at_instance : (m : Msg) (takes : Takes (node_step f) n w k p (Instance i) m rest) → Label f g p k m → AreLabelled k m → Leads k m takes
      at_instance m takes labelled labels =
          let log = w.log ++ (instance_step f i m).notes in
          let later = cs ++ at k p ∷ [] in
          let does = instance_does (Part log) (Verdict later) Goes k f i m (ready_for m takes labels labelled (steps.said setting cs w refl h k p
          (Instance i) m rest takes) (steps.said_later setting cs w refl h k p (Instance i) m rest takes)) in
          let left = taken_outcome (node_step f) n w k p (Instance i) m rest takes in
          let fixed = fixed_here takes.receiver in
          steps.leaves_other setting cs w refl h k p (Instance i) m rest takes (λ never. absurd (omega (arith, never)))
          (instance_says f g k i m).notes_are labels does.says does.given (λ z small x e. split (z == y) (λ _. IsFixed setting z x) (λ on.
          let same : z ≡ y = (Decides-eqb z y).0 on in
          let own : (instance_step f i m).node ≡ x = same_instance (instance_step f i m).node x (sym (left.own (Instance x))
          ∙ subst (λ q. get_or (world_next (node_step f) w (at k p)).nodes (suc (suc q)) (Instance x) ≡ Instance x) same (e (Instance x))) in
          record {
            limit = ap (λ q. q.limit) (sym own) ∙ does.limit ∙ fixed.limit ∙ ap (λ q. slice_index c.limits q) (sym same);
            marked = ap (λ q. q.marked) (sym own) ∙ does.marked ∙ fixed.marked ∙ ap (λ q. slice_index_or c.marked q false) (sym same);
          })
          (λ off. steps.fixed_other setting cs w refl h k p (Instance i) m rest takes z
          (λ e'. (let bad : z ≡ y = omega (arith, e') in let never : true ≡ false = sym ((Decides-eqb z y).1 bad) ∙ off in cc)) small x e))

    -- a choice that is taken
    pub judging_next : (k : ℕ) (m : Msg) (takes : Takes (node_step f) n w k p (node_of j.nodes k) m rest) → Label f g p k m → AreLabelled k m
        → Judging setting (cs ++ at k p ∷ []) (world_next (node_step f) w (at k p)) (world_next (node_step f) w (at k p)).log
    judging_next zero m takes labelled labels =
        steps.leaves setting cs w refl h 0 p (node_of j.nodes 0) m rest takes (at_switch m takes labelled labels)
    judging_next (suc zero) m takes labelled labels =
        steps.leaves setting cs w refl h 1 p (node_of j.nodes 1) m rest takes (at_controller m takes labelled)
    judging_next (suc (suc y)) m takes labelled labels =
        steps.leaves setting cs w refl h (suc (suc y)) p (node_of j.nodes (suc (suc y))) m rest takes (at_instance y m takes labelled labels)
