-- In every run what a copy of units brings is known on each link; and where the copy is answered that it is done, what its source had, or what is newer,
-- stood by at its destination.
use Rattle.nf_net.proofs.Words.{◌≡◌, ℕ, zero, suc, ◌+◌, ◌≤◌, true, false, inl, inr, Some, None, List, [], ◌∷◌, ◌++◌, append-nil, length, refl, sym, ap, ◌∙◌}
use Rattle.nf_net.proofs.Words.{subst, arith, ◌==◌, slice_get, nat_tests, slice_get-get_or, Filter, Chunk, Semantics, Msg, Note, units_in, instance_node}
use Rattle.nf_net.proofs.Words.{InstanceState, selected_chunks, instance_step, switch_step, Choice, Network, run, world_next, at, opening_on_links, run_more}
use Rattle.nf_net.proofs.Words.{Takes, taken_outcome, EachSent, OnLinks, on_links_after, total_after, Config, Node, answers_of, is_begun, IsFront, processed_of}
use Rattle.nf_net.proofs.Words.{is_item, most_counted, job_of, node_step, live_at, live_in, StandsBy, first_nodes, exported_for, before_export}
use Rattle.nf_net.proofs.Words.{answers_of-append, all_each, Given, Label, Joined, node_of, given, count_at_start, Unit, Done, Instance, UnitCopy, IsOrdered}
use Rattle.nf_net.proofs.Words.{Runs, Setting, start, IsCourse, world_of}
use Rattle.std.specs.FinMap as finite
use Rattle.nf_function.specs.Units as filters
use Rattle.instance_worker.specs.Instance.{on_get}
use Rattle.actor_net.proofs.WeightLaws.{Each}
use Rattle.proof_machines.proofs.unit.Labels as labels
use Rattle.proof_outlines.proofs.joined.CopyAnswers.{IsAnswer, get_sent, standby_sent, put_all_sent, other_none}
use Rattle.nf_net.proofs.RunWords.{next_in_run, runs_joined, none_answered, other_not_answered, switch_hands, instance_says, once, run_keeps, each_item}
use Rattle.nf_net.proofs.RunWords.{each_sent}
use Rattle.nf_net.proofs.CopyTurns.{all_none, controller_did}
use Rattle.nf_net.proofs.CopyFacts.{AreGiven, HasGiven, WasKept, Told, given_still, kept_still, links_still}
use Rattle.nf_net.proofs.CopyGives.{given_spell, to_give}
use Rattle.nf_net.proofs.CopyKept.{kept_at}
use Rattle.nf_net.proofs.CountedRoom.{room}
use Rattle.nf_net.proofs.JudgedRuns.{run_judging}
use Rattle.nf_net.proofs.JudgedSteps.{OneOf, In_first, In_second, one_of, none_once}
use Rattle.nf_net.proofs.JudgedTables.{used_few}
use Rattle.nf_net.proofs.StandbyFronts.{went_more}
use Rattle.nf_net.proofs.VerdictLemmas.{none_exported, exported_new, before_export_new}

get_notes : {F R : Type 0} (f : Semantics R) (i : InstanceState F R) (op : ℕ) (filter : Filter)
    → (instance_step f i (Msg.Get op filter)).notes ≡ Note.Exported i.index op (units_in (selected_chunks f i filter)) ∷ []
unfolding on_get
get_notes f i op filter = refl

-- The switch and the input tell nothing of copies.
module _ {F R : Type 0} (f : Semantics R) (c : Config) (items : List Msg) (g : Given) (first : Network (Node F R) Msg Note) (cs : List Choice)
    (log : List Note) where
  switch_told : (r : ℕ) (m : Msg) → Label f g 0 r m → Told f c items first cs log 0 r m
  switch_told r (Msg.Get op filter) label = let never = label.0.0 in absurd (omega (arith, never))
  switch_told r (Msg.GetAll op) label = let never = label.0 in absurd (omega (arith, never))
  switch_told r (Msg.Chunks op chunks) label = let never = label.0.0 in absurd (omega (arith, never))
  switch_told r (Msg.AllChunk op chunk) label = let never = label.0 in absurd (omega (arith, never))
  switch_told r (Msg.Standby op chunks) label = let never = label.0.0 in absurd (omega (arith, never))
  switch_told r (Msg.PutAll op chunk) label = let never = label.0 in absurd (omega (arith, never))
  switch_told r (Msg.Kept op) label = let never = label.0 in absurd (omega (arith, never))
  switch_told r m label = tt

  switch_tells : (sends : List (ℕ × Msg)) → EachSent (Label f g) 0 sends → EachSent (Told f c items first cs log) 0 sends
  switch_tells = each_sent (Label f g) (Told f c items first cs log) 0 switch_told

  items_told : (ms : List Msg) → labels.Each (λ item. is_item item ≡ true) ms → Each (Told f c items first cs log 0 0) ms
  items_told = each_item (Told f c items first cs log 0 0) (λ p. tt) (λ k. tt) tt tt

module _ {F R : Type 0} (setting : Setting F R) where
  open setting use {function as f, laws, alloc, config as c, items, is_input as is}

  abbrev g : Given
  g = given setting

  abbrev first : Network (Node F R) Msg Note
  first = start setting

  abbrev Tells : List Choice → List Note → ℕ → ℕ → Msg → Type 0
  Tells = Told f c items first

  -- what is known after some choices
  pub record Copying (cs : List Choice) (w : Network (Node F R) Msg Note) : Type 0 where
    pub says : OnLinks (Tells cs w.log) w
    pub found : (copy : UnitCopy) → IsOrdered c items copy → answers_of copy.op w.log ≡ Done ∷ [] → WasKept f c items first cs w.log copy

  start_copying : Copying [] first
  start_copying = record {
    says = opening_on_links Note (first_nodes {F = F} {R = R} alloc c) items (Tells [] []) (let count = count_at_start setting in
        omega (arith, count)) (items_told f c items g first [] [] items (all_each (λ item. is_item item ≡ true) items is.only_items));
    found = λ copy of e. cc;
  }

  module _ (cs : List Choice) (r : Runs setting (world_of setting cs)) (k p : ℕ) (h : Copying cs (world_of setting cs)) where
    abbrev w : Network (Node F R) Msg Note
    w = world_of setting cs

    abbrev j : Joined f g (length c.names + 2) w
    j = r.joined

    abbrev later : List Choice
    later = cs ++ at k p ∷ []

    module _ (node : Node F R) (m : Msg) (rest : List Msg) (takes : Takes (node_step f) (length c.names + 2) w k p node m rest) where
      abbrev log : List Note
      log = w.log ++ (node_step f node p m).notes

      abbrev v : Network (Node F R) Msg Note
      v = world_next (node_step f) w (at k p)

      log_is : v.log ≡ log
      log_is = (taken_outcome (node_step f) (length c.names + 2) w k p node m rest takes).log

      -- what is known of the message
      was : Tells cs w.log p k m
      was = (subst (λ ms. Each (Tells cs w.log p k) ms) takes.waits
          (h.says p k (let count = takes.count in rw count takes.sender) (let count = takes.count in rw count takes.receiver))).0

      -- what the (node_step f) is to leave
      pub record Leaves : Type 0 where
        pub says : EachSent (Tells later log) k (node_step f node p m).sends
        pub found : (copy : UnitCopy) → IsOrdered c items copy → answers_of copy.op (node_step f node p m).notes ≡ Done ∷ []
            → WasKept f c items first later log copy

      leaves : Leaves → Copying later v
      leaves l = record {
        says = subst (λ q. OnLinks (Tells later q) v) (sym log_is) (on_links_after (Tells later log) (node_step f) (length c.names + 2) w k p node m rest takes
            (links_still f c items first cs (at k p) w.log (node_step f node p m).notes w h.says) l.says);
        found = λ copy of e. subst (λ q. WasKept f c items first later q copy) (sym log_is)
            (by_one copy of (one_of (answers_of copy.op w.log) (answers_of copy.op (node_step f node p m).notes) Done
            (sym (answers_of-append copy.op w.log (node_step f node p m).notes) ∙ ap (answers_of copy.op) (sym log_is) ∙ e)));
      }
        where
          by_one : (copy : UnitCopy) → IsOrdered c items copy → OneOf (answers_of copy.op w.log) (answers_of copy.op (node_step f node p m).notes) Done
              → WasKept f c items first later log copy
          by_one copy of (In_first x) = kept_still f c items first cs (at k p) w.log (node_step f node p m).notes copy (h.found copy of x)
          by_one copy of (In_second x) = l.found copy of x

      -- where nothing is answered
      other : ((op : ℕ) → answers_of op (node_step f node p m).notes ≡ []) → EachSent (Tells later log) k (node_step f node p m).sends → Leaves
      other none says = record { says = says; found = λ copy of e. (let never = sym (none copy.op) ∙ e in cc) }

  module _ (cs : List Choice) (run_is : IsCourse setting cs) (r : Runs setting (world_of setting cs)) (p : ℕ)
      (h : Copying cs (world_of setting cs)) (rest : List Msg) where
    at_switch : (m : Msg) → Label f g p 0 m → EachSent (Label f g) 0 (node_step f (node_of (j cs r 0 p h).nodes 0) p m).sends
        → (takes : Takes (node_step f) (length c.names + 2) (w cs r 0 p h) 0 p (node_of (j cs r 0 p h).nodes 0) m rest)
        → Leaves cs r 0 p h (node_of (j cs r 0 p h).nodes 0) m rest takes
    at_switch m label sent takes =
        let s = (j cs r 0 p h).nodes.switch in
        other cs r 0 p h (node_of (j cs r 0 p h).nodes 0) m rest takes
        (λ op. none_answered op (switch_step s m).notes (other_not_answered op (switch_step s m).notes (switch_hands f g s p m label).notes_are))
        (switch_tells f c items g first (cs ++ at 0 p ∷ []) (log cs r 0 p h (node_of (j cs r 0 p h).nodes 0) m rest takes) (switch_step s m).sends
        sent)

    at_controller : (m : Msg) → Label f g p 1 m → (takes : Takes (node_step f) (length c.names + 2) (w cs r 1 p h) 1 p (node_of (j cs r 1 p h).nodes 1) m rest)
        → Leaves cs r 1 p h (node_of (j cs r 1 p h).nodes 1) m rest takes
    at_controller m label takes =
        let x = j cs r 1 p h in
        let did = controller_did setting first cs (at 1 p) (w cs r 1 p h).log x.nodes.controller x.world.ops x.world.shares x.world.next p
        x.shown_is.controller m label (was cs r 1 p h (node_of x.nodes 1) m rest takes) in
        record { says = did.says; found = did.found }

    -- An instance.
    module _ (y : ℕ) where
      abbrev z : ℕ
      z = suc (suc y)

      abbrev x : Joined f g (length c.names + 2) (w cs r z p h)
      x = j cs r z p h

      abbrev i : InstanceState F R
      i = x.nodes.instance z

      abbrev notes_of : Msg → List Note
      notes_of m = (instance_step f i m).notes

      abbrev Known : Msg → ℕ → ℕ → Msg → Type 0
      Known m = Tells (cs ++ at z p ∷ []) ((w cs r z p h).log ++ notes_of m)

      abbrev TakesHere : Msg → Type 0
      TakesHere m = Takes (node_step f) (length c.names + 2) (w cs r z p h) z p (Instance i) m rest

      -- what a source gives
      module _ (op : ℕ) (filter : Filter) (takes : TakesHere (Msg.Get op filter))
          (sent : EachSent (Label f g) z (instance_step f i (Msg.Get op filter)).sends) where
        abbrev m : Msg
        m = Msg.Get op filter

        none_before : exported_for op (w cs r z p h).log ≡ None
        none_before =
            let weight = total_after (node_step f) (length c.names + 2) (w cs r z p h) z p (Instance i) m rest takes (once false op) in
            let none = none_once f g op false (length c.names + 2) z (node_step f (Instance i) p m).sends (λ never. absurd (omega (arith, never))) sent in
            let own : (op == op) ≡ true = grind (arith, nat_tests) in
            let one : once false op m ≡ 1 = rw own refl in
            let judging = run_judging setting cs run_is in
            let few = used_few (finite.get judging.controller.operations op) (is_begun op (w cs r z p h).log) false in
            none_exported op (w cs r z p h).log (omega (arith, weight, none, one, judging.once op false, few))

        there : slice_get (w cs r z p h).nodes (instance_node y) ≡ Some (Instance i)
        there =
            let number : instance_node y ≡ z = omega arith in
            subst (λ q. slice_get (w cs r z p h).nodes q ≡ Some (Instance i)) (sym number) (slice_get-get_or (w cs r z p h).nodes z (Instance i)
            (let small = takes.receiver in let count = takes.count in rw count small) ∙ ap Some (x.nodes_are z takes.receiver (Instance i)))

        gives : (copy : UnitCopy) → copy.op ≡ op → IsOrdered c items copy
            → AreGiven f c items first (cs ++ at z p ∷ []) ((w cs r z p h).log ++ notes_of m) copy (selected_chunks f i filter)
        gives copy same of =
            let it = was cs r z p h (Instance i) m rest takes copy same of in
            let us = units_in (selected_chunks f i filter) in
            let own : (op == op) ≡ true = grind (arith, nat_tests) in
            let noted = get_notes f i op filter in
            let log0 = (w cs r z p h).log in
            let given_now : exported_for op (Note.Exported i.index op us ∷ []) ≡ Some us = rw own refl in
            let units_are : exported_for op (log0 ++ notes_of m) ≡ Some us = exported_new op log0 (notes_of m) none_before ∙ ap (exported_for op) noted
            ∙ given_now in
            let none_before_now : before_export op (Note.Exported i.index op us ∷ []) ≡ [] = rw own refl in
            let before : before_export op (log0 ++ notes_of m) ≡ log0 = before_export_new op log0 (notes_of m) none_before
            ∙ ap (λ ns. log0 ++ before_export op ns) noted ∙ ap (λ ns. log0 ++ ns) none_before_now ∙ append-nil log0 in
            let has_begun : is_begun copy.op log0 ≡ true = ap (λ q. is_begun q log0) same ∙ it.2 in
            let here : instance_node y ≡ z = omega arith in
            let at_source : copy.source ≡ y = (let node = it.1 in omega (arith, node, here)) in
            let two = x.shown_is.instances z (omega arith) takes.receiver in
            record {
              by = record {
                before = cs;
                later = at z p ∷ [];
                whole = refl;
                to_give = to_give setting cs run_is copy of (h.found copy of) has_begun (ap (λ q. exported_for q log0) same ∙ none_before);
                rest = notes_of m;
                log_is = refl;
                given = us;
                given_is = ap (λ q. exported_for q (log0 ++ notes_of m)) same ∙ units_are;
                gave = ap (λ q. before_export q (log0 ++ notes_of m)) same ∙ before;
              };
              bring = λ u kept taken_so live. given_spell f laws i filter two.records.sound u kept (ap (λ q. filters.takes q u) it.0 ∙ taken_so)
                  (sym (ap (live_in u) there) ∙ ap (λ q. live_at (w cs r z p h) q u) (sym at_source) ∙ live);
            }

      -- what a destination keeps
      module _ (op : ℕ) (chunks : List Chunk) (takes : TakesHere (Msg.Standby op chunks)) (label : Label f g p z (Msg.Standby op chunks))
          (few : (u : Unit) → length (processed_of f c items u (world_next (node_step f) (w cs r z p h) (at z p)).log) ≤ most_counted) where
        abbrev q : Msg
        q = Msg.Standby op chunks

        keeps : (copy : UnitCopy) → copy.op ≡ op → IsOrdered c items copy
            → WasKept f c items first (cs ++ at z p ∷ []) ((w cs r z p h).log ++ notes_of q) copy
        unfolding given_still
        keeps copy same of =
            let it = was cs r z p h (Instance i) q rest takes copy same of in
            let by : HasGiven f c items first cs (w cs r z p h).log copy = it.1.by in
            let here : instance_node y ≡ z = omega arith in
            let at_destination : y ≡ copy.destination = (let node = it.0 in omega (arith, node, here)) in
            record {
              by = given_still f c items first cs (at z p) (w cs r z p h).log (notes_of q) copy by;
              until = cs ++ at z p ∷ [];
              since = [];
              whole = append-nil (cs ++ at z p ∷ []);
              stood = stood copy it.1 at_destination;
            }
          where
            stood : (copy : UnitCopy) (it : AreGiven f c items first cs (w cs r z p h).log copy chunks) → y ≡ copy.destination
                → (u : Unit) (kept : R) → filters.takes copy.filter u ≡ true → live_at (run (node_step f) it.by.before first) copy.source u ≡ Some kept
                → (now : StandsBy (job_of f c items) (world_of setting (cs ++ at z p ∷ [])) copy.destination u)
                × IsFront (processed_of f c items u (run (node_step f) it.by.before first).log) now.front
            stood copy it at_destination u kept taken_so live =
                let xs = processed_of f c items u (run (node_step f) it.by.before first).log in
                let folds = it.by.to_give.had u kept taken_so live in
                let front : IsFront xs (processed_of f c items u (w cs r z p h).log) = record {
                  rest = processed_of f c items u it.by.rest;
                  whole = sym (went_more f c items u (run (node_step f) it.by.before first).log it.by.rest) ∙ ap (processed_of f c items u) (sym it.by.log_is);
                } in
                let now = kept_at setting (length c.names + 2) (w cs r z p h) x y p op chunks rest takes label.1 u xs kept front folds
                (it.bring u kept taken_so live) (few u) in
                subst (λ d. (now : StandsBy (job_of f c items) (world_of setting (cs ++ at z p ∷ [])) d u) × IsFront xs now.front) at_destination (subst
                (λ a. (now : StandsBy (job_of f c items) a y u) × IsFront xs now.front) (run_more (node_step f) cs (at z p) first (w cs r z p h) refl) now)

      answer_told : (m : Msg) (op : ℕ) (sends : List (ℕ × Msg)) → ((copy : UnitCopy) → copy.op ≡ op → IsOrdered c items copy
          → WasKept f c items first (cs ++ at z p ∷ []) ((w cs r z p h).log ++ notes_of m) copy)
          → IsAnswer op sends → EachSent (Known m) z sends
      answer_told m op sends kept_so (inl none) = subst (λ xs. EachSent (Known m) z xs) (sym none) tt
      answer_told m op sends kept_so (inr one) = subst (λ xs. EachSent (Known m) z xs) (sym one) (kept_so, tt)

      tells : (m : Msg) → Label f g p z m → EachSent (Label f g) z (instance_step f i m).sends → (takes : TakesHere m)
          → ((u : Unit) → length (processed_of f c items u (world_next (node_step f) (w cs r z p h) (at z p)).log) ≤ most_counted)
          → EachSent (Known m) z (instance_step f i m).sends
      tells (Msg.Get op filter) label sent takes few =
          subst (λ xs. EachSent (Known (Msg.Get op filter)) z xs) (sym (get_sent f i op filter)) (gives op filter takes sent, tt)
      tells (Msg.Standby op chunks) label sent takes few = answer_told (Msg.Standby op chunks) op (instance_step f i (Msg.Standby op chunks)).sends
          (keeps op chunks takes label few) (standby_sent f i op chunks)
      tells (Msg.PutAll op chunk) label sent takes few = answer_told (Msg.PutAll op chunk) op (instance_step f i (Msg.PutAll op chunk)).sends
          (λ copy same of. absurd (was cs r z p h (Instance i) (Msg.PutAll op chunk) rest takes copy same of)) (put_all_sent f i op chunk)
      tells (Msg.GetAll op) label sent takes few = (λ copy same of. was cs r z p h (Instance i) (Msg.GetAll op) rest takes copy same of, tt)
      tells (Msg.Chunks op chunks) label sent takes few = tt
      tells (Msg.AllChunk op chunk) label sent takes few = tt
      tells (Msg.Kept op) label sent takes few = tt
      tells m label sent takes few =
          all_none setting first cs (at z p) (w cs r z p h).log (notes_of m) z (instance_step f i m).sends (other_none f i m refl)

      at_instance : (m : Msg) → Label f g p z m → EachSent (Label f g) z (instance_step f i m).sends → (takes : TakesHere m)
          → ((u : Unit) → length (processed_of f c items u (world_next (node_step f) (w cs r z p h) (at z p)).log) ≤ most_counted)
          → Leaves cs r z p h (Instance i) m rest takes
      at_instance m label sent takes few = other cs r z p h (Instance i) m rest takes
          (λ op. none_answered op (notes_of m) (other_not_answered op (notes_of m) (instance_says f g z i m).notes_are))
          (tells m label sent takes few)

    each_next : (k : ℕ) (m : Msg) (takes : Takes (node_step f) (length c.names + 2) (w cs r k p h) k p (node_of (j cs r k p h).nodes k) m rest)
        → Label f g p k m → EachSent (Label f g) k (node_step f (node_of (j cs r k p h).nodes k) p m).sends
        → ((u : Unit) → length (processed_of f c items u (world_next (node_step f) (w cs r k p h) (at k p)).log) ≤ most_counted)
        → Copying (cs ++ at k p ∷ []) (world_next (node_step f) (w cs r k p h) (at k p))
    each_next zero m takes label sent few = leaves cs r 0 p h (node_of (j cs r 0 p h).nodes 0) m rest takes (at_switch m label sent takes)
    each_next (suc zero) m takes label sent few = leaves cs r 1 p h (node_of (j cs r 1 p h).nodes 1) m rest takes (at_controller m label takes)
    each_next (suc (suc y)) m takes label sent few =
        leaves cs r (suc (suc y)) p h (node_of (j cs r (suc (suc y)) p h).nodes (suc (suc y))) m rest takes (at_instance y m label sent takes few)

  -- every run keeps it
  pub run_copying : (cs : List Choice) → IsCourse setting cs → Copying cs (world_of setting cs)
  run_copying = run_keeps setting Copying start_copying (λ ds ok d s h. each_next ds ok s.runs d.port h s.taking.rest d.node
      s.taking.message s.takes s.taken.label s.labels (room setting (world_next (node_step f) (world_of setting ds) d)
      (next_in_run setting (world_of setting ds) d s (runs_joined setting ds ok).in_turn)))
