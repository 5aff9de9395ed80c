-- In every run the own count of an instance in its tally is the number of packets that it has processed, and no tally counts more of another.
use Rattle.run_headline.proofs.Words.{◌≡◌, ◌≢◌, ℕ, zero, suc, ◌+◌, ◌<◌, ◌≤◌, true, false, Option, Some, None, List, [], ◌∷◌, ◌++◌, length, get_or, slice_index}
use Rattle.run_headline.proofs.Words.{refl, sym, ap, ◌∙◌, subst, arith, ◌==◌, min, nat_tests, Chunk, FunctionLaws, Semantics, Msg, Note, instance_node}
use Rattle.run_headline.proofs.Words.{Operation, ControllerState, controller_step, switch_step, InstanceState, Step, instance_step, Choice, Network, Stepped}
use Rattle.run_headline.proofs.Words.{world_next, at, Taking, run_induction, Takes, taken_outcome, Each, Node, Instance, node_step, node_ready, Given, Joined}
use Rattle.run_headline.proofs.Words.{Label, node_of, Runs, runs_at_start, runs_next, start_world, all_fit, count_at_start, given, Setting, start, IsCourse}
use Rattle.run_headline.proofs.Words.{world_of}
use Rattle.std.proofs.Common.{Ok, replicate}
use Rattle.std.specs.FinMap as finite
use Rattle.std.proofs.lemmas.List.{length-replicate}
use Rattle.nf_function.proofs.MergeLemmas.{merge_laws}
use Rattle.state_chunk.specs.Format.{IsTally, tally_chunk}
use Rattle.state_chunk.specs.Reading.{tally_read}
use Rattle.state_chunk.proofs.TallyLemmas.{tally_read-tally_bytes}
use Rattle.nf_msgs.specs.declared.msg.Msg.TheVariants as msg
use Rattle.ctrl_node.specs.declared.operation.Operation.TheVariants.{Move, Copy, Share}
use Rattle.instance_worker.specs.Instance.{on_put_all, tally_put}
use Rattle.actor_net.proofs.OpeningWorlds.{opening_on_links}
use Rattle.actor_net.proofs.WeightLaws.{OnLinks, EachSent, on_links_after}
use Rattle.run_report.specs.proof_machines.proofs.unit.Labels.{each_map}
use Rattle.net_world.specs.Start.{first_instance, first_nodes}
use Rattle.run_report.specs.proof_outlines.proofs.joined.BesideRuns.{its_label, its_takes}
use Rattle.run_report.specs.proof_outlines.proofs.joined.CopyAnswers.{is_uncopied}
use Rattle.run_report.specs.proof_outlines.proofs.joined.CopySends.{BeginSo, TurnSo, controller_sent}
use Rattle.run_report.specs.proof_outlines.proofs.joined.PlaceNotes.{controller_uninstalled, switch_unprocessed, uninstalled_unprocessed}
use Rattle.run_report.specs.proof_outlines.proofs.joined.StartJoined.{instance_found}
use Rattle.run_report.specs.nf_net.proofs.ends.TallySteps.{IsTallyChunk, reads}
use Rattle.run_report.specs.nf_net.proofs.ends.TokenRuns.{HasEnough, TallyLabel, enough_at_start, enough_next}
use Rattle.run_headline.proofs.OwnTallies.{Counted, HasCount, NoTallies, NoTally, done_append, done_at, instance_counted, most, none_done}

-- no count is more than what the instance has processed
abbrev pub Below : List Note → List ℕ → Type 0
Below log slots = (j : ℕ) → slice_index slots j ≤ min (done_at j log) most

below_more : (log notes : List Note) (slots : List ℕ) → Below log slots → Below (log ++ notes) slots
below_more log notes slots h j = let was = h j in let all = done_append j log notes in omega (arith, was, all)

-- so it is of a tally that can be read of a chunk
abbrev Reads : {R : Type 0} → Semantics R → List Note → Chunk → Type 0
Reads f log chunk = (slots : List ℕ) → tally_read f.kind chunk.bytes ≡ Ok slots → Below log slots

abbrev Bounded : {R : Type 0} → Semantics R → List Note → ℕ → ℕ → Msg → Type 0
Bounded f log s r (msg.AllChunk op chunk) = 2 ≤ s → Reads f log chunk
Bounded f log s r (msg.PutAll op chunk) = s ≡ 1 → Reads f log chunk
Bounded f log s r m = Unit {0}

module _ {R : Type 0} (f : Semantics R) (log : List Note) where
  bounded_more : (notes : List Note) (s r : ℕ) (m : Msg) → Bounded f log s r m → Bounded f (log ++ notes) s r m
  bounded_more notes s r (msg.AllChunk op chunk) h = λ from slots is. below_more log notes slots (h from slots is)
  bounded_more notes s r (msg.PutAll op chunk) h = λ from slots is. below_more log notes slots (h from slots is)
  bounded_more notes s r m h = tt

  from_switch : (r : ℕ) (m : Msg) → Bounded f log 0 r m
  from_switch r (msg.AllChunk op chunk) = λ low. absurd (omega (arith, low))
  from_switch r (msg.PutAll op chunk) = λ one. cc
  from_switch r m = tt

  switch_sent : (sends : List (ℕ × Msg)) → EachSent (Bounded f log) 0 sends
  switch_sent [] = tt
  switch_sent (x ∷ xs) = (from_switch x.0 x.1, switch_sent xs)

  none_sent : (k : ℕ) (sends : List (ℕ × Msg)) → NoTallies sends → EachSent (Bounded f log) k sends
  none_sent k [] h = tt
  none_sent k (x ∷ xs) h = (by_message x.1 h.0, none_sent k xs h.1)
    where
      by_message : (m : Msg) → NoTally m → Bounded f log k x.0 m
      by_message (msg.AllChunk op chunk) none = absurd none
      by_message (msg.PutAll op chunk) none = absurd none
      by_message m none = tt

  -- what the controller puts
  abbrev PutsLow : Msg → Type 0
  PutsLow (msg.PutAll op chunk) = Reads f log chunk
  PutsLow m = Unit {0}

  other_puts : (m : Msg) → is_uncopied m ≡ true → PutsLow m
  other_puts (msg.PutAll op chunk) e = cc
  other_puts m e = tt

  from_controller : (r : ℕ) (m : Msg) → PutsLow m → Bounded f log 1 r m
  from_controller r (msg.AllChunk op chunk) h = λ low. absurd (omega (arith, low))
  from_controller r (msg.PutAll op chunk) h = λ _. h
  from_controller r m h = tt

  puts_sent : (sends : List (ℕ × Msg)) → Each (λ x. PutsLow x.1) sends → EachSent (Bounded f log) 1 sends
  puts_sent [] h = tt
  puts_sent (x ∷ xs) h = (from_controller x.0 x.1 h.0, puts_sent xs h.1)

  module _ (g : Given) (c : ControllerState) (p : ℕ) (m : Msg) (label : Label f g p 1 m) (low : Bounded f log p 1 m) where
    hands_low : (k : ℕ) (chunk : Chunk) → m ≡ msg.AllChunk k chunk → Reads f log chunk
    hands_low k chunk e = (subst (Bounded f log p 1) e low) (subst (Label f g p 1) e label).0

    turn_low : (o : Option Operation) → TurnSo PutsLow other_puts o m
    turn_low None = tt
    turn_low (Some (Move mv)) = tt
    turn_low (Some (Copy y)) = ((λ k chunks e. tt), hands_low)
    turn_low (Some (Share s)) = tt

    begin_low : BeginSo PutsLow other_puts m
    begin_low k source destination None e is = tt
    begin_low k source destination (Some filter) e is = tt

    controller_low : EachSent (Bounded f log) 1 (controller_step c p m).sends
    controller_low =
        puts_sent (controller_step c p m).sends (controller_sent PutsLow other_puts c p m (λ op e. turn_low (finite.get c.operations op)) begin_low)

module _ {F R : Type 0} (f : Semantics R) where
  -- the tally of an instance, which is at a node
  pub record IsTallied (log : List Note) (k : ℕ) (i : InstanceState F R) : Type 0 where
    pub node : instance_node i.index ≡ k
    pub count : HasCount f (done_at i.index log) i
    pub below : Below log i.tally.slots

  abbrev pub AtNode : List Note → ℕ → Node F R → Type 0
  AtNode log k (Instance i) = IsTallied log k i
  AtNode log k node = Unit {0}

  -- another node notes
  other_notes : (log notes : List Note) (k : ℕ) (node : Node F R) → ((j : ℕ) → instance_node j ≡ k → done_at j notes ≡ 0) → AtNode log k node
      → AtNode (log ++ notes) k node
  other_notes log notes k (Instance i) none h = record {
    node = h.node;
    count = record {
      low = h.count.low;
      own = (let own = h.count.own in let all = done_append i.index log notes in let zero_is = none i.index h.node in omega (arith, own, all, zero_is));
    };
    below = below_more log notes i.tally.slots h.below;
  }
  other_notes log notes k node none h = tt

  -- a step of the instance
  module _ (log : List Note) (k p : ℕ) (i : InstanceState F R) (h : IsTallied log k i) where
    abbrev Left : Step F R → Type 0
    Left did = IsTallied (log ++ did.notes) k did.node
        × (((j : ℕ) → (j == i.index) ≡ false → done_at j did.notes ≡ 0) × EachSent (Bounded f (log ++ did.notes)) k did.sends)

    counted_left : (did : Step F R) → Counted f (done_at i.index log) i did → Left did
    counted_left did c =
        let index = c.index in
        let low = h.count.low in
        let all = done_append i.index log did.notes in
        let own : slice_index did.node.tally.slots i.index ≡ min (done_at i.index (log ++ did.notes)) most = (let is = c.own in omega (arith, is, all)) in (
          record {
            node = ap instance_node index ∙ h.node;
            count = record {
              low = omega (arith, low, index, c.long);
              own = subst (λ x. slice_index did.node.tally.slots x ≡ min (done_at x (log ++ did.notes)) most) (sym index) own;
            };
            below = λ j. elim (j == i.index) as (λ b. (j == i.index) ≡ b → slice_index did.node.tally.slots j ≤ min (done_at j (log ++ did.notes)) most) [
              | true ↦ λ on. (let same : i.index ≡ j = grind (arith, nat_tests, on) in
                  subst (λ x. slice_index did.node.tally.slots x ≤ min (done_at x (log ++ did.notes)) most) same (omega (arith, own)))
              | false ↦ λ off. (let was = below_more log did.notes i.tally.slots h.below j in let is = c.others j off in omega (arith, was, is))
            ] refl;
          },
          (c.notes, none_sent f (log ++ did.notes) k did.sends c.sends),
        )

    -- it gives its tally
    given_left : (op : ℕ) → IsTally i.tally.slots → Left (instance_step f i (msg.GetAll op))
    given_left op tally =
        let gives : Reads f (log ++ []) (tally_chunk f.kind i.tally.slots) = (λ slots is.
        let own : Ok i.tally.slots ≡ Ok slots = sym (tally_read-tally_bytes f.kind i.tally.slots tally) ∙ is in
        let it : i.tally.slots ≡ slots = cc in
        subst (Below (log ++ [])) it (below_more log [] i.tally.slots h.below)) in
        (other_notes log [] k (Instance i) (λ j is. refl) h, ((λ j off. refl), ((λ _. gives), tt)))

    -- it takes another
    taken_left : (slots : List ℕ) (op : ℕ) → IsTally i.tally.slots → IsTally slots → Below log slots → Left (tally_put i op (Ok slots))
    taken_left slots op tally other low =
        let same : length i.tally.slots ≡ length slots = tally.size ∙ sym other.size in
        let index = h.count.low in (
          record {
            node = h.node;
            count = record {
              low = omega (arith, merge_laws.slots i.tally.slots slots same, index);
              own = (let is = merge_laws.greater i.tally.slots slots same i.index in let own = h.count.own in let less = low i.index in
                  let all = done_append i.index log [] in omega (arith, is, own, less, all));
            };
            below = λ j. (let is = merge_laws.greater i.tally.slots slots same j in let own = h.below j in let less = low j in
                let all = done_append j log [] in omega (arith, is, own, less, all));
          },
          ((λ j off. refl), (tt, tt)),
        )

-- what each world of a run has
pub record Tallied {F R : Type 0} (f : Semantics R) (n : ℕ) (w : Network (Node F R) Msg Note) : Type 0 where
  pub way : OnLinks (Bounded f w.log) w
  pub at_nodes : (k : ℕ) → k < n → (d : Node F R) → AtNode f w.log k (get_or w.nodes k d)

module _ {F R : Type 0} (f : Semantics R) (g : Given) (n : ℕ) (w : Network (Node F R) Msg Note) (j : Joined f g n w) where
  abbrev step : Node F R → ℕ → Msg → Stepped (Node F R) Msg Note
  step = node_step f

  module _ (p : ℕ) (m : Msg) (rest : List Msg) (h : Tallied f n w) where
    -- a node has taken a message
    tallied_after : (k : ℕ) (takes : Takes step n w k p (node_of j.nodes k) m rest)
        → AtNode f (w.log ++ (step (node_of j.nodes k) p m).notes) k (step (node_of j.nodes k) p m).node
        → ((i : ℕ) → instance_node i ≢ k → done_at i (step (node_of j.nodes k) p m).notes ≡ 0)
        → EachSent (Bounded f (w.log ++ (step (node_of j.nodes k) p m).notes)) k (step (node_of j.nodes k) p m).sends → Tallied f n (world_next step w (at k p))
    tallied_after k takes own none sent =
        let did = step (node_of j.nodes k) p m in
        let log = w.log ++ did.notes in
        let left = taken_outcome step n w k p (node_of j.nodes k) m rest takes in
        let after = world_next step w (at k p) in
        let before : OnLinks (Bounded f log) w = (λ s r hs hr. each_map (bounded_more f w.log did.notes s r) _ (h.way s r hs hr)) in
        record {
          way = subst (λ l. OnLinks (Bounded f l) after) (sym left.log)
              (on_links_after (Bounded f log) step n w k p (node_of j.nodes k) m rest takes before sent);
          at_nodes = λ i low d. subst (λ l. AtNode f l i (get_or after.nodes i d)) (sym left.log)
              (elim (i == k) as (λ b. (i == k) ≡ b → AtNode f log i (get_or after.nodes i d)) [
                | true ↦ λ on. (let same : i ≡ k = grind (arith, nat_tests, on) in
                    subst (λ y. AtNode f log y (get_or after.nodes y d)) (sym same) (subst (AtNode f log k) (sym (left.own d)) own))
                | false ↦ λ off. (let apart : i ≢ k = grind (arith, nat_tests, off) in
                    subst (AtNode f log i) (sym (left.others i d apart))
                    (other_notes f w.log did.notes i (get_or w.nodes i d) (λ x is. none x (λ same. apart (sym is ∙ same))) (h.at_nodes i low d)))
              ] refl);
        }

    low_at : (k : ℕ) (takes : Takes step n w k p (node_of j.nodes k) m rest) → Bounded f w.log p k m
    low_at k takes = (subst (λ ms. Each (Bounded f w.log p k) ms) takes.waits
        (h.way p k (let c = takes.count in rw c takes.sender) (let c = takes.count in rw c takes.receiver))).0

    at_instance : (i : ℕ) (takes : Takes step n w (suc (suc i)) p (node_of j.nodes (suc (suc i))) m rest)
        → IsTallied f w.log (suc (suc i)) (j.nodes.instance (suc (suc i)))
    at_instance i takes = subst (AtNode f w.log (suc (suc i))) (j.nodes_are (suc (suc i)) takes.receiver (node_of j.nodes (suc (suc i))))
        (h.at_nodes (suc (suc i)) takes.receiver (node_of j.nodes (suc (suc i))))

    module _ (e : HasEnough f n w) where
      its_tally : (i : ℕ) (takes : Takes step n w (suc (suc i)) p (node_of j.nodes (suc (suc i))) m rest) → IsTally (j.nodes.instance (suc (suc i))).tally.slots
      its_tally i takes = subst OfNode (j.nodes_are (suc (suc i)) takes.receiver (node_of j.nodes (suc (suc i))))
          (e.tallies (suc (suc i)) takes.receiver (node_of j.nodes (suc (suc i))))
        where
          OfNode : Node F R → Type 0
          OfNode (Instance x) = IsTally x.tally.slots
          OfNode node = Unit {0}

      instance_left : (i : ℕ) (takes : Takes step n w (suc (suc i)) p (node_of j.nodes (suc (suc i))) m rest) → Label f g p (suc (suc i)) m
          → Left f w.log (suc (suc i)) p (j.nodes.instance (suc (suc i))) (at_instance i takes) (instance_step f (j.nodes.instance (suc (suc i))) m)
      unfolding on_put_all
      instance_left i takes label = by_message m label (low_at (suc (suc i)) takes) tally_label
        where
          tally_label : TallyLabel f p (suc (suc i)) m
          tally_label = (subst (λ ms. Each (TallyLabel f p (suc (suc i))) ms) takes.waits
              (e.way p (suc (suc i)) (let c = takes.count in rw c takes.sender) (let c = takes.count in rw c takes.receiver))).0

          by_message : (y : Msg) → Label f g p (suc (suc i)) y → Bounded f w.log p (suc (suc i)) y → TallyLabel f p (suc (suc i)) y
              → Left f w.log (suc (suc i)) p (j.nodes.instance (suc (suc i))) (at_instance i takes) (instance_step f (j.nodes.instance (suc (suc i))) y)
          by_message (msg.GetAll op) from low tally =
              given_left f w.log (suc (suc i)) p (j.nodes.instance (suc (suc i))) (at_instance i takes) op (its_tally i takes)
          by_message (msg.PutAll op chunk) from low tally = put op chunk (low from.0) (tally from.0)
            where
              put : (op : ℕ) (chunk : Chunk) → Reads f w.log chunk → IsTallyChunk f chunk
                  → Left f w.log (suc (suc i)) p (j.nodes.instance (suc (suc i))) (at_instance i takes)
                  (instance_step f (j.nodes.instance (suc (suc i))) (msg.PutAll op chunk))
              put op chunk low is = subst (λ r. Left f w.log (suc (suc i)) p (j.nodes.instance (suc (suc i))) (at_instance i takes)
                  (tally_put (j.nodes.instance (suc (suc i))) op r))
                  (sym (reads f chunk is)) (taken_left f w.log (suc (suc i)) p (j.nodes.instance (suc (suc i))) (at_instance i takes) is.slots op
                  (its_tally i takes) is.tally (low is.slots (reads f chunk is)))
          by_message y from low tally = counted_left f w.log (suc (suc i)) p (j.nodes.instance (suc (suc i))) (at_instance i takes)
              (instance_step f (j.nodes.instance (suc (suc i))) y)
              (instance_counted f (done_at (j.nodes.instance (suc (suc i))).index w.log) (j.nodes.instance (suc (suc i))) y refl (at_instance i takes).count)

      after_step : (k : ℕ) (takes : Takes step n w k p (node_of j.nodes k) m rest) → Label f g p k m → Tallied f n (world_next step w (at k p))
      after_step zero takes label =
          let did = switch_step j.nodes.switch m in
          tallied_after 0 takes tt (λ i _. none_done i did.notes (switch_unprocessed j.nodes.switch m)) (switch_sent f (w.log ++ did.notes) did.sends)
      after_step (suc zero) takes label =
          let did = controller_step j.nodes.controller p m in
          let sent = controller_low f w.log g j.nodes.controller p m label (low_at 1 takes) in
          tallied_after 1 takes tt (λ i _. none_done i did.notes (uninstalled_unprocessed did.notes (controller_uninstalled j.nodes.controller p m)))
          (sent_more did.sends did.notes sent)
        where
          sent_more : (sends : List (ℕ × Msg)) (notes : List Note) → EachSent (Bounded f w.log) 1 sends → EachSent (Bounded f (w.log ++ notes)) 1 sends
          sent_more [] notes h = tt
          sent_more (x ∷ xs) notes h = (bounded_more f w.log notes 1 x.0 x.1 h.0, sent_more xs notes h.1)
      after_step (suc (suc i)) takes label =
          let left = instance_left i takes label in
          let here = (at_instance i takes).node in
          tallied_after (suc (suc i)) takes left.0
          (λ x apart. left.1.0 x (let off : (x == (j.nodes.instance (suc (suc i))).index) ≡ false = not_it x apart here in off)) left.1.1
        where
          not_it : (x : ℕ) → instance_node x ≢ suc (suc i) → instance_node (j.nodes.instance (suc (suc i))).index ≡ suc (suc i)
              → (x == (j.nodes.instance (suc (suc i))).index) ≡ false
          not_it x apart here = elim (x == (j.nodes.instance (suc (suc i))).index) as (λ b. (x == (j.nodes.instance (suc (suc i))).index) ≡ b → b ≡ false) [
            | true ↦ λ on.
                (let same : x ≡ (j.nodes.instance (suc (suc i))).index = grind (arith, nat_tests, on) in absurd (apart (ap instance_node same ∙ here)))
            | false ↦ λ _. refl
          ] refl

-- a tally of zeros
zero_at : (n i : ℕ) → slice_index (replicate n 0) i ≡ 0
zero_at zero i = refl
zero_at (suc n) zero = refl
zero_at (suc n) (suc i) = zero_at n i

module _ {F R : Type 0} (setting : Setting F R) where
  open setting use {function as f, laws, alloc, config as c, items, is_input as is}

  abbrev first : Network (Node F R) Msg Note
  first = start setting

  abbrev nodes : ℕ
  nodes = length c.names + 2

  first_tallied : (i : ℕ) → i < 16 → IsTallied {F = F} {R = R} f [] (suc (suc i)) (first_instance alloc c i)
  first_tallied i low = record {
    node = omega arith;
    count = record { low = (let long = length-replicate {A = ℕ} 16 0 in omega (arith, low, long)); own = (let none = zero_at 16 i in omega (arith, none)) };
    below = λ j. (let none = zero_at 16 j in omega (arith, none));
  }

  items_way : (ms : List Msg) → Each (Bounded f [] 0 0) ms
  items_way [] = tt
  items_way (m ∷ ms) = (from_switch f [] 0 m, items_way ms)

  tallied_at_start : Tallied f nodes first
  tallied_at_start =
      record {
        way = opening_on_links Note (first_nodes {F = F} {R = R} alloc c) items (Bounded f []) (omega (arith, count_at_start setting)) (items_way items);
        at_nodes = first_at;
      }
    where
      first_at : (k : ℕ) → k < nodes → (d : Node F R) → AtNode f [] k (get_or (first_nodes alloc c) k d)
      first_at zero low d = tt
      first_at (suc zero) low d = tt
      first_at (suc (suc i)) low d =
          let there : i < length c.names = omega (arith, low) in
          subst (AtNode f [] (suc (suc i))) (sym (instance_found setting (length c.names) i d there)) (first_tallied i (omega (arith, is.is_config.few, there)))

  abbrev AllOf : Network (Node F R) Msg Note → Type 0
  AllOf w = Runs setting w × (HasEnough f nodes w × Tallied f nodes w)

  tallied_next : (w : Network (Node F R) Msg Note) (k : Choice) → Taking node_ready (node_step f) nodes w k → AllOf w
      → Tallied f nodes (world_next (node_step f) w k)
  tallied_next w k t h =
      let g : Given = given setting in
      let fitting = all_fit setting in
      after_step f g nodes w h.0.joined k.port t.message t.rest h.1.1 h.1.0 k.node
      (its_takes f laws g fitting nodes refl w k t h.0.joined h.0.beside) (its_label f laws g fitting nodes refl w k t h.0.joined h.0.beside)

  pub run_tallied : (cs : List Choice) → IsCourse setting cs → Tallied f nodes (world_of setting cs)
  run_tallied cs run_is = it.1.1
    where
      it : AllOf (world_of setting cs)
      it = run_induction node_ready (node_step f) nodes (λ _ w. AllOf w) first (λ _ w k next h. (
        runs_next setting w k next.taking h.0,
        (enough_next setting w k next.taking h.0 h.1.0, tallied_next w k next.taking h),
      ))
          (start_world setting) (count_at_start setting) (runs_at_start setting, (enough_at_start setting, tallied_at_start)) cs run_is
