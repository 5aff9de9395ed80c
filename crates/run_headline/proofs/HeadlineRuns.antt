-- The headline of every completed run.
use Rattle.run_headline.proofs.Words.{◌≡◌, ℕ, zero, suc, ◌+◌, ◌<◌, Bool, true, false, Option, Some, None, List, [], ◌∷◌, length, map, get_or, refl, sym, ap}
use Rattle.run_headline.proofs.Words.{◌∙◌, arith, if◌then◌else◌, filter_map, option_to_list, slice_get, zip, filter, count_by, flat_map, list_any, sum_by}
use Rattle.run_headline.proofs.Words.{bytes_eq, length-map, Packet, kept_after, Msg, Note, instance_node, InstanceState}
use Rattle.run_headline.proofs.Words.{Network, run, run_world, Node, Instance, times, packet_numbered, packets, answer_in, node_ready}
use Rattle.run_headline.proofs.Words.{node_step, numbered_times, live_at, standby_in, is_loose, NamedInstance, by_number, by_unit, named_records}
use Rattle.run_headline.proofs.Words.{instance_under, named_instances, node_of, all_fit, count_at_start, run_beside, start_world, Headline, is_covered}
use Rattle.run_headline.proofs.Words.{packets_of, record_after, records_of, Subject, lines, subject}
use Rattle.std.specs.FinMap as finite
use Rattle.nf_function.specs.declared.unit.Unit as units
use Rattle.net_world.specs.declared.node.Node.TheVariants.{Switch, Controller}
use Rattle.net_world.specs.Fold as folds
use Rattle.net_world.specs.Records.{live_in}
use Rattle.run_report.specs.nf_net.proofs.PacketCounts.{all_done}
use Rattle.run_report.specs.Lines.{instance_in}
use Rattle.run_report.specs.proof_outlines.proofs.joined.Joined.{Nodes}
use Rattle.run_headline.proofs.AnswerCauses.{answers_true}
use Rattle.run_headline.proofs.CoveredUnits.{uncovered}
use Rattle.run_headline.proofs.FoundNumbers.{all_found}
use Rattle.run_headline.proofs.LineNumbers.{any_own, dones_times, has_some, none_both, one_kept}
use Rattle.run_headline.proofs.SummaryCounts.{counts_each, names_under}
use Rattle.run_headline.proofs.UnitOutputs.{folds_same, mine, part, processed_all, tests_agree, unit_outputs}
use Rattle.run_headline.proofs.UnitStates.{each_kept, kept_nth, kept_of, live_nth, live_of, none_live, nothing, one_live, sorted_kept, under_names}
use Rattle.run_headline.proofs.CompletedRuns.{CompletedRun, world_of, start}

-- The nodes of a world: a switch, a controller, and instances.
module _ {F R : Type 0} where
  pub record AreNodes (nodes : List (Node F R)) (count : ℕ) : Type 0 where
    pub instances : List (InstanceState F R)
    pub many : length instances ≡ count
    pub in_order : filter_map instance_in nodes ≡ instances
    pub lives : (u : units.Unit) (i : ℕ) → live_in u (slice_get nodes (instance_node i)) ≡ live_nth u instances i
    pub stands : (u : units.Unit) (i : ℕ) → standby_in u (slice_get nodes (instance_node i)) ≡ kept_nth u false instances i
    pub there : (i : ℕ) (x : InstanceState F R) → slice_get instances i ≡ Some x → (d : Node F R) → get_or nodes (suc (suc i)) d ≡ Instance x

  record AreInstances (rest : List (Node F R)) : Type 0 where
    instances : List (InstanceState F R)
    are : rest ≡ map Instance instances

  instances_from : (g : ℕ → InstanceState F R) (rest : List (Node F R)) → ((k : ℕ) → k < length rest → (d : Node F R) → get_or rest k d ≡ Instance (g k))
      → AreInstances rest
  instances_from g [] each = record { instances = []; are = refl }
  instances_from g (x ∷ rest) each =
      let more = instances_from (λ k. g (suc k)) rest (λ k within d. each (suc k) (omega (arith, within)) d) in
      record { instances = g 0 ∷ more.instances; are = ap (λ y. y ∷ rest) (each 0 (omega arith) x) ∙ ap (λ l. Instance (g 0) ∷ l) more.are }

  picked : (is : List (InstanceState F R)) → filter_map instance_in (map Instance is) ≡ is
  picked [] = refl
  picked (i ∷ is) = ap (λ l. i ∷ l) (picked is)

  lives_nth : (u : units.Unit) (is : List (InstanceState F R)) (k : ℕ) → live_in u (slice_get (map Instance is) k) ≡ live_nth u is k
  lives_nth u [] k = refl
  lives_nth u (i ∷ is) zero = refl
  lives_nth u (i ∷ is) (suc k) = lives_nth u is k

  stands_nth : (u : units.Unit) (is : List (InstanceState F R)) (k : ℕ) → standby_in u (slice_get (map Instance is) k) ≡ kept_nth u false is k
  stands_nth u [] k = refl
  stands_nth u (i ∷ is) zero = refl
  stands_nth u (i ∷ is) (suc k) = stands_nth u is k

  -- what is read at an instance's node
  nth_node : {X : Type 0} (g : Option (Node F R) → X) (s c : Node F R) (is : List (InstanceState F R)) (i : ℕ)
      → g (slice_get (s ∷ c ∷ map Instance is) (instance_node i)) ≡ g (slice_get (map Instance is) i)
  nth_node g s c is i = let node : instance_node i ≡ suc (suc i) = omega arith in ap (λ k. g (slice_get (s ∷ c ∷ map Instance is) k)) node

  found_nth : (is : List (InstanceState F R)) (k : ℕ) (x : InstanceState F R) → slice_get is k ≡ Some x → (d : Node F R)
      → get_or (map Instance is) k d ≡ Instance x
  found_nth [] k x found d = cc
  found_nth (i ∷ is) zero x found d = let same : i ≡ x = cc in ap Instance same
  found_nth (i ∷ is) (suc k) x found d = found_nth is k x found d

  pub nodes_from : (x : Nodes F R) (nodes : List (Node F R)) (count : ℕ) → length nodes ≡ count + 2 → ((k : ℕ) → k < count + 2 → (d : Node F R)
      → get_or nodes k d ≡ node_of x k) → AreNodes nodes count
  nodes_from x [] count long each = absurd (omega (arith, long))
  nodes_from x (a ∷ []) count long each = absurd (omega (arith, long))
  nodes_from x (a ∷ b ∷ rest) count long each =
      let switch : a ≡ Switch x.switch = each 0 (omega arith) a in
      let controller : b ≡ Controller x.controller = each 1 (omega arith) a in
      let are = instances_from (λ k. x.instance (suc (suc k))) rest (λ k within d. each (suc (suc k)) (omega (arith, within, long)) d) in
      let whole : a ∷ b ∷ rest ≡ Switch x.switch ∷ Controller x.controller ∷ map Instance are.instances = λ i. switch i ∷ controller i ∷ are.are i in
      record {
        instances = are.instances;
        many = (let same = ap length are.are ∙ length-map are.instances _ in omega (arith, same, long));
        in_order = ap (filter_map instance_in) whole ∙ picked are.instances;
        lives = λ u i. ap (λ l. live_in u (slice_get l (instance_node i))) whole
            ∙ nth_node (live_in u) (Switch x.switch) (Controller x.controller) are.instances i ∙ lives_nth u are.instances i;
        stands = λ u i. ap (λ l. standby_in u (slice_get l (instance_node i))) whole
            ∙ nth_node (standby_in u) (Switch x.switch) (Controller x.controller) are.instances i ∙ stands_nth u are.instances i;
        there = λ i y found d. ap (λ l. get_or l (suc (suc i)) d) whole ∙ found_nth are.instances i y found d;
      }

module _ {F R : Type 0} (completed : CompletedRun F R) where
  open completed use {setting, choices, is}
  open setting use {function as f, config as c, items}

  abbrev first : Network (Node F R) Msg Note
  first = start setting

  abbrev pub w : Network (Node F R) Msg Note
  w = world_of setting choices

  abbrev of : Subject R
  of = subject f c items

  abbrev pub there : List (NamedInstance R)
  there = named_instances c.names w.nodes

  pub nodes : AreNodes w.nodes (length c.names)
  nodes =
      let joined = (run_beside setting choices is.is_run).joined in
      let reached = run_world node_ready (node_step f) (length c.names + 2) first (start_world setting)
      (count_at_start setting) choices is.is_run in
      nodes_from joined.nodes w.nodes (length c.names) reached.1 joined.nodes_are

  module _ (u : units.Unit) where
    abbrev went : List ℕ
    went = folds.processed_of f c items u w.log

    abbrev mine_u : ℕ → Bool
    mine_u = mine f c items u

    abbrev part_u : Packet → Bool
    part_u = part f c items u

    abbrev kept : Option R
    kept = folds.fold f c items None went

    live_is : (i : ℕ) → live_at w i u ≡ live_nth u nodes.instances i
    live_is i = nodes.lives u i

    -- what is live of the unit is what one instance keeps of what was processed
    live_kept : (o : Option R) → kept ≡ o → flat_map (live_of u) nodes.instances ≡ option_to_list o
    live_kept None e = none_live u nodes.instances (λ k. nothing (live_nth u nodes.instances k) (λ s h.
        let there = is.completed.records_are u k s (live_is k ∙ h) in
        let wrong : None ≡ Some s = sym e ∙ there in cc))
    live_kept (Some r) e =
        let has = is.completed.has_record u r e in
        one_live u nodes.instances has.0 r (sym (live_is has.0) ∙ has.1) (λ l s h. is.promises.one_record u l has.0 s r (live_is l ∙ h) has.1)

    unsorted : kept_of u (flat_map (named_records true) there) ≡ option_to_list kept
    unsorted =
        each_kept u there ∙ ap (λ l. flat_map (λ i. option_to_list (finite.get i.table.live u)) (map instance_under (zip c.names l))) nodes.in_order
        ∙ under_names u c.names nodes.instances nodes.many ∙ live_kept kept refl

    records_kept : records_of of u (by_unit true there) ≡ option_to_list kept
    records_kept = sorted_kept u (flat_map (named_records true) there) ∙ unsorted

    -- a packet leaves a record
    some_step : (o : Option R) (n : ℕ) → (r : R) × (kept_after f c.site o (packet_numbered items n) ≡ Some r)
    some_step o n = ((f.stepped c.site o (packet_numbered items n)).kept, rw ((all_fit setting n).transport) refl)

    abbrev own : List Packet
    own = packets_of of u

    some_came : has_some went ≡ list_any part_u (packets items)
    some_came =
        none_both went (filter mine_u (map (λ p. p.number) (packets items))) (λ p. is.completed.each_once u p
        ∙ ap (λ l. times p (filter mine_u l)) is.completed.all_came)
        ∙ any_own mine_u part_u (packets items) (tests_agree f c items u (packets items) (all_found (λ p. p.number) 0 (packets items) is.is_input.numbers))

    one_state : length (records_of of u (by_unit true there)) ≡ (if list_any part_u (packets items) then 1 else 0)
    one_state =
        ap length records_kept ∙ one_kept (λ o n. kept_after f c.site o (packet_numbered items n)) some_step went ∙ ap (λ b. if b then 1 else 0) some_came

    module _ (off : is_covered of (by_number answer_in w.log) u ≡ false) where
      in_turn : is_loose c items u w.log ≡ false
      in_turn = uncovered f c items w.log is.promises.answers is.answers u off

      record_is : records_of of u (by_unit true there) ≡ option_to_list (record_after of own)
      record_is = records_kept ∙ ap option_to_list (ap (folds.fold f c items None) (processed_all setting w is.promises is.completed u in_turn)
          ∙ folds_same f c items u None (packets items) (all_found (λ p. p.number) 0 (packets items) is.is_input.numbers))

  -- what it tells of the instances is what its lines say
  pub named : map (λ x. x.name) there ≡ c.names
  named = ap (λ l. map (λ x. x.name) (map instance_under (zip c.names l))) nodes.in_order ∙ names_under c.names nodes.instances nodes.many

  pub lives : (name : List ℕ)
      → sum_by (λ i. if bytes_eq i.name name then finite.len i.table.live else 0) there ≡ count_by (λ s. bytes_eq s.name name) (by_unit true there)
  lives name = counts_each name there

  pub headline : Headline of (lines f c items w)
  headline = record {
    outs = is.outs;
    dones = λ n. dones_times n w.log ∙ all_done f c items w.log is.completed.each_once n ∙ ap (times n) is.completed.all_came
        ∙ sym (numbered_times (λ p. p.number) n (packets items));
    answers = answers_true completed;
    one_state = one_state;
    outputs = λ u off. unit_outputs setting w is.promises is.completed u (in_turn u off) is.outs;
    record_is = record_is;
  }
