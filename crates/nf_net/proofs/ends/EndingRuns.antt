-- In every run the input's end goes round: from the input to the controller, from there as the finish to the switch, from there as stops to the instances, and
-- back as their answers. So where no message is on a link, and nothing is in the input, all nodes have ended, if all is quiet at the controller.
use Rattle.nf_net.proofs.Words.{◌≡◌, ◌≢◌, inl, inr, ℕ, zero, suc, ◌+◌, ◌<◌, ◌≤◌, Bool, true, false, None, List, [], ◌∷◌, length, length-append, get_or, refl}
use Rattle.nf_net.proofs.Words.{sym, ap, ◌∙◌, subst, arith, if◌then◌else◌, ◌&&◌, ◌==◌, nat_tests, Decides-eqb, length-map, Each, each-append, Fits}
use Rattle.nf_net.proofs.Words.{FunctionLaws, Semantics, Msg, Note, instance_node, ControllerState, may_finish, controller_step, opened_controller, SwitchState}
use Rattle.nf_net.proofs.Words.{switch_step, InstanceState, instance_step, Choice, Network, reaches, world_next, queue_at, at, put_on_link, opening_weight}
use Rattle.nf_net.proofs.Words.{Takes, taken_outcome, weigh, total, total_after, Node, Switch, Controller, node_step, node_ended, first_nodes, first_switch}
use Rattle.nf_net.proofs.Words.{first_instance, first_instances, Given, Label, Joined, node_of, given, all_fit, Instance, split, Setting, start, IsCourse}
use Rattle.nf_net.proofs.Words.{world_of}
use Rattle.nf_net.proofs.RunWords.{own_controller, flag, run_keeps}
use Rattle.nf_net.proofs.answers.InstallCounts.{finish}
use Rattle.nf_net.proofs.answers.InstallNotes.{no_install_to}
use Rattle.proof_outlines.proofs.joined.Joined.{count}
use Rattle.net_world.specs.Length.{ends}
use Rattle.nf_net.proofs.ends.LinkWeights.{cell}
use Rattle.nf_net.proofs.ends.TallySteps.{over_by, StepLeaves}
use Rattle.nf_net.proofs.ends.TokenRuns.{each_at, HasEnough, its_leaves, run_enough}
use Rattle.nf_net.proofs.ends.EndSteps.{ending, stop, final, controller_ends, switch_ends}

-- how far the end has come
pub record HasEnding {F R : Type 0} (n : ℕ) (w : Network (Node F R) Msg Note) : Type 0 where
  pub switch : SwitchState
  pub switch_is : (d : Node F R) → get_or w.nodes 0 d ≡ Switch switch
  pub controller : ControllerState
  pub controller_is : (d : Node F R) → get_or w.nodes 1 d ≡ Controller controller
  pub many : length controller.stopped ≡ length controller.names
  pub came : 1 ≤ total ending w + flag controller.end_came
  pub quiet : may_finish controller ≡ false
  pub finished : controller.finish_sent ≡ true → 1 ≤ total finish w + flag switch.closed
  pub stops : switch.closed ≡ true → (i : ℕ) → suc (suc i) < n → (d : Node F R)
      → 1 ≤ weigh stop (queue_at w (at (suc (suc i)) 0)) + flag (node_ended (get_or w.nodes (suc (suc i)) d))
  pub finals : (i : ℕ) → suc (suc i) < n → (d : Node F R) → node_ended (get_or w.nodes (suc (suc i)) d) ≡ true
      → 1 ≤ weigh final (queue_at w (at 1 (suc (suc i)))) + flag (get_or controller.stopped i false)

-- what is still to come, or has come
carry_on : (lost before after : ℕ) (old new : Bool) → (1 ≤ lost → new ≡ true) → (old ≡ true → new ≡ true) → before ≤ after + lost → 1 ≤ before + flag old
    → 1 ≤ after + flag new
carry_on lost before after old true comes stays less was = omega arith
carry_on lost before after true false comes stays less was = let never : false ≡ true = stays refl in cc
carry_on zero before after false false comes stays less was = omega (arith, less, was)
carry_on (suc lost) before after false false comes stays less was = let never : false ≡ true = comes (omega arith) in cc

-- where an end goes
no_ending_to : {R : Type 0} (f : Semantics R) (g : Given) (p i : ℕ) (m : Msg) → Label f g p (suc (suc i)) m → ending m ≡ 0
no_ending_to f g p i Msg.InEnd label = let never = label.1 in cc
no_ending_to f g p i Msg.End label = let never = label.1 in cc
no_ending_to f g p i m label = refl

-- an instance that stops
over_stays : (m : Msg) → over_by m true ≡ true
over_stays Msg.Stop = refl
over_stays m = refl

over_stop : (m : Msg) (b : Bool) → 1 ≤ stop m → over_by m b ≡ true
over_stop Msg.Stop b some = refl
over_stop m b some = absurd (omega (arith, some))

stop_over : (m : Msg) → over_by m false ≡ true → m ≡ Msg.Stop
stop_over Msg.Stop e = refl
stop_over m e = cc

module _ {F R : Type 0} (f : Semantics R) (laws : FunctionLaws f) (g : Given) (fitting : (number : ℕ) → Fits g.site (g.packet number)) (n : ℕ)
    (count_is : n ≡ count f g + 2) (w : Network (Node F R) Msg Note) (j : Joined f g n w) (p : ℕ) (m : Msg) (rest : List Msg) where
  module _ (k : ℕ) (takes : Takes (node_step f) n w k p (node_of j.nodes k) m rest) where
    abbrev v : Network (Node F R) Msg Note
    v = world_next (node_step f) w (at k p)

    abbrev lost : (Msg → ℕ) → ℕ → ℕ → ℕ
    lost q s r = if (s == p) && (r == k) then q m else 0

    -- what stands on a link is at least what stood there but for the message that is taken, and what is put there
    link_is : (q : Msg → ℕ) (s r : ℕ)
        → weigh q (queue_at v (at r s)) + lost q s r ≡ weigh q (queue_at w (at r s)) + weigh q (put_on_link n k s r (node_step f (node_of j.nodes k) p m).sends)
    link_is q s r = cell (node_step f) n w k p (node_of j.nodes k) m rest takes (λ _ _ x. q x) s r

    link_less : (q : Msg → ℕ) (s r : ℕ) → weigh q (queue_at w (at r s)) ≤ weigh q (queue_at v (at r s)) + lost q s r
    link_less q s r = let c = link_is q s r in omega (arith, c)

    none_lost : (q : Msg → ℕ) (s r : ℕ) → (r == k) ≡ false → lost q s r ≡ 0
    none_lost q s r off = rw off (elim (s == p) as (λ b. ◌≡◌ {A = ℕ} (if b && false then q m else 0) 0) [ true ↦ refl | false ↦ refl ])

    link_keeps : (q : Msg → ℕ) (s r : ℕ) → (r == k) ≡ false → weigh q (queue_at w (at r s)) ≤ weigh q (queue_at v (at r s))
    link_keeps q s r off = let less = link_less q s r in let none = none_lost q s r off in omega (arith, less, none)

    lost_some : (q : Msg → ℕ) (s r : ℕ) → 1 ≤ lost q s r → (1 ≤ q m) × (s ≡ p)
    lost_some q s r = split ((s == p) && (r == k)) (λ b. 1 ≤ (if b then q m else 0) → (1 ≤ q m) × (s ≡ p)) (λ on some. (some, grind (arith, nat_tests, on)))
        (λ _ some. absurd (omega (arith, some)))

    -- an instance that isn't the one that took the message
    other_node : (i : ℕ) (d : Node F R) → suc (suc i) ≢ k → node_ended (get_or v.nodes (suc (suc i)) d) ≡ node_ended (get_or w.nodes (suc (suc i)) d)
    other_node i d other = ap node_ended ((taken_outcome (node_step f) n w k p (node_of j.nodes k) m rest takes).others (suc (suc i)) d other)

    other_stops : (i : ℕ) (d : Node F R) → suc (suc i) ≢ k
        → 1 ≤ weigh stop (queue_at w (at (suc (suc i)) 0)) + flag (node_ended (get_or w.nodes (suc (suc i)) d))
        → 1 ≤ weigh stop (queue_at v (at (suc (suc i)) 0)) + flag (node_ended (get_or v.nodes (suc (suc i)) d))
    other_stops i d other was =
        let off : (suc (suc i) == k) ≡ false = grind (arith, nat_tests, other) in
        omega (arith, link_keeps stop 0 (suc (suc i)) off, ap flag (other_node i d other), was)

  -- the nodes of the record are those of the world
  module _ (h : HasEnding n w) where
    same_switch : 0 < n → h.switch ≡ j.nodes.switch
    same_switch some = let is : ◌≡◌ {A = Node F R} (Switch h.switch) (Switch j.nodes.switch) = sym (h.switch_is (Switch h.switch))
        ∙ j.nodes_are 0 some (Switch h.switch) in
        cc

    same_one : 1 < n → h.controller ≡ j.nodes.controller
    same_one few = own_controller j few h.controller h.controller_is

    at_switch : (takes : Takes (node_step f) n w 0 p (node_of j.nodes 0) m rest) → Label f g p 0 m → HasEnding n (world_next (node_step f) w (at 0 p))
    at_switch takes label =
        let s = j.nodes.switch in
        let left = taken_outcome (node_step f) n w 0 p (node_of j.nodes 0) m rest takes in
        let same : h.switch ≡ s = same_switch takes.some in
        let instances = j.shown_is.switch.instances in
        let reach : reaches n 0 1 ≡ true = grind (arith, nat_tests, count_is) in
        let did = switch_ends n s f g p m reach (omega (arith, count_is, instances)) label in
        record {
          switch = (switch_step s m).node;
          switch_is = left.own;
          controller = h.controller;
          controller_is = λ d. left.others 1 d (λ e. cc) ∙ h.controller_is d;
          many = h.many;
          came = let law = total_after (node_step f) n w 0 p (node_of j.nodes 0) m rest takes ending in
              let hands = did.hands in let was = h.came in omega (arith, law, hands, was);
          quiet = h.quiet;
          finished = λ sent. (let law = total_after (node_step f) n w 0 p (node_of j.nodes 0) m rest takes finish in
              carry_on (finish m) (total finish w) (total finish (world_next (node_step f) w (at 0 p))) h.switch.closed (switch_step s m).node.closed did.closes
              (λ c. did.closed (ap (λ x. x.closed) (sym same) ∙ c)) (omega (arith, law)) (h.finished sent));
          stops = λ closed i low d. (elim (did.stops closed) as (λ _. 1 ≤ weigh stop (queue_at (world_next (node_step f) w (at 0 p)) (at (suc (suc i)) 0))
              + flag (node_ended (get_or (world_next (node_step f) w (at 0 p)).nodes (suc (suc i)) d))) [
                | inl was ↦ other_stops 0 takes i d (λ e. absurd (omega (arith, e))) (h.stops (ap (λ x. x.closed) same ∙ was) i low d)
                | inr all ↦ (
                    let two : i + 2 ≡ suc (suc i) = omega arith in
                    let some : 1 ≤ weigh stop (put_on_link n 0 0 (suc (suc i)) (switch_step s m).sends) =
                    subst (λ r. 1 ≤ weigh stop (put_on_link n 0 0 r (switch_step s m).sends)) two (all i (omega (arith, low, count_is, instances))) in
                    omega (arith, link_is 0 takes stop 0 (suc (suc i)), none_lost 0 takes stop 0 (suc (suc i)) (grind (arith, nat_tests)), some))
              ]);
          finals = λ i low d over.
              let was = h.finals i low d (sym (other_node 0 takes i d (λ e. absurd (omega (arith, e)))) ∙ over) in
              omega (arith, link_keeps 0 takes final (suc (suc i)) 1 refl, was);
        }

    at_controller : (takes : Takes (node_step f) n w 1 p (node_of j.nodes 1) m rest) → Label f g p 1 m → HasEnding n (world_next (node_step f) w (at 1 p))
    at_controller takes label =
        let c = j.nodes.controller in
        let left = taken_outcome (node_step f) n w 1 p (node_of j.nodes 1) m rest takes in
        let same : h.controller ≡ c = same_one takes.receiver in
        let reach : reaches n 1 0 ≡ true = grind (arith, nat_tests, takes.some) in
        let long : length c.stopped ≡ length c.names = subst (λ y. length y.stopped ≡ length y.names) same h.many in
        let did = controller_ends c long f g n p m reach label in
        let after = (controller_step c p m).node in
        let names = j.shown_is.controller.names in
        record {
          switch = h.switch;
          switch_is = λ d. left.others 0 d (λ e. cc) ∙ h.switch_is d;
          controller = after;
          controller_is = left.own;
          many = ap length did.stopped ∙ did.row.many ∙ long ∙ ap length (sym did.names);
          came =
              let law = total_after (node_step f) n w 1 p (node_of j.nodes 1) m rest takes ending in
              carry_on (ending m) (total ending w) (total ending (world_next (node_step f) w (at 1 p))) c.end_came after.end_came (λ one. did.came
              ∙ did.row.comes one) (λ e. did.came ∙ did.row.came e) (omega (arith, law)) (subst (λ y. 1 ≤ total ending w + flag y.end_came) same h.came);
          quiet = did.quiet;
          finished = λ sent.
              let law = total_after (node_step f) n w 1 p (node_of j.nodes 1) m rest takes finish in
              let none = no_install_to f g None p 1 m (omega arith) label in
              elim (did.sent sent) as (λ _. 1 ≤ total finish (world_next (node_step f) w (at 1 p)) + flag h.switch.closed) [
                | inl was ↦ (let before = h.finished (ap (λ y. y.finish_sent) same ∙ was) in omega (arith, law, none, before))
                | inr new ↦ omega (arith, law, none, new)
              ];
          stops = λ closed i low d. other_stops 1 takes i d (λ e. absurd (omega (arith, e))) (h.stops closed i low d);
          finals = λ i low d over.
              let was = h.finals i low d (sym (other_node 1 takes i d (λ e. absurd (omega (arith, e)))) ∙ over) in
              let here : i < length c.stopped = omega (arith, long, ap length names, low, count_is) in
              let two : suc (suc i) ≡ instance_node i = omega arith in
              carry_on (lost 1 takes final (suc (suc i)) 1) (weigh final (queue_at w (at 1 (suc (suc i)))))
              (weigh final (queue_at (world_next (node_step f) w (at 1 p)) (at 1 (suc (suc i))))) (get_or c.stopped i false) (get_or after.stopped i false)
              (λ one. (let it = lost_some 1 takes final (suc (suc i)) 1 one in
              ap (λ xs. get_or xs i false) did.stopped ∙ did.row.stops i it.0 (sym it.1 ∙ two) here))
              (λ e. ap (λ xs. get_or xs i false) did.stopped ∙ did.row.stays i e)
              (link_less 1 takes final (suc (suc i)) 1)
              (subst (λ y. 1 ≤ weigh final (queue_at w (at 1 (suc (suc i)))) + flag (get_or y.stopped i false)) same was);
        }

    at_instance : (y : ℕ) (takes : Takes (node_step f) n w (suc (suc y)) p (node_of j.nodes (suc (suc y))) m rest) → Label f g p (suc (suc y)) m
        → HasEnough f n w
        → HasEnding n (world_next (node_step f) w (at (suc (suc y)) p))
    at_instance y takes label enough =
        let k : ℕ = suc (suc y) in
        let x = j.nodes.instance k in
        let left = taken_outcome (node_step f) n w k p (node_of j.nodes k) m rest takes in
        let leaves = its_leaves f laws g fitting n count_is w j p m rest y takes label enough in
        let none = no_ending_to f g p y m label in
        record {
          switch = h.switch;
          switch_is = λ d. left.others 0 d (λ e. absurd (omega (arith, e))) ∙ h.switch_is d;
          controller = h.controller;
          controller_is = λ d. left.others 1 d (λ e. absurd (omega (arith, e))) ∙ h.controller_is d;
          many = h.many;
          came = let law = total_after (node_step f) n w k p (node_of j.nodes k) m rest takes ending in let was = h.came in omega (arith, law, none, was);
          quiet = h.quiet;
          finished = λ sent. (let law = total_after (node_step f) n w k p (node_of j.nodes k) m rest takes finish in
              let was = h.finished sent in omega (arith, law, no_install_to f g None p k m (omega arith) label, was));
          stops = λ closed i low d. its_stops y takes leaves i low d (h.stops closed i low d);
          finals = λ i low d over. its_finals y takes leaves i low d over;
        }
      where
        its_stops : (y : ℕ) (takes : Takes (node_step f) n w (suc (suc y)) p (node_of j.nodes (suc (suc y))) m rest)
            → StepLeaves f (over_by m (j.nodes.instance (suc (suc y))).ended) (instance_step f (j.nodes.instance (suc (suc y))) m) → (i : ℕ)
            → suc (suc i) < n → (d : Node F R) → 1 ≤ weigh stop (queue_at w (at (suc (suc i)) 0)) + flag (node_ended (get_or w.nodes (suc (suc i)) d))
            → 1 ≤ weigh stop (queue_at (world_next (node_step f) w (at (suc (suc y)) p)) (at (suc (suc i)) 0))
            + flag (node_ended (get_or (world_next (node_step f) w (at (suc (suc y)) p)).nodes (suc (suc i)) d))
        its_stops y takes leaves i low d was = split (suc (suc i) == suc (suc y))
            (λ _. 1 ≤ weigh stop (queue_at (world_next (node_step f) w (at (suc (suc y)) p)) (at (suc (suc i)) 0)) + flag
            (node_ended (get_or (world_next (node_step f) w (at (suc (suc y)) p)).nodes (suc (suc i)) d)))
            (λ on.
            let same : suc (suc i) ≡ suc (suc y) = (Decides-eqb (suc (suc i)) (suc (suc y))).0 on in
            let x = j.nodes.instance (suc (suc y)) in
            let before : node_ended (get_or w.nodes (suc (suc i)) d) ≡ x.ended = ap (λ q. node_ended (get_or w.nodes q d)) same
            ∙ ap node_ended (j.nodes_are (suc (suc y)) takes.receiver d) in
            let after : node_ended (get_or (world_next (node_step f) w (at (suc (suc y)) p)).nodes (suc (suc i)) d) ≡ over_by m x.ended =
            ap (λ q. node_ended (get_or (world_next (node_step f) w (at (suc (suc y)) p)).nodes q d)) same
            ∙ ap node_ended ((taken_outcome (node_step f) n w (suc (suc y)) p (node_of j.nodes (suc (suc y))) m rest takes).own d) ∙ leaves.ended in
            carry_on (lost (suc (suc y)) takes stop 0 (suc (suc i))) (weigh stop (queue_at w (at (suc (suc i)) 0)))
            (weigh stop (queue_at (world_next (node_step f) w (at (suc (suc y)) p)) (at (suc (suc i)) 0))) (node_ended (get_or w.nodes (suc (suc i)) d))
            (node_ended (get_or (world_next (node_step f) w (at (suc (suc y)) p)).nodes (suc (suc i)) d))
            (λ one. after ∙ over_stop m x.ended (lost_some (suc (suc y)) takes stop 0 (suc (suc i)) one).0)
            (λ e. after ∙ ap (over_by m) (sym before ∙ e) ∙ over_stays m)
            (link_less (suc (suc y)) takes stop 0 (suc (suc i))) was) (λ off. other_stops (suc (suc y)) takes i d (grind (arith, nat_tests, off)) was)

        stop_sent : (y : ℕ) (x : InstanceState F R) → suc (suc y) < n → m ≡ Msg.Stop
            → 1 ≤ weigh final (put_on_link n (suc (suc y)) (suc (suc y)) 1 (instance_step f x m).sends)
        stop_sent y x low is = subst (λ q. 1 ≤ weigh final (put_on_link n (suc (suc y)) (suc (suc y)) 1 (instance_step f x q).sends)) (sym is)
            (let there : (suc (suc y) == suc (suc y)) && reaches n (suc (suc y)) 1 ≡ true = grind (arith, nat_tests, low) in rw there (omega arith))

        its_finals : (y : ℕ) (takes : Takes (node_step f) n w (suc (suc y)) p (node_of j.nodes (suc (suc y))) m rest)
            → StepLeaves f (over_by m (j.nodes.instance (suc (suc y))).ended) (instance_step f (j.nodes.instance (suc (suc y))) m) → (i : ℕ)
            → suc (suc i) < n → (d : Node F R) → node_ended (get_or (world_next (node_step f) w (at (suc (suc y)) p)).nodes (suc (suc i)) d) ≡ true
            → 1 ≤ weigh final (queue_at (world_next (node_step f) w (at (suc (suc y)) p)) (at 1 (suc (suc i)))) + flag (get_or h.controller.stopped i false)
        its_finals y takes leaves i low d over = split (suc (suc i) == suc (suc y))
            (λ _. 1 ≤ weigh final (queue_at (world_next (node_step f) w (at (suc (suc y)) p)) (at 1 (suc (suc i)))) + flag
            (get_or h.controller.stopped i false))
            (λ on. own ((Decides-eqb (suc (suc i)) (suc (suc y))).0 on) (j.nodes.instance (suc (suc y))).ended refl)
            (λ off.
            (let apart : suc (suc i) ≢ suc (suc y) = grind (arith, nat_tests, off) in kept (sym (other_node (suc (suc y)) takes i d apart) ∙ over)))
          where
            -- where it had ended before
            kept : node_ended (get_or w.nodes (suc (suc i)) d) ≡ true
                → 1 ≤ weigh final (queue_at (world_next (node_step f) w (at (suc (suc y)) p)) (at 1 (suc (suc i)))) + flag (get_or h.controller.stopped i false)
            kept e = omega (arith, h.finals i low d e, link_keeps (suc (suc y)) takes final (suc (suc i)) 1 (grind (arith, nat_tests)))

            own : suc (suc i) ≡ suc (suc y) → (b : Bool) → (j.nodes.instance (suc (suc y))).ended ≡ b
                → 1 ≤ weigh final (queue_at (world_next (node_step f) w (at (suc (suc y)) p)) (at 1 (suc (suc i)))) + flag (get_or h.controller.stopped i false)
            own same true e = kept (ap (λ q. node_ended (get_or w.nodes q d)) same ∙ ap node_ended (j.nodes_are (suc (suc y)) takes.receiver d) ∙ e)
            own same false e =
                let x = j.nodes.instance (suc (suc y)) in
                let ends : over_by m false ≡ true = ap (over_by m) (sym e) ∙ sym leaves.ended
                ∙ sym (ap (λ q. node_ended (get_or (world_next (node_step f) w (at (suc (suc y)) p)).nodes q d)) same
                ∙ ap node_ended ((taken_outcome (node_step f) n w (suc (suc y)) p (node_of j.nodes (suc (suc y))) m rest takes).own d)) ∙ over in
                let none = none_lost (suc (suc y)) takes final (suc (suc y)) 1 (grind (arith, nat_tests)) in
                subst (λ q. 1 ≤ weigh final (queue_at (world_next (node_step f) w (at (suc (suc y)) p)) (at 1 q)) + flag (get_or h.controller.stopped i false))
                (sym same) (omega (arith, stop_sent y x takes.receiver (stop_over m ends), link_is (suc (suc y)) takes final (suc (suc y)) 1, none))

    ending_after : (k : ℕ) (takes : Takes (node_step f) n w k p (node_of j.nodes k) m rest) → Label f g p k m → HasEnough f n w
        → HasEnding n (world_next (node_step f) w (at k p))
    ending_after zero takes label enough = at_switch takes label
    ending_after (suc zero) takes label enough = at_controller takes label
    ending_after (suc (suc y)) takes label enough = at_instance y takes label enough

-- an input with an end
end_weighs : (items : List Msg) → ends items ≤ weigh ending items
end_weighs [] = omega arith
end_weighs (Msg.InEnd ∷ items) = let rest = end_weighs items in omega (arith, rest)
end_weighs (m ∷ items) = let rest = end_weighs items in omega (arith, rest)

module _ {F R : Type 0} (setting : Setting F R) (some_end : 1 ≤ ends setting.items) where
  open setting use {function as f, laws, alloc, config as c, items}

  abbrev nodes : ℕ
  nodes = length c.names + 2

  -- no instance has ended at the (start setting)
  none_ended : (i k : ℕ) → k < i → (d : Node F R) → node_ended (get_or (first_instances {F = F} {R = R} alloc c i) k d) ≡ false
  none_ended i k less d = each_at (λ x. node_ended x ≡ false) (first_instances {F = F} {R = R} alloc c i) (all_of i) k (omega (arith, less, length-first i)) d
    where
      all_of : (i : ℕ) → Each (λ x. node_ended x ≡ false) (first_instances {F = F} {R = R} alloc c i)
      all_of zero = tt
      all_of (suc i) = each-append (λ x. node_ended x ≡ false) (first_instances {F = F} {R = R} alloc c i) (Instance (first_instance alloc c i) ∷ [])
          (all_of i) (refl, tt)

      length-first : (i : ℕ) → length (first_instances {F = F} {R = R} alloc c i) ≡ i
      length-first zero = refl
      length-first (suc i) =
          let both = length-append (first_instances {F = F} {R = R} alloc c i) (Instance (first_instance alloc c i) ∷ []) in omega (arith, length-first i, both)

  ending_at_start : HasEnding nodes (start setting)
  ending_at_start = record {
    switch = first_switch c;
    switch_is = λ d. refl;
    controller = opened_controller c.names c.site;
    controller_is = λ d. refl;
    many = length-map c.names (λ name. false);
    came = (let all = opening_weight Note (first_nodes {F = F} {R = R} alloc c) items ending in
        let some = end_weighs items in omega (arith, all, some, some_end));
    quiet = refl;
    finished = λ sent. (let never : false ≡ true = sent in cc);
    stops = λ closed i low d. (let never : false ≡ true = closed in cc);
    finals = λ i low d over. (let none = none_ended (length c.names) i (omega (arith, low)) d in let never : false ≡ true = sym none ∙ over in cc);
  }

  pub run_ending : (cs : List Choice) → IsCourse setting cs → HasEnding nodes (world_of setting cs)
  run_ending = run_keeps setting (λ _ w. HasEnding nodes w) ending_at_start (λ ds ok d s h. ending_after f laws (given setting) (all_fit setting) nodes refl
      (world_of setting ds) s.runs.joined d.port s.taking.message s.taking.rest h d.node s.takes s.taken.label (run_enough setting ds ok))
