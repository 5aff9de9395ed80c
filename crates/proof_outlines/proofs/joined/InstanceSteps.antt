-- An instance's step on a message of a run leads from a world of a run to one.
use Rattle.proof_outlines.proofs.Words.{◌≡◌, ◌≢◌, ℕ, zero, suc, ◌<◌, ◌≤◌, true, false, Some, None, List, [], ◌++◌, refl, sym, ap, ◌∙◌, subst, append-nil, arith}
use Rattle.proof_outlines.proofs.Words.{if◌then◌else◌, ◌&&◌, ◌==◌, filter_map, nat_tests, Decides-eqb, and-false, Semantics, Records, Msg, Note, instance_step}
use Rattle.proof_outlines.proofs.Words.{less_first, sent_for, inst_step, links_after, at_node, put, behind, Rising, Any, Old, New, as_old, WholeWorld}
use Rattle.proof_outlines.proofs.Words.{member_step, whole_inst, EveryAll, inst_every_all, MayKeep, keeps_every_all, as_node, dones_in, installs_in}
use Rattle.proof_outlines.proofs.Words.{done-append, split, Unit, FunctionLaws, InstanceState, instance_node}
use Rattle.instance_worker.specs.Instance.{Step}
use Rattle.proof_machines.proofs.net.Shares.{keeps}
use Rattle.proof_outlines.proofs.joined.Words.{unit_fits, ran_in, is_sys, is_sharing, Given, place, target_by, Nodes, Took, Scene, S, A, shown, commands}
use Rattle.proof_outlines.proofs.joined.Words.{asked_nums, came_by, by_node, links_next, IsSwitch, IsController, IsInstanceAt, AreShown, IsTaken, Leads}
use Rattle.proof_outlines.proofs.joined.Words.{node_of, Grows, Instance, same_grows, instance_stays}
use Rattle.proof_outlines.proofs.whole.InstanceWorlds.{ShowsAt, StepsTo, KeepsTo}
use Rattle.proof_outlines.proofs.joined.LogLemmas.{by_node-append, every_same, owners_on, came_on}
use Rattle.proof_outlines.proofs.joined.InstanceNotes.{AreOwn, none_arrived, none_installed, done_own}
use Rattle.proof_outlines.proofs.joined.InstanceKeeps.{has_records}
use Rattle.proof_outlines.proofs.joined.InstanceRows.{Leaves}
use Rattle.proof_outlines.proofs.joined.PlaceNotes.{instance_same}

module _ {F R : Type 0} (f : Semantics R) (laws : FunctionLaws f) (g : Given) (n : ℕ) (x : Scene F f g) (p : ℕ) (j : ℕ) where
  -- the instance's node, and the instance there
  abbrev own_node : ℕ
  own_node = suc (suc j)

  abbrev own : InstanceState F R
  own = x.nodes.instance own_node

  abbrev took : Msg → Took
  took m = record { node = own_node; port = p; message = m }

  -- the nodes after a step of the instance
  abbrev nodes_after : InstanceState F R → Nodes F R
  nodes_after i = record { switch = x.nodes.switch; controller = x.nodes.controller; instance = put x.nodes.instance own_node i }

  same_node : (own_node == own_node) ≡ true
  same_node = grind (arith, nat_tests)

  not_first : (own_node == 0) ≡ false
  not_first = grind (arith, nat_tests)

  not_second : (own_node == 1) ≡ false
  not_second = grind (arith, nat_tests)

  no_first : (0 == own_node) ≡ false
  no_first = grind (arith, nat_tests)

  no_second : (1 == own_node) ≡ false
  no_second = grind (arith, nat_tests)

  own_is : (i : InstanceState F R) → Instance i ≡ node_of (nodes_after i) own_node
  own_is i = ap (λ b. Instance (if b then i else own)) (sym same_node)

  others_are : (i : InstanceState F R) (k : ℕ) → k ≢ own_node → node_of (nodes_after i) k ≡ node_of x.nodes k
  others_are i zero off = refl
  others_are i (suc zero) off = refl
  others_are i (suc (suc k)) off =
      let apart : (suc (suc k) == own_node) ≡ false = grind (arith, nat_tests) in
      ap (λ b. Instance (if b then i else x.nodes.instance (suc (suc k)))) apart

  -- what is read off the log with the notes of the instance
  module _ (are : AreShown f g n x) (notes : List Note) (its_own : AreOwn own_node notes) where
    owners_after : (u : Unit) → unit_fits f.kind u ≡ true → x.world.target u ≡ target_by g u (installs_in (x.log ++ notes))
    owners_after u fits = owners_on f g n x are notes (none_installed own_node notes its_own) u fits

    every_after : (w : WholeWorld (S f g) (A f g)) → EveryAll (S f g) (A f g) (is_sys f g.site g.packet) w (came_by f g x.log)
        → EveryAll (S f g) (A f g) (is_sys f g.site g.packet) w (came_by f g (x.log ++ notes))
    every_after w h = every_same (S f g) (A f g) (is_sys f g.site g.packet) w _ _
        (came_on f g n x are notes (none_installed own_node notes its_own) (none_arrived own_node notes its_own)) h

    done_after : (next : WholeWorld (S f g) (A f g)) → next.done ≡ x.world.done ++ at_node own_node (filter_map ran_in notes)
        → next.done ≡ by_node f g (dones_in (x.log ++ notes))
    done_after next is =
        is ∙ ap (λ ds. ds ++ at_node own_node (filter_map ran_in notes)) are.done_is
        ∙ ap (λ ds. by_node f g (dones_in x.log) ++ ds) (sym (done_own f g own_node notes its_own))
        ∙ sym (ap (by_node f g) (done-append x.log notes) ∙ by_node-append f g (dones_in x.log) (dones_in notes))

  -- a world that differs in this instance, the links and what was done alone
  record Differs (next : WholeWorld (S f g) (A f g)) : Type 0 where
    target : next.target ≡ x.world.target
    ops : next.ops ≡ x.world.ops
    shares : next.shares ≡ x.world.shares
    next_is : next.next ≡ x.world.next
    insts : (k : ℕ) → (k == own_node) ≡ false → next.inst k ≡ x.world.inst k
    standby : (k : ℕ) → (k == own_node) ≡ false → next.standby k ≡ x.world.standby k
    asked : next.link 0 1 ≡ x.world.link 0 1

  -- no command is taken or sent
  link_same : (sends : List (ℕ × Any R)) → links_after x.world.link p own_node sends 0 1 ≡ x.world.link 0 1
  link_same sends =
      ap (λ b. behind ((0 == p) && b) (x.world.link 0 1) ++ (if 0 == own_node then sent_for 1 sends else [])) no_second
      ∙ ap (λ b. behind b (x.world.link 0 1) ++ (if 0 == own_node then sent_for 1 sends else [])) (and-false (0 == p))
      ∙ ap (λ b. x.world.link 0 1 ++ (if b then sent_for 1 sends else [])) no_first ∙ append-nil (x.world.link 0 1)

  put_other : {X : Type 0} (h : ℕ → X) (a : X) (k : ℕ) → (k == own_node) ≡ false → put h own_node a k ≡ h k
  put_other h a k off = rw off refl

  differs : (m : Any R) → Differs (whole_inst (S f g) (A f g) x.world p own_node m)
  differs (Old m) = record {
    target = refl;
    ops = refl;
    shares = refl;
    next_is = refl;
    insts = λ k off. put_other x.world.inst (inst_step (S f g) (x.world.inst own_node) m).node k off;
    standby = λ k off. refl;
    asked = link_same (as_old (inst_step (S f g) (x.world.inst own_node) m).sends);
  }
  differs (New m) =
      let did = member_step (S f g) (A f g) (x.world.inst own_node).live (x.world.standby own_node) m in
      record {
        target = refl;
        ops = refl;
        shares = refl;
        next_is = refl;
        insts = λ k off. put_other x.world.inst (record (x.world.inst own_node) { live = did.live }) k off;
        standby = λ k off. put_other x.world.standby did.standby k off;
        asked = link_same did.sends;
      }

  kept_differs : (t : Records R) → Differs (keeps (S f g) (A f g) x.world own_node t)
  kept_differs t = record {
    target = refl;
    ops = refl;
    shares = refl;
    next_is = refl;
    insts = λ k off. refl;
    standby = λ k off. put_other x.world.standby t k off;
    asked = refl;
  }

  -- what a step leaves and the world that shows it
  record Goes (step : Step F R) : Type 0 where
    next : WholeWorld (S f g) (A f g)
    differs_so : Differs next
    leaves : Leaves f g own_node step
    its_own : AreOwn own_node step.notes
    shows : ShowsAt f g.site g.packet own_node next step.node
    done : next.done ≡ x.world.done ++ at_node own_node (filter_map ran_in step.notes)
    every : EveryAll (S f g) (A f g) (is_sys f g.site g.packet) next (came_by f g x.log)

  module _ (are : AreShown f g n x) (step : Step F R) (goes : Goes step) where
    own_right : IsInstanceAt f g own_node step.node goes.next
    own_right = record {
      outline_is = goes.shows.inst;
      standby_is = goes.shows.standby;
      stands = has_records f laws step.node.table.standby goes.leaves.stands;
      rules = goes.leaves.node.rules;
      held = goes.leaves.node.held;
      records = has_records f laws step.node.table.live goes.leaves.node.sound;
      number = goes.leaves.node.number;
    }

    other_right : (k : ℕ) → (k == own_node) ≡ false → IsInstanceAt f g k (x.nodes.instance k) x.world → IsInstanceAt f g k (x.nodes.instance k) goes.next
    other_right k off at = instance_stays f g (sym (goes.differs_so.insts k off)) (sym (goes.differs_so.standby k off)) at

    instances_after : (k : ℕ) → 2 ≤ k → k < n → IsInstanceAt f g k (put x.nodes.instance own_node step.node k) goes.next
    instances_after k two within =
        split (k == own_node) (λ b. IsInstanceAt f g k (if b then step.node else x.nodes.instance k) goes.next)
        (λ e. let same : k ≡ own_node = (Decides-eqb k own_node).0 e in subst (λ y. IsInstanceAt f g y step.node goes.next) (sym same) own_right)
        (λ off. other_right k off (are.instances k two within))

    controller_after : IsController f g x.nodes.controller goes.next.ops goes.next.shares goes.next.next
    controller_after =
        subst (λ ops. IsController f g x.nodes.controller ops goes.next.shares goes.next.next) (sym goes.differs_so.ops)
        (subst (λ shares. IsController f g x.nodes.controller x.world.ops shares goes.next.next) (sym goes.differs_so.shares)
        (subst (λ next. IsController f g x.nodes.controller x.world.ops x.world.shares next) (sym goes.differs_so.next_is) are.controller))

    rising_after : Rising goes.next.next (asked_nums (goes.next.link 0 1) ++ commands f g (less_first ((0 == own_node) && (0 == p)) x.input))
    rising_after =
        subst (λ next. Rising next (asked_nums (goes.next.link 0 1) ++ commands f g (less_first ((0 == own_node) && (0 == p)) x.input)))
        (sym goes.differs_so.next_is)
        (subst (λ b. Rising x.world.next (asked_nums (goes.next.link 0 1) ++ commands f g (less_first (b && (0 == p)) x.input))) (sym no_first)
        (subst (λ ms. Rising x.world.next (asked_nums ms ++ commands f g x.input)) (sym goes.differs_so.asked) are.rising))

    -- the step leads to that world, if it has the links
    step_leads : (m : Msg) → ((a b : ℕ) → goes.next.link a b ≡ links_next f g x.world.link (took m) step.sends a b)
        → Leads f g n x (took m) (as_node Instance step)
    step_leads m links = record {
      nodes = nodes_after step.node;
      own = own_is step.node;
      others = others_are step.node;
      world = goes.next;
      links = links;
      labels = goes.leaves.sends;
      grows = subst (Grows m x.world.next) (sym goes.differs_so.next_is) (same_grows m x.world.next);
      shown_is = record {
        switch = subst (λ to. IsSwitch f g x.nodes.switch to) (sym goes.differs_so.target) are.switch;
        controller = controller_after;
        owners = λ u fits. ap (λ to. to u) goes.differs_so.target ∙ owners_after are step.notes goes.its_own u fits;
        instances = instances_after;
        every = every_after are step.notes goes.its_own goes.next goes.every;
        done_is = done_after are step.notes goes.its_own goes.next goes.done;
        rising = rising_after;
      };
    }

  own_notes : (m : Msg) → Leaves f g own_node (instance_step f own m) → AreOwn own_node (instance_step f own m).notes
  own_notes m leaves = let same = instance_same f own m in (own.index, ap instance_node (sym same.0) ∙ leaves.node.number, same.1)

  -- a step on a message that is shown
  pub shown_leads : (m : Msg) (seen : Any R) → AreShown f g n x → IsTaken f g n x (took m) → shown f g m ≡ Some seen → StepsTo f g.site g.packet (place g)
      x.world p own_node (whole_inst (S f g) (A f g) x.world p own_node seen) (instance_step f own m) → Leaves f g own_node (instance_step f own m)
      → Leads f g n x (took m) (as_node Instance (instance_step f own m))
  shown_leads m seen are is shown_as steps leaves =
      let heads = is.head (rw not_first (and-false (p == 0))) seen shown_as in
      step_leads are (instance_step f own m) (record {
        next = whole_inst (S f g) (A f g) x.world p own_node seen;
        differs_so = differs seen;
        leaves = leaves;
        its_own = own_notes m leaves;
        shows = steps.shows;
        done = steps.done;
        every = inst_every_all (S f g) (A f g) (is_sys f g.site g.packet) (is_sharing f g.site g.packet) x.world (came_by f g x.log) are.every p own_node seen
            is.rest not_first not_second heads;
      }) m (λ a b. rw shown_as (steps.links a b))

  -- a step on a message that isn't shown, after which these records stand by
  pub keeps_leads : (m : Msg) (t : Records R) → AreShown f g n x → shown f g m ≡ None
      → KeepsTo f g.site g.packet (place g) x.world p own_node (keeps (S f g) (A f g) x.world own_node t) (instance_step f own m)
      → MayKeep (S f g) (A f g) (is_sys f g.site g.packet) x.world own_node t → Leaves f g own_node (instance_step f own m)
      → Leads f g n x (took m) (as_node Instance (instance_step f own m))
  keeps_leads m t are hidden steps may leaves =
      step_leads are (instance_step f own m) (record {
        next = keeps (S f g) (A f g) x.world own_node t;
        differs_so = kept_differs t;
        leaves = leaves;
        its_own = own_notes m leaves;
        shows = steps.shows;
        done = steps.done;
        every = keeps_every_all (S f g) (A f g) (is_sys f g.site g.packet) x.world (came_by f g x.log) are.every own_node t may;
      }) m (λ a b. rw hidden (steps.links a b))
