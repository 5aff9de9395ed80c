-- Of every run, the open operations of the controller are the commands under way, and the log says what is true of commands.
use Rattle.nf_net.proofs.Words.{◌≡◌, ◌≢◌, ℕ, zero, suc, ◌+◌, ◌<◌, Bool, true, false, Some, None, List, [], ◌++◌, get_or, refl, sym, ap, ◌∙◌, subst, arith}
use Rattle.nf_net.proofs.Words.{if◌then◌else◌, ◌&&◌, ◌||◌, ◌==◌, not, is_some, and_parts, Semantics, Msg, Note, Choice, Network, world_next, at, Takes, Outcome}
use Rattle.nf_net.proofs.Words.{taken_outcome, Taking, OnLinks, EachSent, on_links_after, neither, Each, MoveState, ShareState, Operation, Move, Share}
use Rattle.nf_net.proofs.Words.{ControllerState, controller_step, switch_step, Node, Controller, node_step, node_ready, has_answered, is_begun, is_busy}
use Rattle.nf_net.proofs.Words.{is_share, keeps_off, answers_of, Given, IsPlan, Label, Joined, node_of}
use Rattle.std.specs.FinMap as finite
use Rattle.proof_outlines.proofs.joined.Joined.{count}
use Rattle.nf_net.proofs.answers.BusyOperations.{IsBusy, IsShareOf, answers_to}
use Rattle.nf_net.proofs.answers.BusyLemmas.{unanswered}
use Rattle.nf_net.proofs.answers.BusyChanges.{other_notes}
use Rattle.nf_net.proofs.answers.BusyController.{told_in, controller_busy}
use Rattle.nf_net.proofs.answers.BusyNodes.{switch_hands, instance_says}
use Rattle.nf_net.proofs.answers.LinePicks.{on_way, at_switch as way_at_switch, at_controller as way_at_controller, at_instance as way_at_instance}
use Rattle.nf_net.proofs.answers.MoveSays.{Says}

both_true : (a b : Bool) → a ≡ true → b ≡ false → a && not b ≡ true
both_true true false h k = refl
both_true true true h k = cc
both_true false b h k = cc

not_busy : (a s b : Bool) → a && (s || not b) ≡ false → a && not b ≡ false
not_busy false s b e = refl
not_busy true s true e = refl
not_busy true true false e = cc
not_busy true false false e = cc

module _ {F R : Type 0} where
  abbrev controller_in : ControllerState → Node F R → ControllerState
  controller_in d (Controller c) = c
  controller_in d other = d

  pub same_controller : (a b : ControllerState) → ◌≡◌ {A = Node F R} (Controller a) (Controller b) → a ≡ b
  same_controller a b is = ap (controller_in a) is

  -- what stands at the controller's node is the controller
  pub own_controller : {f : Semantics R} {g : Given} {n : ℕ} {w : Network (Node F R) Msg Note} (j : Joined f g n w) → 1 < n → (c : ControllerState)
      → ((d : Node F R) → get_or w.nodes 1 d ≡ Controller c) → c ≡ j.nodes.controller
  own_controller j one c is = same_controller c j.nodes.controller (sym (is (Controller c)) ∙ j.nodes_are 1 one (Controller c))

  -- the numbers of the commands that wait: on the link to the controller, and in the input
  abbrev pub waits_of : Network (Node F R) Msg Note → List ℕ
  waits_of w = on_way told_in w

  -- a world of a run, with what the log says of commands
  pub record Busy (g : Given) (w : Network (Node F R) Msg Note) : Type 0 where
    pub controller : ControllerState
    pub controller_is : (d : Node F R) → get_or w.nodes 1 d ≡ Controller controller
    pub is : IsBusy g controller.operations w.log (waits_of w)
    pub says : OnLinks (Says g) w

module _ {R : Type 0} (f : Semantics R) (g : Given) where
  -- commands come from the input, and to the controller from the switch
  told_at_switch : (p : ℕ) (m : Msg) → Label f g p 0 m → told_in m ≡ (if 0 == p then told_in m else [])
  told_at_switch p (Msg.InCommand c) label = let from = label.0.0 in rw from refl
  told_at_switch p (Msg.Asked c) label = let never = label.1 in cc
  told_at_switch p m label = sym (neither (0 == p))

  told_at_controller : (p : ℕ) (m : Msg) → Label f g p 1 m → told_in m ≡ (if 0 == p then told_in m else [])
  told_at_controller p (Msg.Asked c) label = let from = label.0 in rw from refl
  told_at_controller p (Msg.InCommand c) label = let never = label.0.1 in cc
  told_at_controller p m label = sym (neither (0 == p))

module _ {F R : Type 0} (f : Semantics R) (g : Given) (n : ℕ) (count_is : n ≡ count f g + 2) where
  module _ (w : Network (Node F R) Msg Note) (j : Joined f g n w) (b : Busy g w) where
    one : 1 < n
    one = omega (arith, count_is)

    same_one : b.controller ≡ j.nodes.controller
    same_one = own_controller j one b.controller b.controller_is

    is_busy_one : IsBusy g j.nodes.controller.operations w.log (waits_of w)
    is_busy_one = subst (λ c. IsBusy g c.operations w.log (waits_of w)) same_one b.is

    module _ (k p : ℕ) (m : Msg) (rest : List Msg) (takes : Takes (node_step f) n w k p (node_of j.nodes k) m rest) where
      label : Label f g p k m
      label = (subst (λ ms. Each (Label f g p k) ms) takes.waits
          (j.labels p k (let c = takes.count in rw c takes.sender) (let c = takes.count in rw c takes.receiver))).0

      says : Says g p k m
      says = (subst (λ ms. Each (Says g p k) ms) takes.waits
          (b.says p k (let c = takes.count in rw c takes.sender) (let c = takes.count in rw c takes.receiver))).0

      abbrev v : Network (Node F R) Msg Note
      v = world_next (node_step f) w (at k p)

      left : Outcome (node_step f) n w k p (node_of j.nodes k) m rest v
      left = taken_outcome (node_step f) n w k p (node_of j.nodes k) m rest takes

      says_after : EachSent (Says g) k ((node_step f) (node_of j.nodes k) p m).sends → OnLinks (Says g) v
      says_after sent = on_links_after (Says g) (node_step f) n w k p (node_of j.nodes k) m rest takes b.says sent

      -- where another node took the message
      kept_controller : 1 ≢ k → (d : Node F R) → get_or v.nodes 1 d ≡ Controller b.controller
      kept_controller off d = left.others 1 d off ∙ b.controller_is d

    module _ (p : ℕ) (m : Msg) (rest : List Msg) where
      -- the switch took it
      at_switch : Takes (node_step f) n w 0 p (node_of j.nodes 0) m rest → Busy g (world_next (node_step f) w (at 0 p))
      at_switch takes =
          let it = switch_hands f g j.nodes.switch p m (label 0 p m rest takes) in
          let notes = (switch_step j.nodes.switch m).notes in
          let after = world_next (node_step f) w (at 0 p) in
          let same : waits_of w ≡ waits_of after = way_at_switch told_in (node_step f) n one w p (node_of j.nodes 0) m rest takes it.hands
          (told_at_switch f g p m (label 0 p m rest takes)) in
          record {
            controller = b.controller;
            controller_is = kept_controller 0 p m rest takes (λ never. cc);
            is = subst (λ l. IsBusy g b.controller.operations l (waits_of after)) (sym (left 0 p m rest takes).log) (subst (λ xs. IsBusy g
                b.controller.operations (w.log ++ notes) xs) same (other_notes g b.controller.operations w.log (waits_of w) b.is notes it.notes_are));
            says = says_after 0 p m rest takes it.says;
          }

      -- the controller took it
      at_controller : Takes (node_step f) n w 1 p (node_of j.nodes 1) m rest → Busy g (world_next (node_step f) w (at 1 p))
      at_controller takes =
          let after = world_next (node_step f) w (at 1 p) in
          let c = j.nodes.controller in
          let same : waits_of w ≡ told_in m ++ waits_of after = way_at_controller told_in (node_step f) n one w p (node_of j.nodes 1) m rest takes
          (told_at_controller f g p m (label 1 p m rest takes)) in
          let it = controller_busy f g w.log (waits_of after) c j.shown_is.controller.names p m (label 1 p m rest takes) (says 1 p m rest takes)
          (subst (λ xs. IsBusy g c.operations w.log xs) same is_busy_one) in
          record {
            controller = (controller_step c p m).node;
            controller_is = (left 1 p m rest takes).own;
            is = subst (λ l. IsBusy g (controller_step c p m).node.operations l (waits_of after)) (sym (left 1 p m rest takes).log) it.busy;
            says = says_after 1 p m rest takes it.says;
          }

      -- an instance took it
      at_instance : (i : ℕ) → Takes (node_step f) n w (suc (suc i)) p (node_of j.nodes (suc (suc i))) m rest → Busy g
          (world_next (node_step f) w (at (suc (suc i)) p))
      at_instance i takes =
          let k = suc (suc i) in
          let after = world_next (node_step f) w (at k p) in
          let it = instance_says f g k (j.nodes.instance k) m in
          let other : 1 ≢ k = (λ is. let never = is in absurd (omega (arith, never))) in
          let same : waits_of w ≡ waits_of after = way_at_instance told_in (node_step f) n one w p (node_of j.nodes k) m rest i takes in
          record {
            controller = b.controller;
            controller_is = kept_controller k p m rest takes other;
            is = subst (λ l. IsBusy g b.controller.operations l (waits_of after)) (sym (left k p m rest takes).log)
                (subst (λ xs. IsBusy g b.controller.operations (w.log ++ (node_step f (node_of j.nodes k) p m).notes) xs) same
                (other_notes g b.controller.operations w.log (waits_of w) b.is (node_step f (node_of j.nodes k) p m).notes it.notes_are));
            says = says_after k p m rest takes it.says;
          }

      busy_after : (k : ℕ) → Takes (node_step f) n w k p (node_of j.nodes k) m rest → Busy g (world_next (node_step f) w (at k p))
      busy_after zero takes = at_switch takes
      busy_after (suc zero) takes = at_controller takes
      busy_after (suc (suc i)) takes = at_instance i takes

  -- a choice of a run
  pub busy_next : (w : Network (Node F R) Msg Note) (c : Choice) → Taking node_ready (node_step f) n w c → Joined f g n w → Busy g w → Busy g
      (world_next (node_step f) w c)
  busy_next w c t j b =
      let is : t.node ≡ node_of j.nodes c.node = sym (t.takes.node_is t.node) ∙ j.nodes_are c.node t.takes.receiver t.node in
      busy_after w j b c.port t.message t.rest c.node (subst (λ y. Takes (node_step f) n w c.node c.port y t.message t.rest) is t.takes)

  -- Of a world of a run, what others need.

  module _ (w : Network (Node F R) Msg Note) (j : Joined f g n w) (b : Busy g w) where
    -- an operation is open where its command keeps others off
    pub keeps_is : (op : ℕ) → finite.contains_key j.nodes.controller.operations op ≡ keeps_off g.names g.orders op w.log
    keeps_is op = (is_busy_one w j b).busy op

    -- the plan of an open move is that of its order, and so is that of an open share
    pub plan_is : (op : ℕ) (m : MoveState) → finite.get j.nodes.controller.operations op ≡ Some (Move m) → IsPlan g op m.plan
    plan_is op m there = (is_busy_one w j b).plan op (Move m) there

    pub share_is : (op : ℕ) (s : ShareState) → finite.get j.nodes.controller.operations op ≡ Some (Share s) → IsShareOf g op s.plan
    share_is op s there = (is_busy_one w j b).plan op (Share s) there

    -- the answers to a command whose operation is open
    pub told_is : (op : ℕ) (o : Operation) → finite.get j.nodes.controller.operations op ≡ Some o → answers_of op w.log ≡ answers_to o
    told_is op o there = (is_busy_one w j b).told op o there

    -- a command whose operation is open began
    pub open_began : (op : ℕ) (o : Operation) → finite.get j.nodes.controller.operations op ≡ Some o → is_begun op w.log ≡ true
    open_began op o there = (and_parts (is_begun op w.log) (is_share (g.orders op) || not (has_answered op w.log)) (sym (keeps_is op) ∙ ap is_some there)).0

    -- it is under way, if it wasn't answered
    pub open_busy : (op : ℕ) (o : Operation) → finite.get j.nodes.controller.operations op ≡ Some o → answers_to o ≡ [] → is_busy op w.log ≡ true
    open_busy op o there none = both_true (is_begun op w.log) (has_answered op w.log) (open_began op o there) (unanswered op w.log (told_is op o there ∙ none))

    -- and a command whose operation isn't open isn't
    pub closed_busy : (op : ℕ) → finite.get j.nodes.controller.operations op ≡ None → is_busy op w.log ≡ false
    closed_busy op none = not_busy (is_begun op w.log) (is_share (g.orders op)) (has_answered op w.log) (sym (keeps_is op) ∙ ap is_some none)
