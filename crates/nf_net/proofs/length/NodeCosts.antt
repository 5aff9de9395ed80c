-- Each node's step of a run makes the world lighter, but for the pieces that it sends.
use Rattle.nf_net.proofs.Words.{◌≡◌, ℕ, zero, suc, ◌+◌, ◌*◌, ◌<◌, ◌≤◌, List, arith, Semantics, Msg, Note, Network, Stepped, world_next, at, Takes, weigh, total}
use Rattle.nf_net.proofs.Words.{total_after, nodes_after, Node, Switch, Controller, node_step, Given, Joined, node_of, pieces_among, Instance}
use Rattle.proof_outlines.proofs.joined.Joined.{count}
use Rattle.nf_net.proofs.length.Weights.{of_instance, of_controller, weight, cost}
use Rattle.nf_net.proofs.length.SentWeights.{few_sent}
use Rattle.nf_net.proofs.length.ControllerCosts.{controller_falls}
use Rattle.nf_net.proofs.length.InstanceCosts.{instance_falls}
use Rattle.nf_net.proofs.length.SwitchCosts.{switch_falls}
use Rattle.nf_net.proofs.length.FewMembers.{has_few}

module _ {F R : Type 0} (o : ℕ) where
  -- a node
  abbrev pub of_node : Node F R → ℕ
  of_node (Switch s) = 0
  of_node (Controller c) = of_controller o c
  of_node (Instance i) = of_instance i

  -- a world: all messages and all nodes
  abbrev pub of_world : Network (Node F R) Msg Note → ℕ
  of_world w = total (weight o) w + weigh of_node w.nodes

  abbrev NodeFalls : Node F R → Msg → Stepped (Node F R) Msg Note → Type 0
  NodeFalls node m did = cost o did.sends + of_node did.node + 1 ≤ of_node node + weight o m + 4 * pieces_among did.sends

module _ {F R : Type 0} (f : Semantics R) (g : Given) (n o : ℕ) (n_is : n ≡ 3 + o) (count_is : n ≡ count f g + 2) (w : Network (Node F R) Msg Note)
    (j : Joined f g n w) where
  node_falls : (k p : ℕ) (m : Msg) → k < n → NodeFalls {F = F} {R = R} o (node_of j.nodes k) m (node_step f (node_of j.nodes k) p m)
  node_falls zero p m there =
      let falls = switch_falls o j.nodes.switch (omega (arith, j.shown_is.switch.instances, n_is, count_is)) m in
      omega (arith, falls)
  node_falls (suc zero) p m there =
      let falls = controller_falls o j.nodes.controller
      (λ op s is. has_few f g o (omega (arith, n_is, count_is)) op s (j.shown_is.controller.shared op s is)) p m in
      omega (arith, falls)
  node_falls (suc (suc i)) p m there =
      instance_falls f o (j.nodes.instance (suc (suc i))) (j.shown_is.instances (suc (suc i)) (omega arith) there).rules.one_each m

  -- what a choice takes makes the world lighter
  pub world_falls : (k p : ℕ) (m : Msg) (rest : List Msg) → Takes (node_step f) n w k p (node_of j.nodes k) m rest
      → of_world {F = F} {R = R} o (world_next (node_step f) w (at k p)) + 1
      ≤ of_world {F = F} {R = R} o w + 4 * pieces_among (node_step f (node_of j.nodes k) p m).sends
  world_falls k p m rest takes =
      let did = node_step f (node_of j.nodes k) p m in
      let nodes = nodes_after (node_step f) n w k p (node_of j.nodes k) m rest takes (of_node {F = F} {R = R} o) in
      let few = few_sent (weight o) n k did.sends in
      omega (arith, total_after (node_step f) n w k p (node_of j.nodes k) m rest takes (weight o), nodes, node_falls k p m takes.receiver, few)
