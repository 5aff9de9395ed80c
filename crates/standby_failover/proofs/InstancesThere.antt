-- In a world of a run the node of each instance is an instance.
use Rattle.standby_failover.proofs.Words.{◌≡◌, ℕ, ◌+◌, ◌<◌, true, List, length, ap, ◌∙◌, arith, Some, slice_get, slice_get-get_or, FunctionLaws, Msg, Note}
use Rattle.standby_failover.proofs.Words.{instance_node, Choice, Network, Node, Instance, node_step, node_ready, is_instance, Setting, IsCourse, world_of}
use Rattle.actor_net.proofs.RunInduction.{run_world}
use Rattle.nf_net.specs.proof_outlines.proofs.joined.StartJoined.{count_at_start}
use Rattle.nf_net.specs.proof_outlines.proofs.joined.RunsJoined.{run_beside, start_world}
use Rattle.nf_net.proofs.paths.RecordPromises.{instance_of}
use Rattle.nf_net.specs.proof_outlines.proofs.joined.Setting.{start}

module _ {F R : Type 0} (setting : Setting F R) (cs : List Choice) where
  open setting use {function as f, config as c}

  abbrev w : Network (Node F R) Msg Note
  w = world_of setting cs

  pub are_there : IsCourse setting cs → (i : ℕ) → i < length c.names → is_instance (slice_get w.nodes (instance_node i)) ≡ true
  are_there runs i within =
      let j = (run_beside setting cs runs).joined in
      let reached = run_world node_ready (node_step f) (length c.names + 2) (start setting) (start_world setting)
      (count_at_start setting) cs runs in
      let few : instance_node i < length c.names + 2 = omega (arith, within) in
      let node : Node F R = Instance (j.nodes.instance (instance_node i)) in
      let long : length w.nodes ≡ length c.names + 2 = reached.1 in
      let inside : instance_node i < length w.nodes = omega (arith, few, long) in
      let there : slice_get w.nodes (instance_node i) ≡ Some node = slice_get-get_or w.nodes (instance_node i) node inside
      ∙ ap Some (j.nodes_are (instance_node i) few node ∙ instance_of j.nodes (instance_node i) (omega arith)) in
      ap is_instance there
