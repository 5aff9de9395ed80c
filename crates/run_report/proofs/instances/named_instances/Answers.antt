-- No node is left, or no name is.
use Rattle.std.proofs.Common.{drop, arith}
use Rattle.net_world.proofs.NamedNodes.{no_nodes, no_names}
use Rattle.run_report.specs.Lines.{instance_in, instance_under}
use Rattle.run_report.proofs.instances.named_instances.Goals as goal
use Rattle.run_report.proofs.instances.named_instances.Goals.{else-loop-node-test, then-loop-node-test+in-Instance+in_default-left}

pub returns : goal.returns
returns g c = elim c.loop-node-test.branch [
  | else-loop-node-test w ↦
      no_nodes instance_in instance_under c.loop-node.found.items _ c.loop-node.left.now c.loop-node.node-index c.args.nodes.now
      (omega (arith, w.loop-node-test.false)) c.loop-node.invariant
  | then-loop-node-test+in-Instance+in_default-left w ↦
      no_names instance_in instance_under c.loop-node.found.items _ c.loop-node.left.now (drop c.loop-node.node-index c.args.nodes.now)
      w.in_default-left.len_below c.loop-node.invariant
]
