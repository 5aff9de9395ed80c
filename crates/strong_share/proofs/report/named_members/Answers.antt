-- No node is left, or no name is.
use Rattle.std.proofs.Common.{drop, arith}
use Rattle.net_world.proofs.NamedNodes.{no_nodes, no_names}
use Rattle.strong_share.specs.Report.{member_in, member_under}
use Rattle.strong_share.proofs.report.named_members.Goals as goal
use Rattle.strong_share.proofs.report.named_members.Goals.{else-loop-node-test, then-loop-node-test+in-Instance+in_default-left}

pub returns : goal.returns
returns g c = elim c.loop-node-test.branch [
  | else-loop-node-test w ↦
      no_nodes member_in member_under c.loop-node.found.items _ c.loop-node.left.now c.loop-node.node-index c.args.nodes.now
      (omega (arith, w.loop-node-test.false)) c.loop-node.invariant
  | then-loop-node-test+in-Instance+in_default-left w ↦
      no_names member_in member_under c.loop-node.found.items _ c.loop-node.left.now (drop c.loop-node.node-index c.args.nodes.now)
      w.in_default-left.len_below c.loop-node.invariant
]
