-- The instances of the nodes so far, and those still to come, under the names that are left.
use Rattle.std.proofs.Common.{◌≡◌, ◌++◌, drop}
use Rattle.run_report.specs.Lines.{named_instances}
use Rattle.run_report.proofs.instances.named_instances.Given as goal

abbrev pub invariant-loop-node : goal.invariant-loop-node
invariant-loop-node g l = l.found.items ++ named_instances l.left (drop l.node-index l.nodes) ≡ named_instances l.names l.nodes
