-- The instances of the nodes so far, and those still to come, under the names that are left.
use Rattle.two_phase.proofs.Words.{◌≡◌, ◌++◌, drop, texts_seen, named_instances}
use Rattle.two_phase.proofs.report.named_instances.Given as goal

abbrev pub invariant-loop-node : goal.invariant-loop-node
invariant-loop-node g l = l.found.items ++ named_instances (texts_seen l.left) (drop l.node-index l.nodes) ≡ named_instances (texts_seen l.names) l.nodes
