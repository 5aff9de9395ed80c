-- The members of the nodes so far, and those still to come, under the names that are left.
use Rattle.strong_share.proofs.Words.{◌≡◌, ◌++◌, drop, named_members}
use Rattle.strong_share.proofs.report.named_members.Given as goal

abbrev pub invariant-loop-node : goal.invariant-loop-node
invariant-loop-node g l = l.found.items ++ named_members l.left (drop l.node-index l.nodes) ≡ named_members l.names l.nodes
