-- The count so far is that of the links from the nodes so far.
use Rattle.std.proofs.Common.{◌≡◌}
use Rattle.actor_net.specs.LinkTable.{held_below}
use Rattle.actor_net.proofs.link_table.count_to.Given as goal

abbrev pub invariant-loop-port : goal.invariant-loop-port
invariant-loop-port g l = l.count ≡ held_below (record { nodes = l.nodes; lists = l.links }) l.node l.port
