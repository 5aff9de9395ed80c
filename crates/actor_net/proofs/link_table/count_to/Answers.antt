-- The count is at most that of the nodes so far.
use Rattle.std.proofs.Common.{rules}
use Rattle.actor_net.proofs.LinkCounts.{held_most}
use Rattle.actor_net.proofs.link_table.count_to.Goals as goal

pub overflow_add-count : goal.overflow_add-count
overflow_add-count g c =
    let most = held_most (record { nodes = c.args.nodes; lists = c.args.links.now }) c.args.node c.loop-port.port in
    search (rules, most)
