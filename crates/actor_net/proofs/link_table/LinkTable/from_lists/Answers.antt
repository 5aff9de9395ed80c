-- The counts stay small, and at the end they are those of all nodes.
use Rattle.std.proofs.Common.{◌*◌, ◌≤◌, arith, rules}
use Rattle.actor_net.proofs.LinkCounts.{held_most, all_most}
use Rattle.actor_net.proofs.link_table.LinkTable.from_lists.Goals as goal

pub overflow_add-all : goal.overflow_add-all
overflow_add-all g c =
    let most = all_most (record { nodes = c.args.nodes; lists = c.in_ok-links.links.items }) c.loop-node.node in
    let one = held_most (record { nodes = c.args.nodes; lists = c.in_ok-links.links.items }) c.loop-node.node c.args.nodes in
    let small : c.loop-node.node * c.args.nodes ≤ 255 * 255 = grind arith in
    search (rules, most, one, small)
