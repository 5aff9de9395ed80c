-- There are at most so many links as there are pairs of nodes.
use Rattle.std.proofs.Common.{◌*◌, ◌≤◌, length, arith}
use Rattle.actor_net.proofs.LinkCounts.{all_most}
use Rattle.actor_net.proofs.link_table.LinkTable.count.Goals as goal

pub returns-clause-small : goal.returns-clause-small
returns-clause-small g c =
    let few = c.self.invariant.few in
    let n = length c.self.inside.counts.items in
    let most = all_most (record { nodes = n; lists = c.self.inside.links.items }) n in
    let bound : n * n ≤ 255 * 255 = grind arith in
    omega (arith, most, bound, c.self.invariant.whole)
