-- The counts so far are those of the nodes so far.
use Rattle.std.proofs.Common.{◌≡◌, ◌<◌, ℕ, length, get_or}
use Rattle.actor_net.specs.LinkTable.{LinkLists, held_below, all_held}
use Rattle.actor_net.proofs.link_table.LinkTable.from_lists.Given as goal

abbrev pub invariant-loop-node : goal.invariant-loop-node
invariant-loop-node g l =
    let t : LinkLists g.row.M.Denot = record { nodes = l.nodes; lists = l.links.items } in
    record {
      length_is : length l.counts.items ≡ l.node;
      each : (k : ℕ) → k < l.node → get_or l.counts.items k 0 ≡ held_below t k l.nodes;
      whole : l.all ≡ all_held t l.node;
    }
