-- The nodes so far are the switch, the controller and the instances so far.
use Rattle.std.proofs.Common.{◌≡◌, ◌+◌, vec_len}
use Rattle.speed_core.specs.NetworkWorld.{network_nodes}
use Rattle.speed_core.proofs.network.nodes_of.Given as goal

abbrev pub invariant-loop-number : goal.invariant-loop-number
invariant-loop-number l = record {
  nodes : l.all.items ≡ network_nodes l.instances l.rounds l._number;
  count : vec_len l.all ≡ l._number + 2;
}
