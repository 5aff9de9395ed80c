-- What is left to deliver, from here, gives what all of it gives.
use Rattle.std.proofs.Common.{◌≡◌, ◌*◌, [], length, get_or}
use Rattle.actor_net.specs.Network.{links_after}
use Rattle.actor_net.proofs.world.deliver_rest.Given as goal

abbrev pub invariant-loop-to : goal.invariant-loop-to
invariant-loop-to g l = record {
  left : links_after l.nodes l.from l.outbox.0 l.links.lists ≡ links_after l.nodes l.from l.fn.outbox.0 l.fn.links.lists;
  nodes : l.links.nodes ≡ l.nodes;
  count : length l.links.lists ≡ l.nodes * l.nodes;
  loop_link : get_or l.links.lists 0 [] ≡ get_or l.fn.links.lists 0 [];
  notes : l.outbox.1 ≡ l.fn.outbox.1;
}

abbrev pub decreases-loop-to : goal.decreases-loop-to
decreases-loop-to g l = length l.outbox.0
