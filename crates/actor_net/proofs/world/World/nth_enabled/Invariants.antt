-- The place is what stands at the nodes so far, and then so many.
use Rattle.std.proofs.Common.{◌≡◌, ◌+◌, length}
use Rattle.actor_net.specs.Schedules.{nodes_below}
use Rattle.actor_net.proofs.world.World.nth_enabled.Given as goal

abbrev pub invariant-loop-node : goal.invariant-loop-node
invariant-loop-node g l = l.place ≡ length (nodes_below g.A.Actor.is_ready l.self l.node) + l.left
