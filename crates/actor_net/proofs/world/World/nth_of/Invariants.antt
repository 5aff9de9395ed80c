-- The place is what stands at the ports so far, and then so many.
use Rattle.std.proofs.Common.{◌≡◌, ◌+◌, length}
use Rattle.actor_net.specs.Schedules.{ports_below}
use Rattle.actor_net.proofs.world.World.nth_of.Given as goal

abbrev pub invariant-loop-port : goal.invariant-loop-port
invariant-loop-port g l = l.place ≡ length (ports_below g.A.Actor.is_ready l.self l.node l.port) + l.left
