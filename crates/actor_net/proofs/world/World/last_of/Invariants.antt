-- No port of those from the end so far is enabled.
use Rattle.std.proofs.Common.{◌≡◌, ◌-◌, length}
use Rattle.actor_net.specs.Schedules.{ports_below}
use Rattle.actor_net.proofs.world.World.last_of.Given as goal

abbrev pub invariant-loop-passed : goal.invariant-loop-passed
invariant-loop-passed g l = length (ports_below g.A.Actor.is_ready l.self l.node (length l.self.nodes))
    ≡ length (ports_below g.A.Actor.is_ready l.self l.node (length l.self.nodes - l.passed))
