-- No choice of the nodes from the end so far is enabled.
use Rattle.std.proofs.Common.{◌≡◌, ◌-◌, length}
use Rattle.actor_net.specs.Schedules.{nodes_below, enabled_choices}
use Rattle.actor_net.proofs.world.World.last_enabled.Given as goal

abbrev pub invariant-loop-passed : goal.invariant-loop-passed
invariant-loop-passed g l = length (enabled_choices g.A.Actor.is_ready l.self) ≡ length (nodes_below g.A.Actor.is_ready l.self (length l.self.nodes - l.passed))
