-- The packets so far are those of the numbers so far.
use Rattle.std.proofs.Common.{◌≡◌}
use Rattle.speed_core.specs.NetworkWorld.{packets_below}
use Rattle.speed_core.proofs.network.packets_of.Given as goal

abbrev pub invariant-loop-number : goal.invariant-loop-number
invariant-loop-number l = l.all.items ≡ packets_below l.number
