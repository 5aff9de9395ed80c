-- The nodes so far are as many, and send as far, as those of the world.
use Rattle.std.proofs.Common.{◌≡◌, length, map}
use Rattle.speed_core.specs.TokenWorlds.{reaches_below}
use Rattle.speed_core.proofs.tokens.nodes_of.Given as goal

abbrev pub invariant-loop-number : goal.invariant-loop-number
invariant-loop-number l = record {
  count : length l.all.items ≡ l.number;
  reaches : map (λ p. (p.first, p.count)) l.all.items ≡ reaches_below l.shape l.nodes l.number;
}
