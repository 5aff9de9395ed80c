-- All members go on with their rounds.
use Rattle.std.proofs.Common.{◌≡◌, length}
use Rattle.actor_threads.specs.Groups.{AllGoOn}
use Rattle.actor_threads.proofs.groups.turn_all.Given as goal

abbrev pub invariant-loop-at : goal.invariant-loop-at
invariant-loop-at g l = record {
  count : length l.members ≡ length l.fn.members;
  on : AllGoOn g.A.Actor.is_ready g.A.Actor.stepped l.fn.members l.members;
}
