-- All members go on with their rounds.
use Rattle.actor_threads.specs.Groups.{AllGoOn}
use Rattle.actor_threads.proofs.groups.run_group.Given as goal

abbrev pub invariant-loop : goal.invariant-loop
invariant-loop g l = AllGoOn g.A.Actor.is_ready g.A.Actor.stepped l.fn.members l.members
