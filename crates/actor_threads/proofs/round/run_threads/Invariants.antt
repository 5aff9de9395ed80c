-- The rounds so far are joined to a run of the first world.
use Rattle.actor_threads.proofs.RoundsJoined.{Joined}
use Rattle.actor_threads.proofs.round.run_threads.Given as goal

abbrev pub invariant-loop : goal.invariant-loop
invariant-loop g l = Joined g.A.Actor.is_ready g.A.Actor.stepped l.fn.world l.merged l.round
