-- The first of the steps without notes is taken off.
use Rattle.std.proofs.Common.{rules, arith}
use Rattle.actor_threads.proofs.NotesByCounts.{silent_pop}
use Rattle.actor_threads.proofs.notes.CountQueue.pop.Goals as goal

pub returns-in_default : goal.returns-in_default
returns-in_default c = rw (← c.self.view_is) (silent_pop _ _ _ (search rules) (search rules) (omega (arith, c.if-self-eq0.false)))
