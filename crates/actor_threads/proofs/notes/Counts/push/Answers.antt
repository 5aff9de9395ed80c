-- One more step's count is put after the others.
use Rattle.actor_threads.proofs.NotesByCounts.{counts_one, counts_run}
use Rattle.actor_threads.proofs.notes.Counts.push.Goals as goal

pub returns-then-self-lt4294967295-clause-ok : goal.returns-then-self-lt4294967295-clause-ok
returns-then-self-lt4294967295-clause-ok c = rw (← c.self.view_is, c.if-count-eq0.true) (counts_one c.self.inside.runs.items c.self.inside.silent)

pub returns-clause-ok : goal.returns-clause-ok
returns-clause-ok c = rw (← c.self.view_is, c.in_ok-push.ensures.items) (counts_run c.self.inside.runs.items c.self.inside.silent c.args.count)
