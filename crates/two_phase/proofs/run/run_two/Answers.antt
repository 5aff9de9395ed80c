-- The choices that are replayed to their end are a run.
use Rattle.two_phase.proofs.Theorem.{replay_published}
use Rattle.two_phase.proofs.run.run_two.Goals as goal

pub returns-clause-published : goal.returns-clause-published
returns-clause-published g c alloc job is start =
    replay_published g.row.F.Denot g.F.Function.semantics g.met.F.Function.laws alloc job is c.args.choices.now c.args.world c.replay.result start
    c.replay.ensures
