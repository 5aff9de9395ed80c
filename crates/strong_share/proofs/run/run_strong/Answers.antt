-- The choices that are replayed to their end are a run.
use Rattle.strong_share.proofs.RunCalls.{replays}
use Rattle.strong_share.proofs.run.run_strong.Goals as goal

pub returns-clause-promises : goal.returns-clause-promises
returns-clause-promises g c alloc job is start =
    (replays g.row.F.Denot g.F.Function.semantics g.met.F.Function.laws alloc job is c.args.choices.now c.args.world start c.replay.result
    c.replay.ensures).promises

pub returns-clause-completed : goal.returns-clause-completed
returns-clause-completed g c alloc job is start =
    (replays g.row.F.Denot g.F.Function.semantics g.met.F.Function.laws alloc job is c.args.choices.now c.args.world start c.replay.result
    c.replay.ensures).completed

pub returns-clause-ends : goal.returns-clause-ends
returns-clause-ends g c alloc job is start =
    (replays g.row.F.Denot g.F.Function.semantics g.met.F.Function.laws alloc job is c.args.choices.now c.args.world start c.replay.result
    c.replay.ensures).ends
