-- The choices that are replayed to their end are a run.
use Rattle.nf_net.proofs.Words.{setting_of}
use Rattle.nf_net.proofs.EveryRun.{replay_keeps, replay_judges, replay_stands, replay_completes, replay_homes}
use Rattle.nf_net.proofs.run.run_choices.Goals as goal

pub returns-clause-promises : goal.returns-clause-promises
returns-clause-promises g c alloc config items is start = replay_keeps
    (setting_of {F = g.row.F.Denot} g.F.Function.semantics g.met.F.Function.laws alloc config items is) c.args.choices.now c.args.world c.run_as_told.result
    start c.run_as_told.ensures

pub returns-clause-verdicts : goal.returns-clause-verdicts
returns-clause-verdicts g c alloc config items is start = replay_judges
    (setting_of {F = g.row.F.Denot} g.F.Function.semantics g.met.F.Function.laws alloc config items is) c.args.choices.now c.args.world c.run_as_told.result
    start c.run_as_told.ensures

pub returns-clause-standbys : goal.returns-clause-standbys
returns-clause-standbys g c alloc config items is start = replay_stands
    (setting_of {F = g.row.F.Denot} g.F.Function.semantics g.met.F.Function.laws alloc config items is) c.args.choices.now c.args.world c.run_as_told.result
    start c.run_as_told.ensures

pub returns-clause-completed : goal.returns-clause-completed
returns-clause-completed g c alloc config items is start = replay_completes
    (setting_of {F = g.row.F.Denot} g.F.Function.semantics g.met.F.Function.laws alloc config items is) c.args.choices.now c.args.world c.run_as_told.result
    start c.run_as_told.ensures

pub returns-clause-home : goal.returns-clause-home
returns-clause-home g c alloc config items is start = replay_homes
    (setting_of {F = g.row.F.Denot} g.F.Function.semantics g.met.F.Function.laws alloc config items is) c.args.choices.now c.args.world c.run_as_told.result
    start c.run_as_told.ensures
