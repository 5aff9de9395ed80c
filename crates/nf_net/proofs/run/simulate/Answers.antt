-- A world at its start, run by a schedule to its end, keeps the promises.
use Rattle.nf_net.proofs.Words.{setting_of}
use Rattle.nf_net.proofs.EveryRun.{Ends, ends, stops}
use Rattle.nf_net.proofs.run.simulate.Given.{Over}
use Rattle.nf_net.proofs.run.simulate.Goals as goal
use Rattle.nf_net.proofs.run.simulate.Goals.{After-run_by_schedule}

ended : (g : Over) (c : After-run_by_schedule g) → Ends
    (setting_of {F = g.row.F.Denot} g.F.Function.semantics g.met.F.Function.laws c.args.alloc c.args.config.now c.args.items.items c.requires) c.args.schedule
    c.run_by_schedule.result
ended g c = ends (setting_of {F = g.row.F.Denot} g.F.Function.semantics g.met.F.Function.laws c.args.alloc c.args.config.now c.args.items.items c.requires)
    c.args.schedule c.run_by_schedule.result c.in_ok-world.world c.in_ok-world.ensures c.run_by_schedule.ensures.choices c.run_by_schedule.ensures.world
    c.run_by_schedule.ensures.run c.run_by_schedule.ensures.complete

pub returns-clause-choices : goal.returns-clause-choices
returns-clause-choices g c = (ended g (goal.at.returns-clause-choices g c).After-run_by_schedule).choices

pub returns-clause-end : goal.returns-clause-end
returns-clause-end g c = (ended g (goal.at.returns-clause-end g c).After-run_by_schedule).end

pub returns-clause-promises : goal.returns-clause-promises
returns-clause-promises g c = (ended g (goal.at.returns-clause-promises g c).After-run_by_schedule).promises

pub returns-clause-completed : goal.returns-clause-completed
returns-clause-completed g c = (ended g (goal.at.returns-clause-completed g c).After-run_by_schedule).completed

pub returns-clause-home : goal.returns-clause-home
returns-clause-home g c = (ended g (goal.at.returns-clause-home g c).After-run_by_schedule).home

pub returns-clause-unfinished : goal.returns-clause-unfinished
returns-clause-unfinished g c step is =
    let short = c.run_by_schedule.ensures.unfinished step is in
    stops (setting_of {F = g.row.F.Denot} g.F.Function.semantics g.met.F.Function.laws c.args.alloc c.args.config.now c.args.items.items c.requires)
    c.args.schedule c.in_ok-world.world c.in_ok-world.ensures step short.0 short.1

pub returns-clause-verdicts : goal.returns-clause-verdicts
returns-clause-verdicts g c = (ended g (goal.at.returns-clause-verdicts g c).After-run_by_schedule).verdicts

pub returns-clause-standbys : goal.returns-clause-standbys
returns-clause-standbys g c = (ended g (goal.at.returns-clause-standbys g c).After-run_by_schedule).standbys
