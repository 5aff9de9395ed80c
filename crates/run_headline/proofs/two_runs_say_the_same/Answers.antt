-- The law is proved for any function.
use Rattle.run_headline.proofs.TwoRuns.{two_runs}
use Rattle.run_headline.proofs.two_runs_say_the_same.Goals as goal

pub returns : goal.returns
returns g c = two_runs g.row.F-Record.Denot
