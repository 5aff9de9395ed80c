-- The law of a failover's headline is proved for any function.
use Rattle.run_headline.proofs.others.FailedTexts.{failover_law}
use Rattle.run_headline.proofs.failover_reports_have_headlines.Goals as goal

pub returns : goal.returns
returns g c = failover_law g.row.F.Denot g.row.F-Record.Denot
