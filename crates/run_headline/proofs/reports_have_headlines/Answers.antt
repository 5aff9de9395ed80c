-- The law of headlines is proved for any function.
use Rattle.run_headline.proofs.ReportTexts.{reported}
use Rattle.run_headline.proofs.reports_have_headlines.Goals as goal

pub returns : goal.returns
returns g c = reported g.row.F.Denot g.F.Function.semantics g.met.F.Function.laws
