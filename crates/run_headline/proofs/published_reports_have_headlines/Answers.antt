-- The law of a two-phase update's headline is proved for any function.
use Rattle.run_headline.proofs.others.TwoHeadlines.{published_law}
use Rattle.run_headline.proofs.published_reports_have_headlines.Goals as goal

pub returns : goal.returns
returns g c = published_law g.row.F.Denot g.F.Function.semantics g.met.F.Function.laws
