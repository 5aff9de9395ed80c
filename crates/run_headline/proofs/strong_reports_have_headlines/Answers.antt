-- The law of strong sharing's headline is proved for any function.
use Rattle.run_headline.proofs.others.StrongTexts.{strong_law}
use Rattle.run_headline.proofs.strong_reports_have_headlines.Goals as goal

pub returns : goal.returns
returns g c = strong_law g.row.F.Denot g.F.Function.semantics g.met.F.Function.laws
