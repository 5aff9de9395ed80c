-- The law of ends is proved for any function.
use Rattle.network_calls.proofs.RunsEnd.{end_law}
use Rattle.network_calls.proofs.network.runs_end.Goals as goal

pub returns : goal.returns
returns g c = end_law g.row.F.Denot g.F.Function.semantics g.met.F.Function.laws
