-- The order of records, at the laws of the bound.
use Rattle.nf_function.proofs.RecordOrder.{newer_is_order}
use Rattle.nf_function.proofs.function.newer_is_an_order.Goals as goal

pub returns : goal.returns
returns g c = newer_is_order g.F.Function.semantics g.met.F.Function.laws
