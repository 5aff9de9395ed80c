-- The laws of `meet`, from `met`, which knows that the numbers are within their types.
use Rattle.std.proofs.Common.{◌∙◌, ap, is_some}
use Rattle.flow_filter.proofs.FilterLemmas.{meet_clauses}
use Rattle.flow_filter.proofs.FilterMeets.{some-meet}
use Rattle.flow_filter.proofs.filter.Filter.meet.Goals as goal

pub returns-clause-exact : goal.returns-clause-exact
returns-clause-exact c = (meet_clauses _ _ c.met.result c.met.ensures.x_fits c.met.ensures.y_fits c.met.ensures.value).exact

pub returns-clause-some : goal.returns-clause-some
returns-clause-some c = (meet_clauses _ _ c.met.result c.met.ensures.x_fits c.met.ensures.y_fits c.met.ensures.value).some

pub returns-clause-none : goal.returns-clause-none
returns-clause-none c = (meet_clauses _ _ c.met.result c.met.ensures.x_fits c.met.ensures.y_fits c.met.ensures.value).none

pub returns-clause-agree : goal.returns-clause-agree
returns-clause-agree c = ap is_some c.met.ensures.value ∙ some-meet c.args.self.now c.args.other.now
