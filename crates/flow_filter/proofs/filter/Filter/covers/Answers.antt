-- `covers` is exact, by what `covered` ensures.
use Rattle.flow_filter.proofs.FilterLemmas.{covers_law}
use Rattle.flow_filter.proofs.filter.Filter.covers.Goals as goal

pub returns-clause-exact : goal.returns-clause-exact
returns-clause-exact c =
    let law = covers_law c.args.self.now c.args.other.now c.covered.ensures.x_fits c.covered.ensures.y_fits in
    rw c.covered.ensures.value law
