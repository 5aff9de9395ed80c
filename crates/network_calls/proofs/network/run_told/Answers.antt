-- The function that the words name is the one that runs, as it is told.
use Rattle.network_calls.proofs.Words.{network_view, scenario_of}
use Rattle.network_calls.proofs.RunLemmas.{told_kind}
use Rattle.network_calls.proofs.network.run_told.Goals as goal

pub returns : goal.returns
returns c = told_kind (network_view c.args.asked.now) (scenario_of c.args.asked.now.site c.args.inputs) c.args.choices c.for_kind.result c.for_kind.ensures
