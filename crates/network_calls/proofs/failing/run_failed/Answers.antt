-- The function that the words name is the one that runs.
use Rattle.command_words.specs.RequestViews.{fail_view}
use Rattle.call_files.specs.Phases.{scenario_of}
use Rattle.network_calls.proofs.FailLemmas.{failed_kind}
use Rattle.network_calls.proofs.failing.run_failed.Goals as goal

pub returns : goal.returns
returns c = failed_kind (fail_view c.args.asked.now) (scenario_of c.args.asked.now.network.site c.args.inputs) c.args.choices c.for_kind.result
    c.for_kind.ensures
