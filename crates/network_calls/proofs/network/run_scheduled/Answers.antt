-- The function that the words name is the one that runs, by a schedule.
use Rattle.network_calls.proofs.Words.{Some, network_view, IsRunOf, run_given, gives, scenario_of, ok_of_kind}
use Rattle.network_calls.proofs.network.run_scheduled.Goals as goal

pub returns : goal.returns
returns c =
    let s = network_view c.args.asked.now in
    ok_of_kind s.kind c.for_kind.result
    (λ made R F f. IsRunOf (run_given F f s (scenario_of c.args.asked.now.site c.args.inputs)) (Some c.args.schedule) (gives s made)) c.for_kind.ensures
