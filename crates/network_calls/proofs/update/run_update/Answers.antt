-- The function that the words name is the one that runs, over what was read.
use Rattle.network_calls.proofs.Words.{refl, published_view, reports, IsUpdateOf, scene_of, ok_of_kind}
use Rattle.network_calls.proofs.CapturedJobs.{is_update}
use Rattle.network_calls.proofs.update.run_update.Goals as goal

pub for_kind-requires : goal.for_kind-requires
for_kind-requires c = (refl, is_update c.args.asked.now c.args.trace c.are_in_range.ensures.site c.are_in_range.ensures.filter c.requires)

pub returns : goal.returns
returns c =
    let p = published_view c.args.asked.now in
    ok_of_kind p.kind c.for_kind.result (λ made R F f. IsUpdateOf F f p (scene_of c.args.asked.now c.args.trace) c.args.schedule (reports made))
    c.for_kind.ensures
