-- The function that the words name is the one that runs, over what was read.
use Rattle.network_calls.proofs.Words.{refl, strong_view, reports, IsSharingOf, sharing_scene, ok_of_kind}
use Rattle.network_calls.proofs.CapturedJobs.{can_share}
use Rattle.network_calls.proofs.sharing.run_sharing.Goals as goal

pub for_kind-requires : goal.for_kind-requires
for_kind-requires c = (refl, can_share c.args.asked.now c.args.trace c.are_in_range.ensures.site c.are_in_range.ensures.filter c.requires)

pub returns : goal.returns
returns c =
    let s = strong_view c.args.asked.now in
    ok_of_kind s.kind c.for_kind.result (λ made R F f. IsSharingOf F f s (sharing_scene c.args.asked.now c.args.trace) c.args.schedule (reports made))
    c.for_kind.ensures
