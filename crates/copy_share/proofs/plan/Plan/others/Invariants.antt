-- The members so far but for one.
use Rattle.std.proofs.Common.{◌≡◌, ◌<◌, ◌==◌, take, not}
use Rattle.std.specs.List.{All, filter}
use Rattle.nf_msgs.specs.declared.nodes.TheConstants.{MOST_INSTANCES}
use Rattle.copy_share.proofs.plan.Plan.others.Given as goal

abbrev pub invariant-loop-member : goal.invariant-loop-member
invariant-loop-member l = (l.others.items ≡ filter (λ member. not (member == l.one)) (take l.member-index l.member-items))
    × All (λ member. member < MOST_INSTANCES) l.others.items
