-- The chunks have gone to the members so far.
use Rattle.std.proofs.Common.{◌≡◌, ◌++◌, ◌==◌, map, take}
use Rattle.nf_msgs.specs.Nodes.{instance_node}
use Rattle.nf_msgs.specs.declared.msg.Msg.TheVariants.{Sync}
use Rattle.copy_share.specs.Share.{home}
use Rattle.copy_share.proofs.plan.Plan.sync_others.Given as goal

abbrev pub invariant-loop-member : goal.invariant-loop-member
invariant-loop-member l =
    l.out ≡ (
      l.initial.out.0 ++ map (λ member. (instance_node member, Sync (member == home l.self) l.self.op l.fn.chunks)) (take l.member-index l.member-items),
      l.initial.out.1,
    )
