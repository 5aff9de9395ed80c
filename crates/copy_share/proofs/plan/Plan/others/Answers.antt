-- One member more stands there, where it is another than the one.
use Rattle.std.proofs.Common.{arith}
use Rattle.std.proofs.lemmas.Grind.{common_steps}
use Rattle.std.proofs.lemmas.List.Elements.{filter_more}
use Rattle.copy_share.proofs.plan.Plan.others.Goals as goal
use Rattle.copy_share.proofs.plan.Plan.others.Goals.{then-member-one+in_ok-push, else-member-one}

pub loop-member-preserved : goal.loop-member-preserved
loop-member-preserved c = elim c.if-member-one.branch [
  | then-member-one+in_ok-push w ↦ (grind (arith, common_steps, filter_more), grind (arith, common_steps))
  | else-member-one w ↦ (grind (arith, common_steps, filter_more), rw w.others-is c.loop-member.invariant.1)
]
