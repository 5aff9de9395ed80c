-- One number more is marked.
use Rattle.standby_failover.proofs.Marks.{marked_more}
use Rattle.standby_failover.proofs.numbers.marks_of.Goals as goal

pub loop-number-preserved : goal.loop-number-preserved
loop-number-preserved c =
    λ q. marked_more c.args.numbers.now c.loop-number.number-index 0 q _ _ c.loop-number-test.true (c.in_ok-mark.ensures q) (c.loop-number.invariant q)
