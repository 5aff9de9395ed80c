-- One more round, and none.
use Rattle.std.proofs.Common.{refl, add-one, arith}
use Rattle.std.proofs.lemmas.Grind.{common_steps}
use Rattle.speed_core.specs.Work.{scrambled}
use Rattle.speed_core.proofs.work.scramble.Goals as goal

pub loop-round-init : goal.loop-round-init
unfolding scrambled
loop-round-init c = refl

pub loop-round-preserved : goal.loop-round-preserved
unfolding scrambled
loop-round-preserved c = rw (add-one c.loop-round._round) (grind (arith, common_steps))
