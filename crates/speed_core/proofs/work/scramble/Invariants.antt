-- The value is that of the rounds so far.
use Rattle.std.proofs.Common.{◌≡◌}
use Rattle.speed_core.specs.Work.{scrambled}
use Rattle.speed_core.proofs.work.scramble.Given as goal

abbrev pub invariant-loop-round : goal.invariant-loop-round
invariant-loop-round l = l.value ≡ scrambled l._round l.seed
