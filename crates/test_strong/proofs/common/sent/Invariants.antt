-- So far there are as many packets as numbers before the next.
use Rattle.test_strong.proofs.Numbers.{AreSo}
use Rattle.test_strong.proofs.common.sent.Given as goal

abbrev pub invariant-loop-before : goal.invariant-loop-before
invariant-loop-before l = AreSo l.site l.packets l.before
