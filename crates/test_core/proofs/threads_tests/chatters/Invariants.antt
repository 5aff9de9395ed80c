-- There are as many nodes as numbers so far.
use Rattle.std.proofs.Common.{◌≡◌, length}
use Rattle.test_core.proofs.threads_tests.chatters.Given as goal

abbrev pub invariant-loop-number : goal.invariant-loop-number
invariant-loop-number l = length l.all.items ≡ l.number
