-- The end that sends stays an end of its link.
use Rattle.std.proofs.Common.{◌≡◌}
use Rattle.test_core.proofs.link_tests.send_all.Given as goal

abbrev pub invariant-loop-number : goal.invariant-loop-number
invariant-loop-number g l = l.send.link ≡ l.fn.send.link
