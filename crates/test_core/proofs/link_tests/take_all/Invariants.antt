-- The end that takes stays an end of its link.
use Rattle.std.proofs.Common.{◌≡◌}
use Rattle.test_core.proofs.link_tests.take_all.Given as goal

abbrev pub invariant-loop : goal.invariant-loop
invariant-loop g l = l.take.link ≡ l.fn.take.link
