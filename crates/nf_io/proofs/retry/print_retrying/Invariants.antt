-- A write that a signal interrupted wrote nothing.
use Rattle.std.proofs.Common.{◌≡◌}
use Rattle.nf_io.proofs.retry.print_retrying.Given as goal

abbrev pub invariant-loop : goal.invariant-loop
invariant-loop g l = g.S.System.told l.system ≡ g.S.System.told l.initial.system
