-- The roles that were filled so far.
use Rattle.std.proofs.Common.{◌≡◌, None}
use Rattle.nf_io.specs.declared.outside.Role.{Role}
use Rattle.nf_io.specs.Memory.{seen_in}
use Rattle.test_program.proofs.tests.common.outside_of.Given as goal

abbrev pub invariant-loop-piece : goal.invariant-loop-piece
invariant-loop-piece l = (role : Role) → (seen_in l.outside role).name ≡ None
