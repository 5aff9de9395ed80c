-- The parcels so far are sent on.
use Rattle.std.proofs.Common.{◌≡◌, ◌++◌, map}
use Rattle.move_op.specs.Move.{forward_to}
use Rattle.move_op.proofs.plan.Plan.forward_all.Given as goal

abbrev pub invariant-loop-parcel : goal.invariant-loop-parcel
invariant-loop-parcel l = l.out ≡ (l.initial.out.0 ++ map (forward_to l.self l.to) l.yielded, l.initial.out.1)
