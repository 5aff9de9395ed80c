-- The pieces so far are put.
use Rattle.std.proofs.Common.{◌≡◌, ◌++◌, map, false}
use Rattle.move_op.specs.Move.{put_to}
use Rattle.move_op.proofs.plan.Plan.put_all.Given as goal

abbrev pub invariant-loop-piece : goal.invariant-loop-piece
invariant-loop-piece l = l.out ≡ (l.initial.out.0 ++ map (put_to l.self false) l.yielded, l.initial.out.1)
