-- The pieces so far are sent, and what is left gives the others.
use Rattle.std.proofs.Common.{◌≡◌, ◌++◌, map, length}
use Rattle.nf_msgs.specs.declared.msg.Msg.TheVariants.{Piece}
use Rattle.instance_worker.specs.Pieces.{pieces}
use Rattle.instance_worker.specs.Instance.{to_controller}
use Rattle.instance_worker.proofs.PieceLemmas.{IsLeft}
use Rattle.instance_worker.proofs.instance.Instance.send_pieces.Given as goal

abbrev pub invariant-loop-left : goal.invariant-loop-left
invariant-loop-left g l = record {
  sends : IsLeft (record { op = l.op; whole = l.whole; all = l.initial.out.0 ++ to_controller (map (Piece l.op) (pieces l.fn.chunks)) }) l.left.items l.out.0;
  notes : l.out.1 ≡ l.initial.out.1;
}

abbrev pub decreases-loop-left : goal.decreases-loop-left
decreases-loop-left g l = length l.left.items
