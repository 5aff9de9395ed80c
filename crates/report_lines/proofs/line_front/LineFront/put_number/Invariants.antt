-- The digits that are left and the text are the number and the text before it; what is left falls.
use Rattle.std.proofs.Common.{◌≡◌, ◌++◌, decimal}
use Rattle.report_lines.proofs.line_front.LineFront.put_number.Given as goal

abbrev pub decreases-loop-left : goal.decreases-loop-left
decreases-loop-left l = l.left

abbrev pub invariant-loop-left : goal.invariant-loop-left
invariant-loop-left l = decimal l.left ++ l.self ≡ decimal l.number ++ l.fn.self
