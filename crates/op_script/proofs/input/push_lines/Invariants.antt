-- The lines that were put so far.
use Rattle.op_script.proofs.Words.{◌≡◌, ◌++◌, map, take, msg_of}
use Rattle.op_script.proofs.input.push_lines.Given as goal

-- the lines so far are put
abbrev pub invariant-loop-line : goal.invariant-loop-line
invariant-loop-line l = l.late.items ≡ l.initial.late.items ++ map (λ line. msg_of line.now.what) (take l.line-index l.lines)
