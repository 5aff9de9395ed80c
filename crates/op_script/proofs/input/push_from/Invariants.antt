-- The lines at the point that were put so far.
use Rattle.op_script.proofs.Words.{◌≡◌, ◌++◌, take, said_where}
use Rattle.std.specs.Prelude.{nat_le}
use Rattle.op_script.proofs.input.push_from.Given as goal

-- the lines so far are written
abbrev pub invariant-loop-line : goal.invariant-loop-line
invariant-loop-line l = l.out.items ≡ l.initial.out.items ++ said_where (λ at. nat_le l.point at) (take l.line-index l.lines)
