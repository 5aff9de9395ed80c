-- The names that were written so far, each after a comma.
use Rattle.op_script.proofs.Words.{◌≡◌, ◌++◌, take, true, after_commas}
use Rattle.op_script.proofs.printing.print_more.Given as goal

-- the names so far are written
abbrev pub invariant-loop-name : goal.invariant-loop-name
invariant-loop-name l = l.out ≡ l.initial.out ++ after_commas true (take l.name-index l.names)
