-- What is sent on so far and what is left are all.
use Rattle.two_phase.proofs.Words.{◌≡◌, ◌++◌, length, forward_messages}
use Rattle.two_phase.proofs.moving.forward_all.Given as goal

abbrev pub invariant-loop-cell : goal.invariant-loop-cell
invariant-loop-cell l = (l.out.0 ++ forward_messages l.cells.items ≡ l.initial.out.0 ++ forward_messages l.initial.cells.items) × (l.out.1 ≡ l.initial.out.1)

abbrev pub decreases-loop-cell : goal.decreases-loop-cell
decreases-loop-cell l = length l.cells.items
