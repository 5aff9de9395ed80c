-- The numbers so far are marked.
use Rattle.standby_failover.proofs.Words.{◌≡◌, ℕ, take, is_in, is_marked}
use Rattle.standby_failover.proofs.numbers.marks_of.Given as goal

abbrev pub invariant-loop-number : goal.invariant-loop-number
invariant-loop-number l = (q : ℕ) → is_marked l.marks.items q ≡ is_in q (take l.number-index l.numbers)
