-- The lines of the numbers so far, and those still to come.
use Rattle.standby_failover.proofs.Words.{◌≡◌, ◌++◌, drop, flat_map}
use Rattle.standby_failover.specs.Lines.{number_line}
use Rattle.standby_failover.proofs.reporting.push_numbers.Given as goal

abbrev pub invariant-loop-number : goal.invariant-loop-number
invariant-loop-number l = l.text ++ flat_map (number_line l.word) (drop l.number-index l.numbers) ≡ l.fn.text ++ flat_map (number_line l.word) l.numbers
