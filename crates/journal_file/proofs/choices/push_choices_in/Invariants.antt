-- The choices so far, and those that the rest spells, are the whole.
use Rattle.std.proofs.Common.{◌≡◌, ◌++◌, length}
use Rattle.journal_file.specs.Reading.{choices_in}
use Rattle.journal_file.proofs.choices.push_choices_in.Given as goal

abbrev pub invariant-loop-rest : goal.invariant-loop-rest
invariant-loop-rest l = l.choices ++ choices_in l.rest ≡ l.initial.choices ++ choices_in l.bytes

abbrev pub decreases-loop-rest : goal.decreases-loop-rest
decreases-loop-rest l = length l.rest
