-- The bytes so far, and those of the choices still to come, are the whole.
use Rattle.std.proofs.Common.{◌≡◌, ◌++◌}
use Rattle.std.specs.List.{flat_map}
use Rattle.journal_file.specs.Format.{choice_bytes}
use Rattle.journal_file.proofs.choices.push_bytes_of.Given as goal

abbrev pub invariant-loop-choice : goal.invariant-loop-choice
invariant-loop-choice l =
    l.bytes ++ flat_map choice_bytes l.choice-iterator ≡ l.initial.bytes ++ flat_map choice_bytes l.choices
