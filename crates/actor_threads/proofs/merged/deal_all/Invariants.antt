-- The log so far and the notes of the choices that are left are the whole log.
use Rattle.std.proofs.Common.{◌≡◌, ◌++◌}
use Rattle.actor_net.specs.Histories.{notes_of_choices}
use Rattle.actor_threads.specs.LinkTable.{row_at}
use Rattle.actor_threads.proofs.merged.deal_all.Given as goal

abbrev pub invariant-loop-choice : goal.invariant-loop-choice
invariant-loop-choice g l = l.log.items ++ notes_of_choices (λ j. row_at l.notes.items j) l.choice-iterator
    ≡ l.fn.log.items ++ notes_of_choices (λ j. row_at l.fn.notes.items j) l.choices
