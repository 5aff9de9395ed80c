-- What is noted so far and what is left are all.
use Rattle.std.proofs.Common.{◌≡◌, ◌++◌, map, length}
use Rattle.two_phase.specs.declared.note.TwoNote.TheVariants.{Inner}
use Rattle.two_phase.proofs.node.note_all.Given as goal

abbrev pub invariant-loop-note : goal.invariant-loop-note
invariant-loop-note l = (l.out.1 ++ map Inner l.notes.items ≡ l.initial.out.1 ++ map Inner l.initial.notes.items) × (l.out.0 ≡ l.initial.out.0)

abbrev pub decreases-loop-note : goal.decreases-loop-note
decreases-loop-note l = length l.notes.items
