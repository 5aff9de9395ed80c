-- What is noted so far and what is left, from its end, are all.
use Rattle.std.proofs.Common.{◌≡◌, ◌++◌, map, reverse, length}
use Rattle.strong_share.specs.declared.note.StrongNote.TheVariants.{Inner}
use Rattle.strong_share.proofs.member.note_all.Given as goal

abbrev pub invariant-loop-note : goal.invariant-loop-note
invariant-loop-note l =
    (l.out.1 ++ map Inner (reverse l.notes.items) ≡ l.initial.out.1 ++ map Inner (reverse l.initial.notes.items)) × (l.out.0 ≡ l.initial.out.0)

abbrev pub decreases-loop-note : goal.decreases-loop-note
decreases-loop-note l = length l.notes.items
