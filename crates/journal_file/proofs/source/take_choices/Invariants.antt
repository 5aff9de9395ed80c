-- So many choices were taken so far.
use Rattle.std.proofs.Common.{◌≡◌, ◌≤◌, ◌-◌, ℕ, List, Some}
use Rattle.nf_io.specs.Meaning.{StaysOpen, untouched}
use Rattle.journal_file.proofs.TakenPieces.{IsTaken}
use Rattle.journal_file.proofs.source.take_choices.Given as goal

abbrev pub invariant-loop-done : goal.invariant-loop-done
invariant-loop-done g l = record {
  within : l.done ≤ l.count;
  taken : (bytes : List ℕ) → g.S.Source.left l.initial.source ≡ Some bytes → IsTaken l.done bytes (g.S.Source.left l.source) l.choices;
  later : g.S.Source.faults l.initial.source ≤ g.S.Source.faults l.source;
  stays : StaysOpen g.S.Source.IsOpen (untouched g.S.Source.loan g.S.Source.rest) l.initial.source l.source;
}

abbrev pub decreases-loop-done : goal.decreases-loop-done
decreases-loop-done g l = l.count - l.done
