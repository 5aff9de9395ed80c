-- As many bytes are gone as were skipped so far.
use Rattle.std.proofs.Common.{◌≡◌, ◌≤◌, ◌-◌, length, drop, ℕ, List, Some}
use Rattle.nf_io.specs.Meaning.{StaysOpen, untouched}
use Rattle.trace_reader.proofs.takes.skip.Given as goal

abbrev pub invariant-loop-done : goal.invariant-loop-done
invariant-loop-done g l = record {
  within : l.done ≤ l.count;
  skipped : (bytes : List ℕ) → g.S.Source.left l.initial.source ≡ Some bytes → (l.done ≤ length bytes) × (g.S.Source.left l.source ≡ Some (drop l.done bytes));
  later : g.S.Source.faults l.initial.source ≤ g.S.Source.faults l.source;
  stays : StaysOpen g.S.Source.IsOpen (untouched g.S.Source.loan g.S.Source.rest) l.initial.source l.source;
}

abbrev pub decreases-loop-done : goal.decreases-loop-done
decreases-loop-done g l = l.count - l.done
