-- The records so far, and those still to come.
use Rattle.std.proofs.Common.{◌≡◌, ◌++◌, map, drop}
use Rattle.report_lines.specs.Lines.{named_records}
use Rattle.report_lines.specs.Seen.{record_seen}
use Rattle.report_lines.proofs.SortedAlready.{named}
use Rattle.report_lines.proofs.states.add_records.Given as goal

abbrev pub invariant-loop-unit : goal.invariant-loop-unit
invariant-loop-unit g l =
    map record_seen l.found.items ++ map (named l.named.name) (map (λ e. (e.0, e.1.now)) (drop l.unit-index l.unit-items))
    ≡ map record_seen l.fn.found.items ++ named_records l.live l.named
