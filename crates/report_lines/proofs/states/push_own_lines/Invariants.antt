-- The records so far, and those still to come.
use Rattle.std.proofs.Common.{◌≡◌, ◌++◌, map, drop}
use Rattle.std.specs.List.{flat_map}
use Rattle.report_lines.specs.Lines.{named_records, record_line}
use Rattle.report_lines.proofs.SortedAlready.{named}
use Rattle.report_lines.proofs.states.push_own_lines.Given as goal

abbrev pub invariant-loop-unit : goal.invariant-loop-unit
invariant-loop-unit g l =
    l.text ++ flat_map (record_line g.F.Function.semantics l.word) (map (named l.named.name) (map (λ e. (e.0, e.1.now)) (drop l.unit-index l.unit-items)))
    ≡ l.fn.text ++ flat_map (record_line g.F.Function.semantics l.word) (named_records l.live l.named)
