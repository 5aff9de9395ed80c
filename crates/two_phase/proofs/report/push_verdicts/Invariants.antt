-- The lines so far, and those still to come.
use Rattle.std.proofs.Common.{◌≡◌, ◌++◌, drop}
use Rattle.std.specs.List.{flat_map}
use Rattle.two_phase.specs.Report.{verdict_line}
use Rattle.two_phase.proofs.report.push_verdicts.Given as goal

abbrev pub invariant-loop-note : goal.invariant-loop-note
invariant-loop-note l = l.text ++ flat_map verdict_line (drop l.note-index l.log) ≡ l.initial.text ++ flat_map verdict_line l.log
