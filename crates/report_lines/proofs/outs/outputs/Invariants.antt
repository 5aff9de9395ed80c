-- The outputs of the notes so far, and those still to come.
use Rattle.std.proofs.Common.{◌≡◌, ◌++◌, drop, filter_map}
use Rattle.report_lines.specs.Lines.{output_in}
use Rattle.report_lines.proofs.outs.outputs.Given as goal

abbrev pub invariant-loop-note : goal.invariant-loop-note
invariant-loop-note l = l.found.items ++ filter_map output_in (drop l.note-index l.log) ≡ filter_map output_in l.log
