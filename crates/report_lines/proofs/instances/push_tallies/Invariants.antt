-- The lines of the instances so far, and those still to come.
use Rattle.std.proofs.Common.{◌≡◌, ◌++◌, drop}
use Rattle.std.specs.List.{flat_map}
use Rattle.report_lines.specs.Lines.{tally_line}
use Rattle.report_lines.proofs.instances.push_tallies.Given as goal

abbrev pub invariant-loop-named : goal.invariant-loop-named
invariant-loop-named g l = l.text ++ flat_map (tally_line l.count) (drop l.named-index l.instances) ≡ l.fn.text ++ flat_map (tally_line l.count) l.instances
