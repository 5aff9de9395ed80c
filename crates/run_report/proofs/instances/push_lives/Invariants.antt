-- The lines of the instances so far, and those still to come.
use Rattle.std.proofs.Common.{◌≡◌, ◌++◌, drop}
use Rattle.std.specs.List.{flat_map}
use Rattle.run_report.specs.Lines.{live_line}
use Rattle.run_report.proofs.instances.push_lives.Given as goal

abbrev pub invariant-loop-named : goal.invariant-loop-named
invariant-loop-named g l = l.text ++ flat_map live_line (drop l.named-index l.instances) ≡ l.fn.text ++ flat_map live_line l.instances
