-- The counts so far, and those still to come.
use Rattle.std.proofs.Common.{◌≡◌, ◌++◌, drop}
use Rattle.std.specs.List.{flat_map}
use Rattle.report_lines.specs.Pieces.{count_text}
use Rattle.report_lines.proofs.instances.push_counts.Given as goal

abbrev pub invariant-loop-slot : goal.invariant-loop-slot
invariant-loop-slot l = l.text ++ flat_map count_text (drop l.slot-index l.slot-items) ≡ l.fn.text ++ flat_map count_text l.slot-items
