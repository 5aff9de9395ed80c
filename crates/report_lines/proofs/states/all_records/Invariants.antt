-- The records of the instances so far, and those still to come.
use Rattle.std.proofs.Common.{◌≡◌, ◌++◌, map, drop}
use Rattle.std.specs.List.{flat_map}
use Rattle.report_lines.specs.Lines.{named_records}
use Rattle.report_lines.specs.Seen.{record_seen}
use Rattle.report_lines.proofs.states.all_records.Given as goal

abbrev pub invariant-loop-named : goal.invariant-loop-named
invariant-loop-named g l =
    map record_seen l.found.items ++ flat_map (named_records l.live) (drop l.named-index l.instances)
    ≡ flat_map (named_records l.live) l.instances
