-- The names so far, and those still to come.
use Rattle.std.proofs.Common.{◌≡◌, ◌++◌, drop}
use Rattle.report_lines.specs.Seen.{texts_seen}
use Rattle.report_lines.proofs.dones.name_bytes.Given as goal

abbrev pub invariant-loop-name : goal.invariant-loop-name
invariant-loop-name l = texts_seen l.found.items ++ drop l.name-index l.names ≡ l.names
