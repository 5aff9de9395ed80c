-- The names so far, and those still to come.
use Rattle.std.proofs.Common.{◌≡◌, ◌++◌, map, drop}
use Rattle.report_lines.specs.Seen.{name_seen, texts_seen}
use Rattle.report_lines.proofs.dones.name_ends.Given as goal

abbrev pub invariant-loop-name : goal.invariant-loop-name
invariant-loop-name l = map name_seen l.ends.items ++ texts_seen (drop l.name-index l.names) ≡ texts_seen l.names
