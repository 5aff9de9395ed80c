-- The answers of the notes so far, and those still to come.
use Rattle.std.proofs.Common.{◌≡◌, ◌++◌, map, drop, filter_map}
use Rattle.run_report.specs.Seen.{answer_seen}
use Rattle.run_report.proofs.answers.answers.Given as goal
use Rattle.net_world.specs.Log.{answer_in}

abbrev pub invariant-loop-note : goal.invariant-loop-note
invariant-loop-note l = map answer_seen l.found.items ++ filter_map answer_in (drop l.note-index l.log) ≡ filter_map answer_in l.log
