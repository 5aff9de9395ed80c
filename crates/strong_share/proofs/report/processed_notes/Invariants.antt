-- The notes so far, and those still to come.
use Rattle.strong_share.proofs.Words.{◌≡◌, ◌++◌, drop, filter_map, processed_in, inner_notes}
use Rattle.strong_share.proofs.report.processed_notes.Given as goal

abbrev pub invariant-loop-note : goal.invariant-loop-note
invariant-loop-note l = l.notes.items ++ filter_map processed_in (inner_notes (drop l.note-index l.log)) ≡ filter_map processed_in (inner_notes l.log)
