-- The entries so far, and those still to come.
use Rattle.strong_share.proofs.Words.{◌≡◌, ◌++◌, drop, entries}
use Rattle.strong_share.proofs.report.entries.Given as goal

abbrev pub invariant-loop-note : goal.invariant-loop-note
invariant-loop-note l = l.queued.items ++ entries (drop l.note-index l.log) ≡ entries l.log
