-- The records so far are listed with their units.
use Rattle.std.proofs.Common.{◌≡◌, take}
use Rattle.record_table.specs.Keeping.{pairs_of}
use Rattle.record_table.proofs.ordered.pairs_of.Given as goal

abbrev pub invariant-loop-found : goal.invariant-loop-found
invariant-loop-found g l = l.pairs.items ≡ pairs_of (take l.found-index l.found)
