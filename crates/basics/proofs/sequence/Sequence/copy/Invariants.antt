-- So far the copy has the items before the place of the loop.
use Rattle.std.proofs.Common.{◌≡◌, take}
use Rattle.basics.proofs.sequence.Sequence.copy.Given as goal

abbrev pub invariant-loop-item : goal.invariant-loop-item
invariant-loop-item g l = l.other ≡ take l.item-index l.item-items
