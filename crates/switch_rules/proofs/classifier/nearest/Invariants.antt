-- The best of the entries that the flow meets in the groups so far.
use Rattle.std.proofs.Common.{◌≡◌, take}
use Rattle.switch_rules.specs.Groups.{entries_met, least}
use Rattle.switch_rules.proofs.classifier.nearest.Given as goal

abbrev pub invariant-loop-group : goal.invariant-loop-group
invariant-loop-group l = l.first ≡ least (entries_met (take l.group-index l.groups) l.flow)
