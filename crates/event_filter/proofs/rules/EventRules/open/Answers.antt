-- No rules: no two are of one operation.
use Rattle.event_filter.proofs.RulePlaces.{one_each-none}
use Rattle.event_filter.proofs.rules.EventRules.open.Goals as goal

pub invariant_of-result : goal.invariant_of-result
invariant_of-result g c = rw c.new.ensures.items (one_each-none g.row.P.Denot)
