-- A filter that matches the flow stands in one of the flow's spans.
use Rattle.std.proofs.Common.{ap, ◌∙◌}
use Rattle.std.specs.List.{list_any}
use Rattle.switch_rules.specs.Spans.{may_take}
use Rattle.switch_rules.proofs.NextPlaces.{taken_in_some}
use Rattle.switch_rules.proofs.spans.Spans.next.Goals as goal

pub returns-clause-before : goal.returns-clause-before
returns-clause-before c i f later noted matched = c.next_place.ensures.before i later
    (ap (list_any (may_take c.args.flow.now c.args.target i)) (c.deref.ensures.value ∙ c.self.view_is)
    ∙ taken_in_some c.args.flow.now c.next_place.ensures.flow c.args.target i f c.args.self.now matched noted)
