-- One more group.
use Rattle.std.proofs.Common.{ap, sym, ◌∙◌}
use Rattle.switch_rules.specs.Groups.{nearer}
use Rattle.switch_rules.proofs.FirstMatches.{least-met_more}
use Rattle.switch_rules.proofs.classifier.nearest.Goals as goal

pub loop-group-preserved : goal.loop-group-preserved
loop-group-preserved c =
    c.nearer-first.ensures ∙ ap (λ o. nearer o c.find-found.result) c.loop-group.invariant ∙ ap (nearer _) c.find-found.ensures
    ∙ sym (least-met_more c.args.groups.now c.args.flow c.loop-group.group-index c.group-item.result c.loop-group-test.true c.group-item.is)
