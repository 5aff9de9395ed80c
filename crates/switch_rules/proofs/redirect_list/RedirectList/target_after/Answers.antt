-- The sections lead a flow's target to where their redirects do.
use Rattle.std.proofs.Common.{ap, ◌∙◌}
use Rattle.switch_rules.specs.Rules.{target_after}
use Rattle.switch_rules.specs.Sections.{target_after_sections}
use Rattle.switch_rules.proofs.SectionLemmas.{after_sections}
use Rattle.switch_rules.proofs.redirect_list.RedirectList.target_after.Goals as goal

pub returns : goal.returns
returns c =
    let flow = c.args.flow.now in
    c.target_by_spans.ensures ∙ ap (λ xs. target_after_sections xs flow c.args.before) c.deref.ensures.value
    ∙ after_sections flow c.self.inside.sections.items c.args.before ∙ ap (λ xs. target_after xs flow c.args.before) c.self.view_is
