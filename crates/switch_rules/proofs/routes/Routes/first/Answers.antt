-- The classifier finds the first rule that matches, and there is one.
use Rattle.std.proofs.Common.{ap, ◌∙◌, is_some}
use Rattle.switch_rules.specs.Rules.{first_match}
use Rattle.switch_rules.proofs.FirstMatches.{answer-first}
use Rattle.switch_rules.proofs.routes.Routes.first.Goals as goal

pub returns-then-len-gt-FEW_RULES-clause-value : goal.returns-then-len-gt-FEW_RULES-clause-value
returns-then-len-gt-FEW_RULES-clause-value c =
    c.target.ensures.value
    ∙ answer-first c.self.inside.list.items c.self.inside.classifier c.self.invariant.grouped c.args.flow.now c.target.ensures.flow
    ∙ ap (λ rules. first_match rules c.args.flow.now) c.self.view_is

pub returns-then-len-gt-FEW_RULES-clause-found : goal.returns-then-len-gt-FEW_RULES-clause-found
returns-then-len-gt-FEW_RULES-clause-found c =
    ap is_some (c.target.ensures.value
    ∙ answer-first c.self.inside.list.items c.self.inside.classifier c.self.invariant.grouped c.args.flow.now c.target.ensures.flow)
    ∙ c.self.invariant.all c.args.flow.now
