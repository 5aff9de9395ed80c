-- The rule that decides is the one of its operation, since each has at most one.
use Rattle.std.proofs.Common.{◌≡◌, arith, ap, sym, ◌∙◌, subst}
use Rattle.event_filter.specs.Rules.{HaveOneEach, first_rule, decided, decided_by, named_by}
use Rattle.event_filter.specs.declared.mark.Mark.TheVariants.{Plain}
use Rattle.std.proofs.lemmas.Grind.{common_steps}
use Rattle.event_filter.proofs.Decisions.{own_rule, named_rule}
use Rattle.event_filter.proofs.rules.EventRules.decide.Goals as goal

pub returns-in-Some-clause-own : goal.returns-in-Some-clause-own
returns-in-Some-clause-own g c = own_rule _ _ (subst (λ rs. HaveOneEach rs) c.self.view_is c.self.invariant)

pub returns-in-Some-clause-named : goal.returns-in-Some-clause-named
returns-in-Some-clause-named g c op e =
    let first : decided_by (first_rule c.args.self.now c.args.flow.now) ≡ decided c.in-Some.rule.now.op c.in-Some.rule.now.action =
    grind (arith, common_steps, c.in-Some.ensures) in
    named_rule _ c.args.flow.now Plain op (subst (λ rs. HaveOneEach rs) c.self.view_is c.self.invariant) (ap named_by (first ∙ sym c.decided.ensures) ∙ e)

pub returns-in-Pass-clause-own : goal.returns-in-Pass-clause-own
returns-in-Pass-clause-own g c = own_rule _ _ (subst (λ rs. HaveOneEach rs) c.self.view_is c.self.invariant)

pub returns-in-Pass-2-clause-own : goal.returns-in-Pass-2-clause-own
returns-in-Pass-2-clause-own g c = own_rule _ _ (subst (λ rs. HaveOneEach rs) c.self.view_is c.self.invariant)
