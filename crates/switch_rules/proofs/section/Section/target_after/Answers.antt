-- A flow that the filters match is led by the targets alone, and any other keeps its target.
use Rattle.std.proofs.Common.{rules, ap, sym, ◌∙◌, ◌&&◌, cond, eqb-true, arith}
use Rattle.flow_filter.specs.Filter.{IsFlow}
use Rattle.switch_rules.specs.Rules.{target_after, target_eq}
use Rattle.switch_rules.specs.Sections.{target_of_matched}
use Rattle.switch_rules.proofs.SectionLemmas.{after_matched, after_one, after_unmatched}
use Rattle.switch_rules.proofs.section.Section.target_after.Goals as goal

pub returns-then-is_empty : goal.returns-then-is_empty
returns-then-is_empty c =
    let first = c.self.inside.first in let rest = c.self.inside.rest in
    c.target_after-target.ensures
    ∙ after_one c.args.flow first rest.items c.args.before (omega (arith, eqb-true _ _ (sym c.is_empty.ensures ∙ c.if-is_empty.true), rest.ok.0))
    ∙ ap (λ xs. target_after xs c.args.flow c.args.before) c.self.view_is

pub returns-then-not-matches : goal.returns-then-not-matches
returns-then-not-matches c =
    let flow = c.args.flow in let first = c.self.inside.first in let rest = c.self.inside.rest.items in
    let flows : IsFlow flow = search rules in
    sym (ap (λ xs. target_after xs flow c.args.before) (sym c.self.view_is)
    ∙ ap (λ b. target_after rest flow (cond (b && target_eq c.args.before first.from) first.to c.args.before)) (sym c.matches.ensures ∙ c.if-not-matches.true)
    ∙ after_unmatched flow flows first rest c.self.invariant (sym c.matches.ensures ∙ c.if-not-matches.true) c.args.before)

pub returns : goal.returns
returns c =
    let flow = c.args.flow in let first = c.self.inside.first in let rest = c.self.inside.rest.items in
    let flows : IsFlow flow = search rules in
    c.target_of_matched.ensures
    ∙ ap (λ xs. target_of_matched xs c.target_after-target.result) c.deref.ensures.value
    ∙ after_matched flow flows first rest c.self.invariant (sym c.matches.ensures ∙ c.if-not-matches.false) c.target_after-target.result
    ∙ ap (target_after rest flow) c.target_after-target.ensures
    ∙ ap (λ xs. target_after xs flow c.args.before) c.self.view_is
