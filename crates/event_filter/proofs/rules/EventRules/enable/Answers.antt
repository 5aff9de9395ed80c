-- The rule is written at the operation's place, or goes after the others.
use Rattle.std.proofs.Common.{◌≡◌, eqb, None, Some, [], ◌∷◌, ◌++◌, set, refl, ap, sym, ◌∙◌}
use Rattle.std.specs.Prelude.{position}
use Rattle.event_filter.specs.declared.mark.Mark.TheVariants.{Plain}
use Rattle.event_filter.specs.Rules.{decide, rule_at, held_at, with_rule_of, with_rule}
use Rattle.event_filter.proofs.RulePlaces.{set-changed, one_each-changed, one_each-push, none-position, rule_at-position, with_rule-some, with_rule-none}
use Rattle.event_filter.proofs.RuleLookUps.{rule_at-with_rule, held_at-with_rule}
use Rattle.event_filter.proofs.Decisions.{decide-with_rule_taken, decide-with_rule_passed}
use Rattle.event_filter.proofs.rules.EventRules.enable.Goals as goal

pub invariant_of-self : goal.invariant_of-self
invariant_of-self g c =
    let found : position (λ x. eqb x.op c.args.op) c.self.inside.rules.items ≡ Some c.in-Some.place = cc in
    rw (set-changed c.self.inside.rules.items c.args.op c.in-Some.place c.index_mut-rule.result.now (with_rule_of c.args.filter c.args.action) found
    c.index_mut-rule.ensures.value c.self.invariant)
    (one_each-changed c.self.inside.rules.items c.args.op (with_rule_of c.args.filter c.args.action) (λ r. refl) c.self.invariant)

pub returns-in-Some : goal.returns-in-Some
returns-in-Some g c =
    let items = c.self.inside.rules.items in
    let now = c.args.self.now in
    let op = c.args.op in
    let f = c.args.filter in
    let act = c.args.action in
    let rule = c.index_mut-rule.result.now in
    let found : position (λ x. eqb x.op op) items ≡ Some c.in-Some.place = cc in
    let list : set items c.in-Some.place (with_rule_of f act rule) ≡ with_rule now op f act
    = set-changed items op c.in-Some.place rule (with_rule_of f act) found c.index_mut-rule.ensures.value c.self.invariant
    ∙ sym (with_rule-some items op rule f act (rule_at-position items op c.in-Some.place rule found c.index_mut-rule.ensures.value))
    ∙ ap (λ rs. with_rule rs op f act) c.self.view_is in
    record {
      list = list;
      rule = λ q. ap (λ rs. rule_at rs q) list ∙ rule_at-with_rule now op q f act;
      held = λ q. ap (λ rs. held_at rs q) list ∙ held_at-with_rule now op q f act;
      taken = λ flow on none. ap (λ rs. decide rs flow Plain) list ∙ decide-with_rule_taken now op f act flow on none;
      passed = λ flow mark off. ap (λ rs. decide rs flow mark) list ∙ decide-with_rule_passed now op f act flow mark off;
      err = tt;
    }

pub invariant_of-self-in-Continue-1 : goal.invariant_of-self-in-Continue-1
invariant_of-self-in-Continue-1 g c =
    let absent : position (λ x. eqb x.op c.args.op) c.self.inside.rules.items ≡ None = cc in
    rw c.in_ok-push-in-None.ensures.items
    (one_each-push c.self.inside.rules.items _ (none-position c.self.inside.rules.items c.args.op absent) c.self.invariant)

pub returns-in_ok-push-in-None : goal.returns-in_ok-push-in-None
returns-in_ok-push-in-None g c =
    let items = c.self.inside.rules.items in
    let now = c.args.self.now in
    let op = c.args.op in
    let f = c.args.filter in
    let act = c.args.action in
    let absent : position (λ x. eqb x.op op) items ≡ None = cc in
    let none = none-position items op absent in
    let list : c.push.new.self.items ≡ with_rule now op f act = c.in_ok-push-in-None.ensures.items
    ∙ ap (λ h. items ++ (record { op = op; filter = f; action = act; held = h }) ∷ []) c.open-held.ensures
    ∙ sym (with_rule-none items op f act none) ∙ ap (λ rs. with_rule rs op f act) c.self.view_is in
    record {
      list = list;
      rule = λ q. ap (λ rs. rule_at rs q) list ∙ rule_at-with_rule now op q f act;
      held = λ q. ap (λ rs. held_at rs q) list ∙ held_at-with_rule now op q f act;
      taken = λ flow on out. ap (λ rs. decide rs flow Plain) list ∙ decide-with_rule_taken now op f act flow on out;
      passed = λ flow mark off. ap (λ rs. decide rs flow mark) list ∙ decide-with_rule_passed now op f act flow mark off;
      err = tt;
    }
