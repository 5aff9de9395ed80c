-- The rule at the operation's place is taken out, and what it holds is handed over.
use Rattle.std.proofs.Common.{◌≡◌, eqb, None, Some, [], refl, ap, sym, ◌∙◌, subst}
use Rattle.std.specs.Prelude.{position}
use Rattle.std.specs.Option.{option_map_or}
use Rattle.event_filter.specs.Rules.{HaveOneEach, held_at, rule_at, without_rule}
use Rattle.event_filter.proofs.RulePlaces.{remove-without, rule_at-position, one_each-without, none-position, without-none, rule_at-none}
use Rattle.event_filter.proofs.RuleLookUps.{rule_at-without, held_at-without}
use Rattle.event_filter.proofs.Decisions.{decide-without}
use Rattle.event_filter.proofs.rules.EventRules.release.Goals as goal

pub invariant_of-self : goal.invariant_of-self
invariant_of-self g c =
    let found : position (λ x. eqb x.op c.args.op) c.self.inside.rules.items ≡ Some c.in-Some.place = cc in
    rw (c.remove.ensures.items, remove-without c.self.inside.rules.items c.args.op c.in-Some.place c.remove.result found c.self.invariant)
    (one_each-without c.self.inside.rules.items c.args.op c.self.invariant)

pub returns-in-Some : goal.returns-in-Some
returns-in-Some g c =
    let found : position (λ x. eqb x.op c.args.op) c.self.inside.rules.items ≡ Some c.in-Some.place = cc in
    let list : c.remove.new.self.items ≡ without_rule c.args.self.now c.args.op = c.remove.ensures.items
    ∙ remove-without c.self.inside.rules.items c.args.op c.in-Some.place c.remove.result found c.self.invariant
    ∙ ap (λ rs. without_rule rs c.args.op) c.self.view_is in
    let here = rule_at-position c.self.inside.rules.items c.args.op c.in-Some.place c.remove.result found c.remove.ensures.value in
    record {
      parcels = c.into_vec.ensures ∙ ap (λ o. option_map_or (λ r. r.held) o []) (sym here) ∙ ap (λ rs. held_at rs c.args.op) c.self.view_is;
      list = list;
      rule = λ q. rw list (rule_at-without c.args.self.now c.args.op q);
      held = λ q. rw list (held_at-without c.args.self.now c.args.op q);
      passed = λ flow mark off. rw list (decide-without c.args.self.now c.args.op flow mark (subst (λ rs. HaveOneEach rs) c.self.view_is c.self.invariant) off);
    }

pub returns-in-None : goal.returns-in-None
returns-in-None g c =
    let absent : position (λ x. eqb x.op c.args.op) c.args.self.now ≡ None = cc in
    let none = none-position c.args.self.now c.args.op absent in
    let list : c.args.self.now ≡ without_rule c.args.self.now c.args.op = sym (without-none c.args.self.now c.args.op none) in
    record {
      parcels = c.new.ensures.items ∙ ap (λ o. option_map_or (λ r. r.held) o []) (sym (rule_at-none c.args.self.now c.args.op none));
      list = list;
      rule = λ q. ap (λ rs. rule_at rs q) list ∙ rule_at-without c.args.self.now c.args.op q;
      held = λ q. ap (λ rs. held_at rs q) list ∙ held_at-without c.args.self.now c.args.op q;
      passed = λ flow mark off. refl;
    }
