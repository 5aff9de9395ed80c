-- The parcel goes after those of the rule at the operation's place.
use Rattle.std.proofs.Common.{◌≡◌, eqb, None, Some, set, refl, ap, sym, ◌∙◌}
use Rattle.std.specs.Prelude.{position, is_some}
use Rattle.std.proofs.lemmas.Result.{on_ok_weaker, on_err_weaker}
use Rattle.event_filter.specs.Rules.{decide, rule_at, held_at, with_change, holding, with_held}
use Rattle.event_filter.proofs.RulePlaces.{set-changed, set-same, one_each-changed, none-position, rule_at-none}
use Rattle.event_filter.proofs.RuleLookUps.{rule_at-changed, held_at-with_held}
use Rattle.event_filter.proofs.Decisions.{decide-changed}
use Rattle.event_filter.proofs.rules.EventRules.hold.Goals as goal

pub unreachable-requires : goal.unreachable-requires
unreachable-requires g c =
    let absent : position (λ x. eqb x.op c.args.op) c.args.self.now ≡ None = cc in
    let none = rule_at-none c.args.self.now c.args.op (none-position c.args.self.now c.args.op absent) in
    let never = ap is_some (sym none) ∙ c.requires in cc

pub invariant_of-self : goal.invariant_of-self
invariant_of-self g c =
    let found : position (λ x. eqb x.op c.args.op) c.self.inside.rules.items ≡ Some c.in-Some.place = cc in
    let held = c.push.new.self in
    rw (set-changed c.self.inside.rules.items c.args.op c.in-Some.place c.index_mut-rule.result.now (λ r. record r { held = held }) found
    c.index_mut-rule.ensures.value c.self.invariant)
    (one_each-changed c.self.inside.rules.items c.args.op (λ r. record r { held = held }) (λ r. refl) c.self.invariant)

pub returns : goal.returns
returns g c =
    let items = c.self.inside.rules.items in
    let now = c.args.self.now in
    let op = c.args.op in
    let parcel = c.args.parcel in
    let place = c.in-Some.place in
    let rule = c.index_mut-rule.result.now in
    let found : position (λ x. eqb x.op op) items ≡ Some place = cc in
    let list = on_ok_weaker c.push.result (λ e. ap (λ h. set items place (record rule { held = h })) e
    ∙ set-changed items op place rule (holding parcel) found c.index_mut-rule.ensures.value c.self.invariant
    ∙ ap (λ rs. with_held rs op parcel) c.self.view_is) c.push.ensures.ok in
    let any : set items place (record rule { held = c.push.new.self }) ≡ with_change now op (λ r. record r { held = c.push.new.self })
    = set-changed items op place rule (λ r. record r { held = c.push.new.self }) found c.index_mut-rule.ensures.value c.self.invariant
    ∙ ap (λ rs. with_change rs op (λ r. record r { held = c.push.new.self })) c.self.view_is in
    record {
      list = list;
      rule = on_ok_weaker c.push.result (λ e q. ap (λ rs. rule_at rs q) e ∙ rule_at-changed now op q (holding parcel) (λ r. refl)) list;
      held = on_ok_weaker c.push.result (λ e q. ap (λ rs. held_at rs q) e ∙ held_at-with_held now op q parcel c.requires) list;
      decided = λ flow mark. ap (λ rs. decide rs flow mark) any
          ∙ decide-changed now op (λ r. record r { held = c.push.new.self }) flow mark (λ r. refl) (λ r. refl);
      back = c.push.ensures.back;
      err = on_err_weaker c.push.result (λ e. ap (λ h. set items place (record rule { held = h })) e
          ∙ set-same items place rule c.index_mut-rule.ensures.value ∙ c.self.view_is) c.push.ensures.err;
    }
