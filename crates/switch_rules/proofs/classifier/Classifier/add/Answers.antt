-- One more rule in the group of its mask, or in a group of its own.
use Rattle.std.proofs.Common.{◌≡◌, ap, sym, ◌∙◌, subst, length, set, get_or, [], ◌∷◌, ◌++◌, Some, None, not, is_some, cond, ◌&&◌}
use Rattle.std.specs.Prelude.{position}
use Rattle.std.proofs.lemmas.Result.{on_ok_weaker}
use Rattle.flow_filter.specs.Flow.{flow_eq}
use Rattle.switch_rules.specs.Masks.{mask_of, values_of, mask_eq}
use Rattle.switch_rules.specs.Rules.{Rule}
use Rattle.switch_rules.specs.Groups.{AreGroups, entry}
use Rattle.switch_rules.proofs.GroupLemmas.{add_to_group, add_group}
use Rattle.switch_rules.proofs.classifier.Classifier.add.Goals as goal

pub returns-in-Some-clause-groups : goal.returns-in-Some-clause-groups
returns-in-Some-clause-groups c = on_ok_weaker c.add.result (λ own rules len are.
    let r : Rule = (c.args.filter, c.args.target) in
    let place : c.in-Ok.place ≡ length rules = c.in-Ok.ensures.1 ∙ sym len in
    let g = c.index_mut.result.now in
    subst (λ xs. AreGroups (rules ++ r ∷ []) (set xs c.in-Some.at c.add.new.self)) (sym c.self.view_is)
    (add_to_group rules c.args.self.now r c.in-Some.at g c.add.new.self are
    (subst (λ xs. position (λ x. mask_eq x.mask (mask_of r.0)) xs ≡ Some c.in-Some.at) (c.deref.ensures.value ∙ c.self.view_is)
    (subst (λ m. position (λ x. mask_eq x.mask m) c.deref.result.now ≡ Some c.in-Some.at) c.of-mask.ensures (sym c.in-Some.ensures)))
    (subst (λ xs. g ≡ get_or xs c.in-Some.at g) c.self.view_is c.index_mut.ensures.value)
    c.add.ensures.mask
    (λ key. own key ∙ ap (λ k. cond (flow_eq k key && not (is_some (entry g k))) (Some (record { place = c.in-Ok.place; target = r.1 })) (entry g key))
    c.values_of-key.ensures
    ∙ ap (λ n. cond (flow_eq (values_of r.0) key && not (is_some (entry g (values_of r.0)))) (Some (record { place = n; target = r.1 })) (entry g key))
    place))) c.add.ensures.entries

pub returns-in_ok-push-in-None-clause-groups : goal.returns-in_ok-push-in-None-clause-groups
returns-in_ok-push-in-None-clause-groups c rules len are =
    let r : Rule = (c.args.filter, c.args.target) in
    let place : c.in-Ok.place ≡ length rules = c.in-Ok.ensures.1 ∙ sym len in
    let g = c.in_ok-group-in-None.group in
    subst (AreGroups (rules ++ r ∷ [])) (sym (c.in_ok-push-in-None.ensures.items ∙ ap (λ xs. xs ++ g ∷ []) c.self.view_is))
    (add_group rules c.args.self.now r g are
    (subst (λ xs. position (λ x. mask_eq x.mask (mask_of r.0)) xs ≡ None) (c.deref.ensures.value ∙ c.self.view_is)
    (subst (λ m. position (λ x. mask_eq x.mask m) c.deref.result.now ≡ None) c.of-mask.ensures (sym c.in-None.ensures)))
    (c.in_ok-group-in-None.ensures.mask ∙ c.of-mask.ensures)
    (λ key. c.in_ok-group-in-None.ensures.entries key
    ∙ ap (λ k. cond (flow_eq k key) (Some (record { place = c.in-Ok.place; target = r.1 })) None) c.values_of-key.ensures
    ∙ ap (λ n. cond (flow_eq (values_of r.0) key) (Some (record { place = n; target = r.1 })) None) place))
