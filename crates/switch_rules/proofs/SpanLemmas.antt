-- Spans of filters' places: each filter that was noted is noted still, and so is the new one.
use Rattle.std.proofs.Common.{◌≡◌, ℕ, ◌≤◌, max, min, Bool, true, false, cond, leb, ◌&&◌, List, [], ◌∷◌}
use Rattle.std.proofs.Common.{◌++◌, set, get_or, Option, None, Some, Result, refl, ap, ◌∙◌, arith}
use Rattle.std.specs.Prelude.{position, OnErr, OnOk}
use Rattle.std.proofs.lemmas.Bool.{and_parts, and_from, or_left, or_right, le-leb, leb-true, eq-eqb, eqb-true}
use Rattle.std.proofs.lemmas.List.Folds.{list_any-append}
use Rattle.std.proofs.lemmas.List.Quantifiers.{position-Some}
use Rattle.flow_filter.specs.declared.flow.Flow.{Flow}
use Rattle.flow_filter.specs.declared.filter.Filter.{Filter}
use Rattle.flow_filter.specs.Flow.{flow_eq}
use Rattle.switch_rules.specs.declared.target.Target.{Target}
use Rattle.switch_rules.specs.declared.target.Target.TheVariants.{Instance, Controller}
use Rattle.switch_rules.specs.declared.span_group.SpanGroup.{SpanGroup}
use Rattle.switch_rules.specs.declared.span_group.Span.{Span}
use Rattle.switch_rules.specs.Masks.{mask_of, values_of, mask_eq}
use Rattle.switch_rules.specs.Rules.{target_eq}
use Rattle.switch_rules.specs.Spans.{holds, is_noted, is_of, notes, span, widened}
use Rattle.switch_rules.proofs.MaskLemmas.{mask_eq_refl, flow_eq_same, flow_eq_refl}
use Rattle.switch_rules.proofs.PassingItems.{any_set, either_way, set_there}

-- targets that are equal by their test are the same
pub target_eq_same : (a b : Target) → target_eq a b ≡ true → a ≡ b
target_eq_same (Instance i) (Instance j) is = ap Instance (eqb-true i j is)
target_eq_same Controller Controller is = refl
target_eq_same (Instance i) Controller is = cc
target_eq_same Controller (Instance j) is = cc

pub target_eq_refl : (a : Target) → target_eq a a ≡ true
target_eq_refl (Instance i) = eq-eqb i i refl
target_eq_refl Controller = refl

-- the span of the new place
holds-widened : (o : Option Span) (place : ℕ) → holds (Some (widened o place)) place ≡ true
holds-widened None place = and_from _ _ (le-leb place place (omega arith)) (le-leb place place (omega arith))
holds-widened (Some s) place = and_from _ _ (le-leb (min s.first place) place (omega arith)) (le-leb place (max s.last place) (omega arith))

holds_still : (o : Option Span) (place i : ℕ) → holds o i ≡ true → holds (Some (widened o place)) i ≡ true
holds_still None place i is = cc
holds_still (Some s) place i is =
    let both = and_parts (leb s.first i) (leb i s.last) is in
    let after : s.first ≤ i = leb-true _ _ both.0 in let before : i ≤ s.last = leb-true _ _ both.1 in
    and_from _ _ (le-leb (min s.first place) i (omega arith)) (le-leb i (max s.last place) (omega arith))

-- a group's spans after one more place at a masked flow
abbrev pub IsWidened : Flow → ℕ → SpanGroup → SpanGroup → Type 0
IsWidened key place g g' = (k : Flow) → span g' k ≡ cond (flow_eq key k) (Some (widened (span g key) place)) (span g k)

by_test : (key : Flow) (place : ℕ) (g : SpanGroup) (k : Flow) (i : ℕ) (test : Bool) → flow_eq key k ≡ test → holds (span g k) i ≡ true
    → holds (cond test (Some (widened (span g key) place)) (span g k)) i ≡ true
by_test key place g k i true is at = holds_still (span g key) place i (ap (λ x. holds (span g x) i) (flow_eq_same key k is) ∙ at)
by_test key place g k i false is at = at

-- what the spans held they still hold
still_held : (key : Flow) (place : ℕ) (g g' : SpanGroup) → IsWidened key place g g' → (k : Flow) (i : ℕ)
    → holds (span g k) i ≡ true → holds (span g' k) i ≡ true
still_held key place g g' own k i at = ap (λ o. holds o i) (own k) ∙ by_test key place g k i (flow_eq key k) refl at

-- a group of the same mask and target, whose spans hold what the other's did
record Keeps (g g' : SpanGroup) : Type 0 where
  mask : g'.mask ≡ g.mask
  from : g'.from ≡ g.from
  held : (k : Flow) (i : ℕ) → holds (span g k) i ≡ true → holds (span g' k) i ≡ true

same_group : (f : Filter) (t : Target) (g g' : SpanGroup) → g'.mask ≡ g.mask → g'.from ≡ g.from → is_of f t g' ≡ is_of f t g
same_group f t g g' mask from =
    ap (λ m. mask_eq m (mask_of f) && target_eq g'.from t) mask ∙ ap (λ x. mask_eq g.mask (mask_of f) && target_eq x t) from

notes_still : (i : ℕ) (f : Filter) (t : Target) (g g' : SpanGroup) → Keeps g g' → notes i f t g ≡ true → notes i f t g' ≡ true
notes_still i f t g g' keeps is =
    let both = and_parts (is_of f t g) (holds (span g (values_of f)) i) is in
    and_from _ _ (same_group f t g g' keeps.mask keeps.from ∙ both.0) (keeps.held (values_of f) i both.1)

-- what was noted is noted still, where a group is written anew or added
pub noted_still : {E : Type 0} (result : Result (Unit {0}) E) (gs : List SpanGroup) (at : ℕ) (g g' : SpanGroup) (key : Flow) (place : ℕ) → g ≡ get_or gs at g
    → g'.mask ≡ g.mask → g'.from ≡ g.from → OnOk result (IsWidened key place g g') → OnErr result ((k : Flow) → span g' k ≡ span g k)
    → (i : ℕ) (f : Filter) (t : Target) → is_noted gs i f t ≡ true → is_noted (set gs at g') i f t ≡ true
noted_still result gs at g g' key place is mask from own same i f t = any_set (notes i f t) gs at g g' is (notes_still i f t g g' (record {
  mask = mask;
  from = from;
  held = λ k n held. either_way result own same (λ widened. still_held key place g g' widened k n held) (λ e. ap (λ o. holds o n) (e k) ∙ held);
}))

pub noted_before : (gs : List SpanGroup) (g : SpanGroup) (i : ℕ) (f : Filter) (t : Target) → is_noted gs i f t ≡ true → is_noted (gs ++ g ∷ []) i f t ≡ true
noted_before gs g i f t is = list_any-append (notes i f t) gs (g ∷ []) ∙ or_left _ _ is

held_here : (key : Flow) (place : ℕ) (g g' : SpanGroup) → IsWidened key place g g' → holds (span g' key) place ≡ true
held_here key place g g' own =
    ap (λ o. holds o place) (own key ∙ ap (λ b. cond b (Some (widened (span g key) place)) (span g key)) (flow_eq_refl key)) ∙ holds-widened (span g key) place

-- the new filter is noted, in the group of its mask and target or in one of its own
pub noted_here : (gs : List SpanGroup) (at place : ℕ) (f : Filter) (t : Target) (g g' : SpanGroup) → position (is_of f t) gs ≡ Some at → g ≡ get_or gs at g
    → g'.mask ≡ g.mask → g'.from ≡ g.from → IsWidened (values_of f) place g g' → is_noted (set gs at g') place f t ≡ true
noted_here gs at place f t g g' found is mask from own =
    let here = position-Some (is_of f t) gs at g found in
    set_there (notes place f t) gs at g' here.0
    (and_from _ _ (same_group f t g g' mask from ∙ ap (is_of f t) is ∙ here.1) (held_here (values_of f) place g g' own))

pub noted_last : (gs : List SpanGroup) (place : ℕ) (f : Filter) (t : Target) (g g' : SpanGroup) → g'.mask ≡ mask_of f → g'.from ≡ t
    → IsWidened (values_of f) place g g' → is_noted (gs ++ g' ∷ []) place f t ≡ true
noted_last gs place f t g g' mask from own =
    list_any-append (notes place f t) gs (g' ∷ []) ∙ or_right _ _ (or_left _ _ (and_from _ _
    (and_from _ _ (ap (λ m. mask_eq m (mask_of f)) mask ∙ mask_eq_refl (mask_of f)) (ap (λ x. target_eq x t) from ∙ target_eq_refl t))
    (held_here (values_of f) place g g' own)))
