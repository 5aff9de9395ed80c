-- The next place at which a filter may match a flow: none that matches it stands before.
use Rattle.std.proofs.Common.{◌≡◌, ℕ, ◌≤◌, max, min, true, false, cond, leb, ◌||◌, List, Option, None, Some, inl, inr, ap, sym, ◌∙◌, arith}
use Rattle.std.specs.Prelude.{All, slice_get, IfSome}
use Rattle.std.specs.List.{list_any}
use Rattle.std.proofs.lemmas.Bool.{and_parts, and_from, both_ways, false_from_ne_true, or_cases, le-leb, leb-true}
use Rattle.std.proofs.lemmas.List.Elements.{All-weaker}
use Rattle.flow_filter.specs.declared.flow.Flow.{Flow}
use Rattle.flow_filter.specs.declared.filter.Filter.{Filter}
use Rattle.flow_filter.specs.Filter.{IsFlow, matches}
use Rattle.switch_rules.specs.declared.target.Target.{Target}
use Rattle.switch_rules.specs.declared.span_group.SpanGroup.{SpanGroup}
use Rattle.switch_rules.specs.declared.span_group.Span.{Span}
use Rattle.switch_rules.specs.Masks.{mask_of, values_of, masked, mask_eq}
use Rattle.switch_rules.specs.Rules.{Redirect, takes, target_eq}
use Rattle.switch_rules.specs.Spans.{AreNoted, earlier, holds, is_noted, is_of, is_up_to, may_take, next_in, next_of, notes, span}
use Rattle.switch_rules.proofs.MaskLemmas.{mask_eq_same, matches-masked, flow_eq_same}
use Rattle.switch_rules.proofs.PassingItems.{any_weaker}
use Rattle.switch_rules.proofs.SpanLemmas.{target_eq_same}

next_of_up_to : (o : Option Span) (place i : ℕ) → place ≤ i → holds o i ≡ true → is_up_to (next_of o place) i ≡ true
next_of_up_to None place i order is = is
next_of_up_to (Some s) place i order is =
    let both = and_parts (leb s.first i) (leb i s.last) is in
    let after : s.first ≤ i = leb-true _ _ both.0 in let before : i ≤ s.last = leb-true _ _ both.1 in
    ap (λ b. is_up_to (cond b (Some (max s.first place)) None) i) (le-leb place s.last (omega (arith, order, before)))
    ∙ le-leb (max s.first place) i (omega (arith, order, after))

-- what a group answers is no later than a place at which a filter of it may match the flow
pub next_in_up_to : (g : SpanGroup) (flow : Flow) (target : Target) (place i : ℕ) → place ≤ i → may_take flow target i g ≡ true
    → is_up_to (next_in g flow target place) i ≡ true
next_in_up_to g flow target place i order is =
    let both = and_parts (target_eq g.from target) _ is in
    ap (λ b. is_up_to (cond b (next_of (span g (masked g.mask flow)) place) None) i) both.0 ∙ next_of_up_to (span g (masked g.mask flow)) place i order both.1

next_of_later : (o : Option Span) (place : ℕ) → IfSome (next_of o place) (λ next. place ≤ next)
next_of_later None place = tt
next_of_later (Some s) place = elim (leb place s.last) as (λ b. IfSome (cond b (Some (max s.first place)) None) (λ next. place ≤ next)) [
  | true ↦ omega arith
  | false ↦ tt
]

pub next_in_later : (g : SpanGroup) (flow : Flow) (target : Target) (place : ℕ) → IfSome (next_in g flow target place) (λ next. place ≤ next)
next_in_later g flow target place = elim (target_eq g.from target) as (λ b.
    IfSome (cond b (next_of (span g (masked g.mask flow)) place) None) (λ next. place ≤ next)) [
      | true ↦ next_of_later (span g (masked g.mask flow)) place
      | false ↦ tt
    ]

-- the earlier of two places that aren't before one isn't either
pub earlier_later : (a b : Option ℕ) (place : ℕ) → IfSome a (λ next. place ≤ next) → IfSome b (λ next. place ≤ next)
    → IfSome (earlier a b) (λ next. place ≤ next)
earlier_later None b place of_a of_b = of_b
earlier_later (Some x) None place of_a of_b = of_a
earlier_later (Some x) (Some y) place of_a of_b = omega (arith, of_a, of_b)

-- the earlier of two places is up to what one of them is up to
pub earlier_up_to : (a b : Option ℕ) (i : ℕ) → (is_up_to a i || is_up_to b i) ≡ true → is_up_to (earlier a b) i ≡ true
earlier_up_to None b i is = is
earlier_up_to (Some x) None i is = elim (or_cases (leb x i) false is) [
  | inl here ↦ here
  | inr never ↦ cc
]
earlier_up_to (Some x) (Some y) i is = elim (or_cases (leb x i) (leb y i) is) [
  | inl of_x ↦ let before : x ≤ i = leb-true x i of_x in le-leb (min x y) i (omega (arith, before))
  | inr of_y ↦ let before : y ≤ i = leb-true y i of_y in le-leb (min x y) i (omega (arith, before))
]

-- a filter that matches the flow and is noted in a group is one that the group tells
taken_in : (flow : Flow) → IsFlow flow → (target : Target) (i : ℕ) (f : Filter) → matches f flow ≡ true → (g : SpanGroup) → notes i f target g ≡ true
    → may_take flow target i g ≡ true
taken_in flow flows target i f matched g is =
    let noted = and_parts (is_of f target g) _ is in
    let heads = and_parts (mask_eq g.mask (mask_of f)) (target_eq g.from target) noted.0 in
    let mask : g.mask ≡ mask_of f = mask_eq_same g.mask (mask_of f) heads.0 in
    let values : values_of f ≡ masked (mask_of f) flow = flow_eq_same _ _ (sym (matches-masked f flow flows) ∙ matched) in
    and_from _ _ heads.1 (ap (λ m. holds (span g (masked m flow)) i) mask ∙ ap (λ k. holds (span g k) i) (sym values) ∙ noted.1)

-- the same of all groups
pub taken_in_some : (flow : Flow) → IsFlow flow → (target : Target) (i : ℕ) (f : Filter) (gs : List SpanGroup) → matches f flow ≡ true
    → is_noted gs i f target ≡ true → list_any (may_take flow target i) gs ≡ true
taken_in_some flow flows target i f gs matched = any_weaker (notes i f target) (may_take flow target i) (taken_in flow flows target i f matched) gs

-- before the next place no section has a redirect that takes the flow
pub none_before : (gs : List SpanGroup) (sections : List (List Redirect)) (flow : Flow) (target : Target) (place : ℕ) (next : Option ℕ) → AreNoted gs sections
    → ((i : ℕ) (f : Filter) → place ≤ i → is_noted gs i f target ≡ true → matches f flow ≡ true → is_up_to next i ≡ true)
    → (i : ℕ) (section : List Redirect) → place ≤ i → is_up_to next i ≡ false → slice_get sections i ≡ Some section
    → All (λ r. takes r flow target ≡ false) section
none_before gs sections flow target place next noted before i section later early at =
    All-weaker (λ r. is_noted gs i r.filter r.from ≡ true) (λ r. takes r flow target ≡ false)
    (λ r here. false_from_ne_true (takes r flow target) (λ is.
    let both = and_parts (matches r.filter flow) (target_eq target r.from) is in
    let own : is_noted gs i r.filter target ≡ true = ap (is_noted gs i r.filter) (target_eq_same target r.from both.1) ∙ here in
    both_ways (is_up_to next i) early (before i r.filter later own both.0))) section (noted i section at)
