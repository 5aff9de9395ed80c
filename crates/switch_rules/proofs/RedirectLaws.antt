-- What a redirect leaves: each flow's target by the law, and rules whose numbers are within their types.
use Rattle.std.proofs.Common.{◌≡◌, ℕ, ◌<◌, ◌^◌, Bool, true, false, cond, not, eqb, leb, ◌&&◌}
use Rattle.std.proofs.Common.{List, [], ◌∷◌, ◌++◌, Option, None, Some, refl, ap, sym, subst, ◌∙◌}
use Rattle.std.specs.Prelude.{nat_eq, find, filter, option_map, flat_map, option_to_list, IsSome}
use Rattle.std.specs.Option.{ForSome, option_map_or}
use Rattle.std.proofs.lemmas.Bool.{true≢false, false_from_ne_true}
use Rattle.std.proofs.lemmas.Option.{same_Some, cond_some}
use Rattle.std.proofs.lemmas.List.Elements.{All-nil, All-cons, All-head, All-tail, All-weaker, recursion_from_All}
use Rattle.std.proofs.Math.Bool.{and-false}
use Rattle.flow_filter.specs.declared.prefix.Prefix.{Prefix}
use Rattle.flow_filter.specs.declared.flow.Flow.{Flow}
use Rattle.flow_filter.specs.declared.filter.Filter.{Filter}
use Rattle.flow_filter.specs.Filter.{holds, matches, meet, meet_value, meet_prefix, covers, IsFlow, IsFilter}
use Rattle.basics.specs.Options.{◌>>=◌}
use Rattle.flow_filter.proofs.FilterLemmas.{meet_law, covers_law, IsMeetOf}
use Rattle.switch_rules.specs.declared.target.Target.{Target}
use Rattle.switch_rules.specs.declared.target.Target.TheVariants.{Instance}
use Rattle.switch_rules.specs.Rules.{Rule, first_match, target_eq, Redirect, redirected_target, Redirects}
use Rattle.switch_rules.specs.Rules.{opened, route_of, split_of, uncovered, rules_redirected, AreFilters}
use Rattle.switch_rules.proofs.Firsts.{find-filter}
use Rattle.switch_rules.proofs.FilterLists.{AreFilters-uncovered}

-- rules that an earlier rule covers give no flow its target
pub find-uncovered : (flow : Flow) → IsFlow flow → (rules : List Rule) → AreFilters rules
    → find (λ r. matches r.0 flow) (uncovered rules) ≡ find (λ r. matches r.0 flow) rules
find-uncovered flow fits [] all = refl
find-uncovered flow fits (x ∷ rules) all =
    let head : IsFilter x.0 = All-head (λ y. IsFilter y.0) x rules all in
    let tail : AreFilters rules = All-tail (λ y. IsFilter y.0) x rules all in
    elim (matches x.0 flow) as (λ b. matches x.0 flow ≡ b → cond b (Some x)
    (find (λ r. matches r.0 flow) (filter (λ later. not (covers x.0 later.0)) (uncovered rules))) ≡ cond b (Some x) (find (λ r. matches r.0 flow) rules)) [
      | true ↦ λ here. refl
      | false ↦ λ off. find-filter (λ r. matches r.0 flow) (λ later. not (covers x.0 later.0)) (uncovered rules)
          (recursion_from_All (λ y. matches y.0 flow ≡ true → not (covers x.0 y.0) ≡ true) (uncovered rules)
          (All-weaker (λ y. IsFilter y.0) (λ y. matches y.0 flow ≡ true → not (covers x.0 y.0) ≡ true)
          (λ r fr at. ap not
          (false_from_ne_true (covers x.0 r.0) (λ covered. true≢false (sym ((covers_law x.0 r.0 head fr).0 covered flow fits at) ∙ off))))
          (uncovered rules) (AreFilters-uncovered rules tail)))
          ∙ find-uncovered flow fits rules tail
    ] refl

-- a rule that is split gives a flow its target after the redirect
split_one : (r : Redirect) (x : Rule) (rest : List Rule) (flow : Flow) (after : Option Target) (o : Option Filter) → IsFlow flow → IsMeetOf x.0 r.filter o
    → first_match rest flow ≡ after
    → first_match (option_to_list (option_map (λ both. (both, r.to)) o) ++ x ∷ rest) flow
    ≡ cond (matches x.0 flow) (Some (cond (matches r.filter flow) r.to x.1)) after
split_one r x rest flow after None fits none e = elim (matches x.0 flow) as (λ b. matches x.0 flow ≡ b
    → option_map (λ y. y.1) (cond b (Some x) (find (λ y. matches y.0 flow) rest)) ≡ cond b (Some (cond (matches r.filter flow) r.to x.1)) after) [
      | true ↦ λ here. rw (false_from_ne_true (matches r.filter flow) (λ at. none (flow, fits, rw (here, at) refl))) refl
      | false ↦ λ off. e
    ] refl
split_one r x rest flow after (Some both) fits law e = rw (law.0 flow fits) (elim (matches x.0 flow) as (λ b.
    option_map (λ y. y.1) (cond (b && matches r.filter flow) (Some (both, r.to)) (cond b (Some x) (find (λ y. matches y.0 flow) rest)))
    ≡ cond b (Some (cond (matches r.filter flow) r.to x.1)) after) [
      | true ↦ elim (matches r.filter flow) as (λ c. option_map (λ y. y.1) (cond c (Some (both, r.to)) (Some x)) ≡ Some (cond c r.to x.1))
          [ true ↦ refl | false ↦ refl ]
      | false ↦ e
    ])

and_true : (b : Bool) → (b && true) ≡ b
and_true true = refl
and_true false = refl

mapped : (r : Redirect) (flow : Flow) (b : Bool) (target : Target) (rest : Option Target)
    → option_map (redirected_target r flow) (cond b (Some target) rest)
    ≡ cond b (Some (redirected_target r flow target)) (option_map (redirected_target r flow) rest)
mapped r flow true target rest = refl
mapped r flow false target rest = refl

first : (x : Rule) (rules : List Rule) (flow : Flow) → first_match (x ∷ rules) flow ≡ cond (matches x.0 flow) (Some x.1) (first_match rules flow)
first x rules flow = elim (matches x.0 flow) as (λ b. option_map (λ y. y.1) (cond b (Some x) (find (λ y. matches y.0 flow) rules))
    ≡ cond b (Some x.1) (first_match rules flow)) [ true ↦ refl | false ↦ refl ]

joined : (x : Rule) (rest : List Rule) (to : Target) (o : Option Filter)
    → (option_to_list (option_map (λ both. (both, to)) o) ++ x ∷ []) ++ rest ≡ option_to_list (option_map (λ both. (both, to)) o) ++ x ∷ rest
joined x rest to None = refl
joined x rest to (Some both) = refl

split_rule : (r : Redirect) (x : Rule) (rest : List Rule) (flow : Flow) (after : Option Target) → IsFlow flow → IsFilter x.0 → IsFilter r.filter
    → first_match rest flow ≡ after
    → first_match (split_of r x ++ rest) flow ≡ cond (matches x.0 flow) (Some (redirected_target r flow x.1)) after
split_rule r x rest flow after fits fx fr e = elim (target_eq x.1 r.from) as (λ b.
    first_match (((cond b (option_to_list (option_map (λ both. (both, r.to)) (meet x.0 r.filter))) []) ++ x ∷ []) ++ rest) flow
    ≡ cond (matches x.0 flow) (Some (cond (matches r.filter flow && b) r.to x.1)) after) [
      | true ↦ rw (and_true (matches r.filter flow))
          (subst (λ xs. first_match xs flow ≡ cond (matches x.0 flow) (Some (cond (matches r.filter flow) r.to x.1)) after)
          (sym (joined x rest r.to (meet x.0 r.filter))) (split_one r x rest flow after (meet x.0 r.filter) fits (meet_law x.0 r.filter fx fr) e))
      | false ↦ rw (and-false (matches r.filter flow)) (first x rest flow ∙ ap (cond (matches x.0 flow) (Some x.1)) e)
    ]

-- the rules that are split give each flow its target after the redirect
pub split_law : (r : Redirect) (rules : List Rule) → AreFilters rules → IsFilter r.filter → Redirects r rules (flat_map (split_of r) rules)
split_law r [] all fr flow fits = refl
split_law r (x ∷ rules) all fr flow fits =
    split_rule r x (flat_map (split_of r) rules) flow _ fits (All-head (λ y. IsFilter y.0) x rules all) fr
    (split_law r rules (All-tail (λ y. IsFilter y.0) x rules all) fr flow fits)
    ∙ sym (mapped r flow (matches x.0 flow) x.1 (first_match rules flow)) ∙ ap (option_map (redirected_target r flow)) (sym (first x rules flow))

-- what two fields say together is within their type
number_within : (top : ℕ) (x y : Option ℕ) → ForSome x (λ n. n < top) → ForSome y (λ n. n < top)
    → ForSome (meet_value nat_eq x y) (λ z. ForSome z (λ n. n < top))
number_within top None y fx fy z e = subst (λ o. ForSome o (λ n. n < top)) (same_Some y z e) fy
number_within top (Some x) None fx fy z e = subst (λ o. ForSome o (λ n. n < top)) (same_Some (Some x) z e) fx
number_within top (Some x) (Some y) fx fy z e = subst (λ o. ForSome o (λ n. n < top)) (cond_some (eqb x y) (Some x) z e).1 fx

longer_within : (p q : Prefix) (top : ℕ) (first : Bool) → p.bits < top → q.bits < top
    → ForSome (cond first (cond (holds p q.bits) (Some (Some q)) None) (cond (holds q p.bits) (Some (Some p)) None)) (λ z. ForSome z (λ x. x.bits < top))
longer_within p q top true fp fq z e =
    subst (λ o. ForSome o (λ x. x.bits < top)) (cond_some (holds p q.bits) (Some q) z e).1 (λ x is. subst (λ y. y.bits < top) (same_Some q x is) fq)
longer_within p q top false fp fq z e =
    subst (λ o. ForSome o (λ x. x.bits < top)) (cond_some (holds q p.bits) (Some p) z e).1 (λ x is. subst (λ y. y.bits < top) (same_Some p x is) fp)

prefix_within : (top : ℕ) (x y : Option Prefix) → ForSome x (λ p. p.bits < top) → ForSome y (λ p. p.bits < top)
    → ForSome (meet_prefix x y) (λ z. ForSome z (λ p. p.bits < top))
prefix_within top None y fx fy z e = subst (λ o. ForSome o (λ p. p.bits < top)) (same_Some y z e) fy
prefix_within top (Some p) None fx fy z e = subst (λ o. ForSome o (λ p. p.bits < top)) (same_Some (Some p) z e) fx
prefix_within top (Some p) (Some q) fx fy z e = longer_within p q top (leb p.len q.len) (fx p refl) (fy q refl) z e

by_field : (proto : Option (Option ℕ)) (local : Option (Option Prefix)) (lport : Option (Option ℕ)) (remote : Option (Option Prefix))
    (rport : Option (Option ℕ))
    → ForSome proto (λ z. ForSome z (λ n. n < 2 ^ 8)) → ForSome local (λ z. ForSome z (λ p. p.bits < 2 ^ 32)) → ForSome lport (λ z. ForSome z (λ n. n < 2 ^ 16))
    → ForSome remote (λ z. ForSome z (λ p. p.bits < 2 ^ 32)) → ForSome rport (λ z. ForSome z (λ n. n < 2 ^ 16))
    → ForSome (proto
    >>= λ a. local >>= λ b. lport >>= λ c. remote >>= λ d. rport >>= λ e. Some (record { proto = a; local = b; lport = c; remote = d; rport = e })) IsFilter
by_field None local lport remote rport p l lp r rp both e = cc
by_field (Some a) None lport remote rport p l lp r rp both e = cc
by_field (Some a) (Some b) None remote rport p l lp r rp both e = cc
by_field (Some a) (Some b) (Some c) None rport p l lp r rp both e = cc
by_field (Some a) (Some b) (Some c) (Some d) None p l lp r rp both e = cc
by_field (Some a) (Some b) (Some c) (Some d) (Some e) p l lp r rp both is = subst IsFilter (same_Some _ both is)
    (record { proto = p a refl; local = l b refl; lport = lp c refl; remote = r d refl; rport = rp e refl })

-- the meet of filters is one whose numbers are within their types
pub IsFilter-meet : (f g : Filter) → IsFilter f → IsFilter g → ForSome (meet f g) IsFilter
IsFilter-meet f g ff fg =
    by_field _ _ _ _ _ (number_within (2 ^ 8) f.proto g.proto ff.proto fg.proto) (prefix_within (2 ^ 32) f.local g.local ff.local fg.local)
    (number_within (2 ^ 16) f.lport g.lport ff.lport fg.lport) (prefix_within (2 ^ 32) f.remote g.remote ff.remote fg.remote)
    (number_within (2 ^ 16) f.rport g.rport ff.rport fg.rport)

one_split : (to : Target) (x : Rule) (o : Option Filter) (rest : List Rule) → IsFilter x.0 → ForSome o IsFilter → AreFilters rest
    → AreFilters ((option_to_list (option_map (λ both. (both, to)) o) ++ x ∷ []) ++ rest)
one_split to x None rest fx fo fits = All-cons (λ y. IsFilter y.0) x rest fx fits
one_split to x (Some both) rest fx fo fits = All-cons (λ y. IsFilter y.0) (both, to) (x ∷ rest) (fo both refl) (All-cons (λ y. IsFilter y.0) x rest fx fits)

AreFilters-split : (r : Redirect) (rules : List Rule) → AreFilters rules → IsFilter r.filter → AreFilters (flat_map (split_of r) rules)
AreFilters-split r [] all fr = All-nil (λ y. IsFilter y.0)
AreFilters-split r (x ∷ rules) all fr =
    let fx : IsFilter x.0 = All-head (λ y. IsFilter y.0) x rules all in
    let rest : AreFilters (flat_map (split_of r) rules) = AreFilters-split r rules (All-tail (λ y. IsFilter y.0) x rules all) fr in
    elim (target_eq x.1 r.from)
    as (λ b. AreFilters (((cond b (option_to_list (option_map (λ both. (both, r.to)) (meet x.0 r.filter))) []) ++ x ∷ []) ++ flat_map (split_of r) rules)) [
      | true ↦ one_split r.to x (meet x.0 r.filter) (flat_map (split_of r) rules) fx (IsFilter-meet x.0 r.filter fx fr) rest
      | false ↦ All-cons (λ y. IsFilter y.0) x (flat_map (split_of r) rules) fx rest
    ]

-- after a redirect the numbers of all filters are within their types
pub AreFilters-redirected : (r : Redirect) (rules : List Rule) → AreFilters rules → IsFilter r.filter → AreFilters (rules_redirected r rules)
AreFilters-redirected r rules all fr = AreFilters-uncovered (flat_map (split_of r) rules) (AreFilters-split r rules all fr)

-- the law of a redirect
pub redirected_law : (r : Redirect) (rules : List Rule) → AreFilters rules → IsFilter r.filter → Redirects r rules (rules_redirected r rules)
redirected_law r rules all fr flow fits =
    ap (option_map (λ x. x.1)) (find-uncovered flow fits (flat_map (split_of r) rules) (AreFilters-split r rules all fr)) ∙ split_law r rules all fr flow fits

some_after : (r : Redirect) (flow : Flow) (o : Option Target) → IsSome o → IsSome (option_map (redirected_target r flow) o)
some_after r flow None some = some
some_after r flow (Some target) some = refl

-- each flow keeps some rule
pub still_all : (r : Redirect) (old new : List Rule) → Redirects r old new → ((flow : Flow) → IsFlow flow → IsSome (first_match old flow))
    → (flow : Flow) → IsFlow flow → IsSome (first_match new flow)
still_all r old new law all flow fits = subst IsSome (sym (law flow fits)) (some_after r flow (first_match old flow) (all flow fits))

-- what routes open: each flow goes by the first route that matches it, or to instance 0
pub opened_law : (routes : List (Filter × ℕ)) (flow : Flow) → first_match (opened routes) flow ≡ Some (Instance (route_of routes flow))
opened_law [] flow = refl
opened_law (route ∷ routes) flow =
    elim (matches route.0 flow) as (λ b. option_map (λ r. r.1) (cond b (Some (route.0, Instance route.1)) (find (λ r. matches r.0 flow) (opened routes)))
    ≡ Some (Instance (option_map_or (λ r. r.1) (cond b (Some route) (find (λ r. matches r.0 flow) routes)) 0))) [
      | true ↦ refl
      | false ↦ opened_law routes flow
    ]
