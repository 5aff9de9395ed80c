-- Redirects one after another: what they make of a list of rules, and of the target that it gives a flow.
use Rattle.std.proofs.Common.{◌≡◌, List, [], ◌∷◌, Option, None, Some, refl, ap, ◌∙◌}
use Rattle.std.specs.Prelude.{option_map}
use Rattle.std.proofs.lemmas.List.Elements.{All-head, All-tail}
use Rattle.flow_filter.specs.declared.flow.Flow.{Flow}
use Rattle.flow_filter.specs.Filter.{IsFlow, IsFilter}
use Rattle.switch_rules.specs.declared.target.Target.{Target}
use Rattle.switch_rules.specs.Rules.{Rule, Redirect, AreFilters, AreRedirects, first_match, rules_redirected, redirected_target, rules_after, target_after}
use Rattle.switch_rules.proofs.RedirectLaws.{AreFilters-redirected, redirected_law}

-- the numbers that a redirect's filter gives are within their types
abbrev pub fits : Redirect → Type 0
fits r = IsFilter r.filter

-- after redirects the numbers of all filters are within their types
pub AreFilters-after : (redirects : List Redirect) (rules : List Rule) → AreFilters rules → AreRedirects redirects → AreFilters (rules_after redirects rules)
AreFilters-after [] rules all fit = all
AreFilters-after (r ∷ redirects) rules all fit =
    AreFilters-after redirects (rules_redirected r rules) (AreFilters-redirected r rules all (All-head fits r redirects fit)) (All-tail fits r redirects fit)

same : (o : Option Target) → o ≡ option_map (λ target. target) o
same None = refl
same (Some target) = refl

in_turn : (f g : Target → Target) (o : Option Target) → option_map f (option_map g o) ≡ option_map (λ target. f (g target)) o
in_turn f g None = refl
in_turn f g (Some target) = refl

-- the rules after redirects give a flow the target of the rules before, led through the redirects
pub first_match-after : (flow : Flow) → IsFlow flow → (redirects : List Redirect) (rules : List Rule) → AreFilters rules → AreRedirects redirects
    → first_match (rules_after redirects rules) flow ≡ option_map (target_after redirects flow) (first_match rules flow)
first_match-after flow flows [] rules all fit = same (first_match rules flow)
first_match-after flow flows (r ∷ redirects) rules all fit =
    let fr : IsFilter r.filter = All-head fits r redirects fit in
    first_match-after flow flows redirects (rules_redirected r rules) (AreFilters-redirected r rules all fr) (All-tail fits r redirects fit)
    ∙ ap (option_map (target_after redirects flow)) (redirected_law r rules all fr flow flows)
    ∙ in_turn (target_after redirects flow) (redirected_target r flow) (first_match rules flow)
