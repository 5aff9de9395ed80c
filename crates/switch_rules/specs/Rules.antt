-- The switch's rules: the first rule that matches a flow gives its target.
-- This project's own, after flow tables whose rules stand in the order of their priority.
use Rattle.std.specs.Prelude.{◌≡◌, ℕ, ◌==◌, ◌&&◌, Bool, true, false, not, if◌then◌else◌, List, [], ◌∷◌}
use Rattle.std.specs.Prelude.{◌++◌, map, filter, find, All, Option, None, option_map, option_to_list}
use Rattle.std.specs.List.{flat_map, fold}
use Rattle.std.specs.Option.{option_map_or}
use Rattle.flow_filter.specs.declared.flow.Flow.{Flow}
use Rattle.flow_filter.specs.declared.filter.Filter.{Filter}
use Rattle.flow_filter.specs.Filter.{matches, meet, covers, IsFlow, IsFilter}
use Rattle.switch_rules.specs.declared.redirect.Redirect.{Redirect as Order}
use Rattle.switch_rules.specs.declared.target.Target.{Target}
use Rattle.switch_rules.specs.declared.target.Target.TheVariants.{Instance, Controller}

-- a rule: the flows that it matches, and where they go
abbrev pub Rule : Type 0
Rule = Filter × Target

-- the target of the first rule that matches the flow
abbrev pub first_match : List Rule → Flow → Option Target
first_match rules flow = option_map (λ r. r.1) (find (λ r. matches r.0 flow) rules)

-- the targets are equal
abbrev pub target_eq : Target → Target → Bool
target_eq (Instance i) (Instance j) = i == j
target_eq Controller Controller = true
target_eq (Instance i) Controller = false
target_eq Controller (Instance j) = false

-- the filter that matches every flow
abbrev pub any : Filter
any = record { proto = None; local = None; lport = None; remote = None; rport = None }

-- routes in order, and then every flow to instance 0
abbrev pub opened : List (Filter × ℕ) → List Rule
opened routes = map (λ r. (r.0, Instance r.1)) routes ++ (any, Instance 0) ∷ []

-- the instance of the first route that matches the flow, or instance 0
abbrev pub route_of : List (Filter × ℕ) → Flow → ℕ
route_of routes flow = option_map_or (λ r. r.1) (find (λ r. matches r.0 flow) routes) 0

-- an order to the switch: flows of the filter that go to one target are to go to another
abbrev pub Redirect : Type 0
Redirect = Order

-- the redirect takes the flow from this target
abbrev pub takes : Redirect → Flow → Target → Bool
takes r flow target = matches r.filter flow && target_eq target r.from

-- the target afterwards of a flow with this target before
abbrev pub redirected_target : Redirect → Flow → Target → Target
redirected_target r flow target = if takes r flow target then r.to else target

-- the same after redirects, one after another
abbrev pub target_after : List Redirect → Flow → Target → Target
target_after redirects flow before = fold (λ target r. redirected_target r flow target) before redirects

-- the new rules give each flow its target after the redirect
abbrev pub Redirects : Redirect → List Rule → List Rule → Type 0
Redirects r old new = (flow : Flow) → IsFlow flow → first_match new flow ≡ option_map (redirected_target r flow) (first_match old flow)

-- a rule, and before it what it and the redirect both match where the rule has the old target
abbrev pub split_of : Redirect → Rule → List Rule
split_of r rule =
    (if target_eq rule.1 r.from then option_to_list (option_map (λ both. (both, r.to)) (meet rule.0 r.filter)) else []) ++ rule ∷ []

-- the items that no earlier item leaves out: it does where the test of it and the later one is true
abbrev pub firsts : {X : Type 0} → (X → X → Bool) → List X → List X
firsts test [] = []
firsts test (x ∷ xs) = x ∷ filter (λ later. not (test x later)) (firsts test xs)

-- the rules that no earlier rule covers
abbrev pub uncovered : List Rule → List Rule
uncovered rules = firsts (λ earlier later. covers earlier.0 later.0) rules

-- the list of rules after a redirect
abbrev pub rules_redirected : Redirect → List Rule → List Rule
rules_redirected r rules = uncovered (flat_map (split_of r) rules)

-- the same after redirects, one after another
abbrev pub rules_after : List Redirect → List Rule → List Rule
rules_after redirects rules = fold (λ old r. rules_redirected r old) rules redirects

-- each number that the rules' filters give is within its type
abbrev pub AreFilters : List Rule → Type 0
AreFilters rules = All (λ r. IsFilter r.0) rules

-- the same of redirects
abbrev pub AreRedirects : List Redirect → Type 0
AreRedirects redirects = All (λ r. IsFilter r.filter) redirects
