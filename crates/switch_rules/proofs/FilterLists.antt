-- Lists of rules: the numbers of their filters.
use Rattle.std.proofs.Common.{◌≡◌, ℕ, ◌+◌, ◌<◌, List, length, take, get_or, subst}
use Rattle.std.proofs.lemmas.List.Elements.{All-more, All-from_recursion, recursion_from_All}
use Rattle.flow_filter.specs.Filter.{covers, IsFilter}
use Rattle.switch_rules.specs.Rules.{Rule, AreFilters, uncovered}
use Rattle.switch_rules.proofs.Firsts.{AllByRecursion-firsts}

abbrev fit : Rule → Type 0
fit r = IsFilter r.0

-- one more rule in a loop
pub AreFilters-more : (rules : List Rule) (i : ℕ) (r : Rule) → i < length rules → r ≡ get_or rules i r → AreFilters (take i rules) → IsFilter r.0
    → AreFilters (take (i + 1) rules)
AreFilters-more rules i r within read all fits = All-more fit rules i r within all (subst fit read fits)

pub AreFilters-uncovered : (rules : List Rule) → AreFilters rules → AreFilters (uncovered rules)
AreFilters-uncovered rules all =
    All-from_recursion fit (uncovered rules) (AllByRecursion-firsts fit (λ x y. covers x.0 y.0) rules (recursion_from_All fit rules all))
