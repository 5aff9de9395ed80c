-- What routes open, and that the classifier is the list's.
use Rattle.std.proofs.Common.{ap, ◌∙◌, subst, is_some}
use Rattle.switch_rules.specs.Rules.{first_match, AreFilters}
use Rattle.switch_rules.specs.Groups.{AreGroups}
use Rattle.switch_rules.proofs.RedirectLaws.{opened_law}
use Rattle.switch_rules.proofs.routes.Routes.open.Goals as goal

pub invariant_of-result : goal.invariant_of-result
invariant_of-result c = record {
  grouped = subst (λ rules. AreGroups rules c.in_ok-classifier.classifier) c.deref.ensures.value c.in_ok-classifier.ensures.groups;
  filters = subst AreFilters c.deref.ensures.value c.in_ok-classifier.ensures.filters;
  all = λ flow. ap (λ rules. is_some (first_match rules flow)) c.in_ok-list.ensures ∙ ap is_some (opened_law c.args.routes.now flow);
}

pub returns-clause-targets : goal.returns-clause-targets
returns-clause-targets c flow = ap (λ rules. first_match rules flow) c.in_ok-list.ensures ∙ opened_law c.args.routes.now flow

pub returns-clause-filters : goal.returns-clause-filters
returns-clause-filters c = subst AreFilters c.deref.ensures.value c.in_ok-classifier.ensures.filters
