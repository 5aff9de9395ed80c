-- One more redirect keeps the numbers of all filters within their types, and changes targets by its law.
use Rattle.std.proofs.Common.{ap, sym, subst, ◌∙◌}
use Rattle.std.proofs.lemmas.List.Elements.{All-push}
use Rattle.std.proofs.lemmas.List.Sums.{fold_push}
use Rattle.switch_rules.specs.Rules.{AreRedirects, Redirect, Redirects, rules_redirected, rules_after}
use Rattle.switch_rules.proofs.RedirectLaws.{redirected_law}
use Rattle.switch_rules.proofs.RedirectSteps.{AreFilters-after, fits}
use Rattle.switch_rules.proofs.rules.Rules.redirect.Goals as goal

pub invariant_of-self : goal.invariant_of-self
invariant_of-self c = (c.self.invariant.0, subst AreRedirects (sym c.in_err-push.ensures.err) c.self.invariant.1)

abbrev order : goal.In_ok-push → Redirect
order c = record { filter = c.args.filter.now; from = c.args.from; to = c.args.to }

pub invariant_of-self-2 : goal.invariant_of-self-2
invariant_of-self-2 c = (
  c.self.invariant.0,
  subst AreRedirects (sym c.in_ok-push.ensures.ok)
      (All-push fits c.self.inside.redirects (order c) c.self.invariant.1 c.in_ok-push.ensures.filter),
)

pub returns-clause-targets : goal.returns-clause-targets
returns-clause-targets c =
    let redirects = c.self.inside.redirects in let routes = c.self.inside.routes in
    subst (Redirects (order c) c.args.self.now)
    (sym (ap (λ xs. rules_after xs routes) c.in_ok-push.ensures.ok ∙ fold_push (λ old r. rules_redirected r old) routes redirects (order c)
    ∙ ap (rules_redirected (order c)) c.self.view_is))
    (subst (λ rules. Redirects (order c) rules (rules_redirected (order c) rules)) c.self.view_is
    (redirected_law (order c) (rules_after redirects routes)
    (AreFilters-after redirects routes c.self.invariant.0 c.self.invariant.1) c.in_ok-push.ensures.filter))
