-- The target of the routes, led through the redirects, is that of the first rule of the list.
use Rattle.std.proofs.Common.{ap, sym, ◌∙◌, Some}
use Rattle.std.specs.Prelude.{option_map}
use Rattle.switch_rules.specs.Rules.{first_match, target_after}
use Rattle.switch_rules.proofs.RedirectSteps.{first_match-after}
use Rattle.switch_rules.proofs.rules.Rules.target.Goals as goal

pub returns : goal.returns
returns c =
    let flow = c.args.flow.now in let redirects = c.self.inside.redirects in let routes = c.self.inside.routes in
    ap (λ rules. first_match rules flow) (sym c.self.view_is)
    ∙ first_match-after flow c.target.ensures.flow redirects routes c.self.invariant.0 c.self.invariant.1
    ∙ ap (option_map (target_after redirects flow)) c.target.ensures.value ∙ ap Some (sym c.target_after.ensures)
