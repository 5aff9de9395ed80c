-- There is a first rule that matches.
use Rattle.std.proofs.Common.{sym, ◌∙◌}
use Rattle.std.proofs.lemmas.Bool.{true≢false}
use Rattle.switch_rules.proofs.routes.Routes.target.Goals as goal

pub unreachable-requires : goal.unreachable-requires
unreachable-requires c = true≢false (sym c.in-None.ensures.found)

pub returns-clause-value : goal.returns-clause-value
returns-clause-value c = sym c.first.ensures.value ∙ c.in-Some.is
