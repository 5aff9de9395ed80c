-- One argument more, and in the end those of the form, which are as simple as clap's clauses ask.
use Rattle.std.proofs.Common.{◌∙◌, [], ap, map}
use Rattle.command_words.specs.declared.forms.ArgumentKind.TheVariants.{Positional}
use Rattle.command_words.specs.ClapArguments.{app_with, rule_by, rule_for}
use Rattle.command_words.proofs.ArgumentTables.{all_mapped, map_more, same_rules, is_simple_app}
use Rattle.command_words.proofs.grammar.command_of.Goals as goal

pub loop-kind-preserved : goal.loop-kind-preserved
loop-kind-preserved c = c.in_ok-command.ensures _ c.loop-kind.invariant
    ∙ ap app_with (map_more (λ e. rule_by e.0 e.1.now) c.arguments-arguments.result.now c.loop-kind.kind-index
    (Positional, record { ref_ptr = (0, 0); now = [] }) c.loop-kind-test.true)

pub returns-clause-app : goal.returns-clause-app
returns-clause-app c = c.loop-kind.invariant ∙ ap app_with
    (all_mapped (λ e. rule_by e.0 e.1.now) c.arguments-arguments.result.now c.loop-kind.kind-index c.loop-kind-test.false
    ∙ same_rules c.arguments-arguments.result.now
    ∙ ap (map rule_for) c.arguments-arguments.ensures)

pub returns-clause-simple : goal.returns-clause-simple
returns-clause-simple c = is_simple_app c.args.form _ (returns-clause-app c)
