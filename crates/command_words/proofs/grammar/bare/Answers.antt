-- What the two settings change of a new command.
use Rattle.std.proofs.Common.{◌∙◌, ap, true}
use Rattle.clap.specs.Simple.{on_top, app_of_fields}
use Rattle.command_words.specs.ClapArguments.{app_with}
use Rattle.command_words.proofs.grammar.bare.Goals as goal

pub returns : goal.returns
unfolding app_with
returns c = ap app_of_fields c.disable_help_flag.ensures ∙ ap (on_top (λ s. record s { disable_help_flag = true }))
    (ap app_of_fields c.no_binary_name.ensures ∙ ap (on_top (λ s. record s { no_binary_name = true })) c.new.ensures.app)
