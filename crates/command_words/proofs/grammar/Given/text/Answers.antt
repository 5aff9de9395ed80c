-- A text that clap found is of the words or a default.
use Rattle.std.proofs.Common.{◌∙◌, not, sym, ap}
use Rattle.clap.specs.Facts.{explicit_source}
use Rattle.clap.specs.Words.{found_of}
use Rattle.command_words.specs.Grammar.{value_of}
use Rattle.command_words.proofs.GivenTexts.{text_of_default, text_of_words}
use Rattle.command_words.proofs.grammar.Given.text.Goals as goal

pub returns-then-is_default : goal.returns-then-is_default
unfolding value_of
returns-then-is_default c = sym (text_of_default (found_of c.args.self.now.matches) c.args.name.now
    (ap (λ source. not (explicit_source source)) (sym c.value_source.ensures) ∙ sym c.is_default.ensures ∙ c.if-is_default.true))

pub returns : goal.returns
unfolding value_of
returns c = c.get_str.ensures ∙ text_of_words (found_of c.args.self.now.matches) c.args.name.now
    (ap (λ source. not (explicit_source source)) (sym c.value_source.ensures) ∙ sym c.is_default.ensures ∙ c.if-is_default.false)
