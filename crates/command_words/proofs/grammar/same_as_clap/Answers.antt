-- Clap's definitions and the grammar give the same.
use Rattle.command_words.proofs.SameWords.{same_words}
use Rattle.command_words.proofs.grammar.same_as_clap.Goals as goal

pub returns : goal.returns
returns c = same_words
