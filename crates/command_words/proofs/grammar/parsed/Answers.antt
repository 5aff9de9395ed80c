-- The kinds of clap are exact, and its matches are those of the words.
use Rattle.std.proofs.Common.{◌∙◌, Some, sym, ap, map, string_bytes}
use Rattle.clap.specs.Words.{app_of, matches_of}
use Rattle.clap.proofs.WalkLemmas.{both}
use Rattle.command_words.specs.ClapArguments.{rows_taken, taken}
use Rattle.command_words.proofs.ClapRefusals.{refused}
use Rattle.command_words.proofs.grammar.parsed.Goals as goal

pub returns-in-Ok : goal.returns-in-Ok
unfolding rows_taken
returns-in-Ok c = ap (λ kinds. taken kinds (matches_of (app_of c.args.command) (map string_bytes c.args.words.now))) (c.in-Ok.ensures.kinds c.requires)
    ∙ ap (λ rows. Some rows) (sym (c.in-Ok.ensures.matches (both _ _ c.requires).0).0)

pub returns : goal.returns
unfolding rows_taken
returns c = refused _ _ c.in-Err.error (λ memory. c.in_default.not-OutOfMemory (c.kind.ensures ∙ memory)) (c.in-Err.ensures.kinds c.requires)
