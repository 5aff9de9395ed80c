-- The arguments that were declared so far.
use Rattle.std.proofs.Common.{◌≡◌, map, take}
use Rattle.clap.specs.Words.{app_of}
use Rattle.command_words.specs.ClapArguments.{app_with, rule_by}
use Rattle.command_words.proofs.grammar.command_of.Given as goal

-- the command has the arguments so far
abbrev pub invariant-loop-kind : goal.invariant-loop-kind
invariant-loop-kind l = app_of l.command ≡ app_with (map (λ e. rule_by e.0 e.1.now) (take l.kind-index l.arguments))
