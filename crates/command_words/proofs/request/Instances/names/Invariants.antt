-- The names so far.
use Rattle.std.proofs.Common.{◌≡◌, take}
use Rattle.command_words.specs.Values.{names_of}
use Rattle.command_words.proofs.request.Instances.names.Given as goal

abbrev pub invariant-loop-row : goal.invariant-loop-row
invariant-loop-row l = l.names ≡ names_of (take l.row-index l.self.rows.items)
