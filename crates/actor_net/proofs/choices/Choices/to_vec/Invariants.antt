-- The choices so far, and those that are left to read, are all.
use Rattle.std.proofs.Common.{◌≡◌, ◌++◌}
use Rattle.actor_net.proofs.choices.Choices.to_vec.Given as goal

abbrev pub invariant-loop-choice : goal.invariant-loop-choice
invariant-loop-choice l = l.list.items ++ l.choice-iterator ≡ l.self
