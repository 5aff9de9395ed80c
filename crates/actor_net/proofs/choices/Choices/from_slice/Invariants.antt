-- The choices so far, and those of the slice that are left, are those of the slice.
use Rattle.std.proofs.Common.{◌≡◌, ◌++◌, drop}
use Rattle.actor_net.proofs.choices.Choices.from_slice.Given as goal

abbrev pub invariant-loop-choice : goal.invariant-loop-choice
invariant-loop-choice l = l.choices ++ drop l.choice-index l.list ≡ l.list
