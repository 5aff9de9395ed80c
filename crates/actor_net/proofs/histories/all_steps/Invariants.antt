-- The steps so far are those of the histories so far.
use Rattle.std.proofs.Common.{◌≡◌, take}
use Rattle.actor_net.specs.Merging.{all_steps}
use Rattle.actor_net.proofs.histories.all_steps.Given as goal

abbrev pub invariant-loop-history : goal.invariant-loop-history
invariant-loop-history l = l.steps.items ≡ all_steps (take l.history-index l.histories)
