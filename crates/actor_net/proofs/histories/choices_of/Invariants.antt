-- The choices so far, and those of the steps that are left, are those of all steps.
use Rattle.std.proofs.Common.{◌≡◌, ◌++◌, drop, map}
use Rattle.actor_net.specs.Merging.{choice_of}
use Rattle.actor_net.proofs.histories.choices_of.Given as goal

abbrev pub invariant-loop-step : goal.invariant-loop-step
invariant-loop-step l = l.choices ++ map choice_of (drop l.step-index l.steps) ≡ map choice_of l.steps
