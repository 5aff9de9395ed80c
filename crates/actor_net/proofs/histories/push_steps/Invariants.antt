-- The steps so far of this history stand after those of the histories before.
use Rattle.std.proofs.Common.{◌≡◌, ◌++◌, take}
use Rattle.actor_net.specs.Merging.{history_steps}
use Rattle.actor_net.proofs.histories.push_steps.Given as goal

abbrev pub invariant-loop-step : goal.invariant-loop-step
invariant-loop-step l =
    l.steps.items ≡ l.fn.steps.items ++ history_steps (record { node = l.history.node; steps = take l.step-index l.step-items })
