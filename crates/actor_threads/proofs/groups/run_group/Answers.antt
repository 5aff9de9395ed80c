-- One more turn of all members goes on with their rounds, whether it is the last or not.
use Rattle.actor_threads.proofs.GroupLemmas.{all_go_on}
use Rattle.actor_threads.proofs.groups.run_group.Goals as goal

pub loop-preserved : goal.loop-preserved
loop-preserved g c = all_go_on g.A.Actor.is_ready g.A.Actor.stepped _ _ _ c.loop.auto.members c.loop.invariant c.turn_all-steps.ensures

pub returns-then-is_over : goal.returns-then-is_over
returns-then-is_over g c = all_go_on g.A.Actor.is_ready g.A.Actor.stepped _ _ _ c.loop.auto.members c.loop.invariant c.turn_all-steps.ensures

pub returns-then-ends_round : goal.returns-then-ends_round
returns-then-ends_round g c = all_go_on g.A.Actor.is_ready g.A.Actor.stepped _ _ _ c.loop.auto.members c.loop.invariant c.turn_all-steps.ensures
