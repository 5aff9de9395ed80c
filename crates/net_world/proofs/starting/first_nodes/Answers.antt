-- The loop over the instances: an instance more is the next of the first instances.
use Rattle.std.proofs.Common.{refl, add-one}
use Rattle.net_world.proofs.starting.first_nodes.Goals as goal

pub loop-index-preserved : goal.loop-index-preserved
loop-index-preserved g c = rw (add-one c.loop-index.index, c.in_ok-push-3.ensures.items, c.first_instance-instance.ensures, c.loop-index.invariant) refl
