-- What is left of the batch stands after what was kept before.
use Rattle.std.proofs.Common.{◌++◌, ap, sym}
use Rattle.actor_threads.specs.Ways.{with_stamp_0}
use Rattle.actor_threads.proofs.ways.WayIn.parts.Goals as goal

pub returns-clause-kept : goal.returns-clause-kept
returns-clause-kept g c = rw (← c.self.view_is) (ap (λ l. with_stamp_0 c.self.inside.kept ++ l) (sym c.into_vec.ensures))
