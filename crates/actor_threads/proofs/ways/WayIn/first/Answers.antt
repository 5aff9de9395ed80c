-- The first that is kept from before the round, or else that of the batch, is the first of what is kept.
use Rattle.std.proofs.Common.{◌++◌, ap, drop}
use Rattle.actor_threads.specs.Ways.{with_stamp_0}
use Rattle.actor_threads.proofs.ways.WayIn.first.Goals as goal

pub returns-in-Some : goal.returns-in-Some
returns-in-Some g c = (
  0,
  with_stamp_0 (drop 1 c.self.inside.kept) ++ c.self.inside.batch,
  rw (← c.self.view_is) (ap (λ l. with_stamp_0 l ++ c.self.inside.batch) c.in-Some.ensures),
)

pub returns-in-Some-first : goal.returns-in-Some-first
returns-in-Some-first g c = (
  c.in-Some-first.next.now.clock,
  drop 1 c.self.inside.batch,
  rw (← c.self.view_is) (λ i. with_stamp_0 (c.in_default.ensures i) ++ c.in-Some-first.ensures i),
)
