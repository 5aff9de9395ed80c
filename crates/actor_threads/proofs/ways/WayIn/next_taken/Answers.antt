-- What is kept is drawn first.
use Rattle.actor_threads.proofs.WayInLemmas.{drew_kept}
use Rattle.actor_threads.proofs.ways.WayIn.next_taken.Goals as goal

pub returns-else-is_used_up : goal.returns-else-is_used_up
returns-else-is_used_up g c = drew_kept _ _ c.next_kept.result c.next_kept.ensures.some c.next_kept.ensures.same
