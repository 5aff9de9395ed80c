-- One more message stands after the others.
use Rattle.std.proofs.Common.{◌∙◌}
use Rattle.actor_threads.proofs.BatchLemmas.{one_message_more}
use Rattle.actor_threads.proofs.ways.append.Goals as goal

pub loop-next-preserved : goal.loop-next-preserved
loop-next-preserved g c = c.in_ok-push.ensures.ok ∙ one_message_more c.args.list.now c.loop-next.yielded c.in-Some.next c.loop-next.invariant
