-- The messages of one batch more stand after the others.
use Rattle.std.proofs.Common.{◌∙◌, ◌++◌}
use Rattle.actor_net.specs.Histories.{messages}
use Rattle.actor_threads.proofs.BatchLemmas.{messages_more}
use Rattle.actor_threads.proofs.links.append_batches.Goals as goal

pub loop-batch-preserved : goal.loop-batch-preserved
loop-batch-preserved g c = c.in_ok-append.ensures ∙ (λ i. c.loop-batch.invariant i ++ messages (c.into_vec.ensures i))
    ∙ messages_more c.args.list.now c.loop-batch.yielded c.in-Some.batch
