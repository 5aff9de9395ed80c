-- The messages of the batch, of the link and of its sender stand one after another.
use Rattle.std.proofs.Common.{◌++◌, ◌∙◌, ap}
use Rattle.actor_net.specs.Histories.{messages}
use Rattle.actor_threads.specs.Ways.{unpacked}
use Rattle.actor_threads.proofs.BatchLemmas.{messages_joined}
use Rattle.actor_threads.proofs.links.append_all.Goals as goal

pub returns : goal.returns
returns g c =
    let left = unpacked c.args.left.items in
    let waiting = c.args.waiting.items in
    c.in_ok-append-2.ensures ∙ ap (λ l. l ++ messages waiting) (c.in_ok-append_batches.ensures ∙ ap (λ l. l ++ messages left) c.in_ok-append.ensures)
    ∙ messages_joined c.args.list.now c.args.batch.items left waiting
