-- The count of the queue, or the greatest number where it doesn't fit.
use Rattle.std.proofs.Common.{◌≡◌, ap, sym, ◌∙◌, length, arith}
use Rattle.event_store.specs.Store.{stored_of}
use Rattle.event_store.proofs.StoreLookUps.{stored-store_of}
use Rattle.event_store.proofs.store.EventStore.len.Goals as goal

pub returns : goal.returns
returns g c =
    let at = sym (stored-store_of c.self.inside.queues.entries c.args.op) ∙ ap (λ s. stored_of s c.args.op) c.self.view_is in
    let many : c.count.result ≡ length (stored_of c.args.self.now c.args.op) = c.count.ensures ∙ ap length at in
    rw (← many) (grind arith)
