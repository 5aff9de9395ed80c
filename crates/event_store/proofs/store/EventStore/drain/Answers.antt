-- The queue of the operation is taken out, and the store has nothing of it.
use Rattle.std.proofs.Common.{[], ap, sym, ◌∙◌}
use Rattle.event_store.specs.Store.{stored_of}
use Rattle.event_store.proofs.StoreLookUps.{changed, stored-store_of}
use Rattle.event_store.proofs.store.EventStore.drain.Goals as goal

pub returns : goal.returns
returns g c =
    let done = changed c.self.inside.queues.entries c.drain.new.queues.entries c.args.self.now c.args.op (λ _. []) c.self.view_is c.drain.ensures.each in
    record {
      parcels = c.drain.ensures.parcels ∙ sym (stored-store_of c.self.inside.queues.entries c.args.op) ∙ ap (λ s. stored_of s c.args.op) c.self.view_is;
      store = done.store;
      each = done.each;
    }
