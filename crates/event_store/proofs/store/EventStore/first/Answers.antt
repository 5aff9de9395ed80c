-- The queue of the operation loses its first parcel, and so does the store.
use Rattle.std.proofs.Common.{ap, sym, ◌∙◌}
use Rattle.std.specs.Prelude.{drop, slice_get}
use Rattle.event_store.specs.Store.{stored_of}
use Rattle.event_store.proofs.StoreLookUps.{changed, stored-store_of}
use Rattle.event_store.proofs.store.EventStore.first.Goals as goal

pub returns : goal.returns
returns g c =
    let done = changed c.self.inside.queues.entries c.pop.new.queues.entries c.args.self.now c.args.op (drop 1) c.self.view_is c.pop.ensures.each in
    record {
      value = c.pop.ensures.value
          ∙ ap (λ ps. slice_get ps 0) (sym (stored-store_of c.self.inside.queues.entries c.args.op) ∙ ap (λ s. stored_of s c.args.op) c.self.view_is);
      store = done.store;
      each = done.each;
    }
