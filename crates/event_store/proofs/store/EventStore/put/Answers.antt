-- The queue of the operation gains the parcel, and so does the store.
use Rattle.std.proofs.Common.{[], ◌∷◌, ◌++◌, ◌∙◌}
use Rattle.std.proofs.lemmas.Result.{on_ok_weaker, on_err_weaker}
use Rattle.event_store.proofs.StoreLookUps.{changed, store_of-same}
use Rattle.event_store.proofs.store.EventStore.put.Goals as goal

pub returns : goal.returns
returns g c =
    let old = c.self.inside.queues.entries in
    let new = c.push.new.queues.entries in
    let done = on_ok_weaker c.push.result (changed old new c.args.self.now c.args.op (λ ps. ps ++ c.args.parcel ∷ []) c.self.view_is) c.push.ensures.ok in
    record {
      store = on_ok_weaker c.push.result (λ d. d.store) done;
      each = on_ok_weaker c.push.result (λ d. d.each) done;
      back = c.push.ensures.back;
      err = on_err_weaker c.push.result (λ same. store_of-same old new same ∙ c.self.view_is) c.push.ensures.err;
    }
