-- What stands on a closed link: what was kept, then the batches that the queue held, then what waited to be sent.
use Rattle.std.proofs.Common.{◌++◌, sym, refl, ◌∙◌, ap, append_assoc}
use Rattle.actor_net.specs.Histories.{messages}
use Rattle.actor_threads.specs.Ways.{unpacked, with_stamp_0}
use Rattle.actor_threads.proofs.BatchLemmas.{unpacked-append}
use Rattle.actor_threads.proofs.WayInLemmas.{messages_kept}
use Rattle.actor_threads.proofs.links.close_way.Goals as goal

pub returns : goal.returns
returns g c =
    let took = c.parts-take.result in
    let left = unpacked c.close-left.result.left.items in
    let tail = left ++ c.parts-send.result.1.items in
    record {
      tail = tail;
      sent = c.parts-send.ensures.all ∙ ap (λ l. l ++ c.parts-send.result.1.items) (ap unpacked c.close-left.ensures.done
          ∙ unpacked-append took.0.done c.close-left.result.left.items ∙ ap (λ l. l ++ left) c.parts-take.ensures.end.1)
          ∙ append_assoc c.args.way_in.done left c.parts-send.result.1.items;
      is = c.in_ok-append_all.ensures ∙ messages_kept took.1 (took.2.items ++ tail) _ refl
          ∙ ap messages (sym (append_assoc (with_stamp_0 took.1) took.2.items tail) ∙ ap (λ l. l ++ tail) (sym c.parts-take.ensures.kept));
    }
