-- The sender has a link to one more receiver.
use Rattle.std.proofs.Common.{◌<◌, ◌+◌, ◌++◌, ◌∷◌, [], sym, ◌∙◌, ap, subst, arith, length, map, length-set}
use Rattle.std.proofs.lemmas.List.{length-map}
use Rattle.actor_threads.specs.LinkTable.{RowOpened}
use Rattle.actor_threads.proofs.LinkTableLemmas.{row_read, row_set, row_opened_more}
use Rattle.actor_threads.proofs.links.open_row.Goals as goal

pub loop-receiver-preserved : goal.loop-receiver-preserved
loop-receiver-preserved g c =
    let k = c.loop-receiver.receiver in
    let inv = c.loop-receiver.invariant in
    let inside : k < length c.loop-receiver.takes.items = omega (arith, inv.end, inv.rows, c.loop-receiver-test.true) in
    let read = row_read (λ v. v.items) c.loop-receiver.takes.items k _ c.index_mut.ensures.value inside in
    let took = c.in_ok-open_link.ensures in
    let pushed = took.1.0 ∙ ap (λ l. l ++ took.0 ∷ []) (sym read) in
    record {
      opened = subst (λ l. RowOpened (k + 1) c.push.new.self.items (map (λ v. v.items) c.args.takes.now.items) l)
          (sym (row_set (λ v. v.items) c.loop-receiver.takes.items k c.open_link.new.takes _ pushed))
          (rw c.in_ok-push.ensures.items (row_opened_more k _ _ _ c.in_ok-open_link.field-0 took.0 inv.opened
          (subst (λ n. k < n) (sym (length-map c.args.takes.now.items _)) (subst (λ n. k < n) inv.rows inside)) took.1.1));
      end = inv.end;
      rows = length-set c.loop-receiver.takes.items k _ ∙ inv.rows;
    }
