-- One more list of the column is taken out.
use Rattle.std.proofs.Common.{◌<◌, ◌+◌, ◌*◌, [], ◌∙◌, ap, arith, length, length-append, length-set}
use Rattle.std.proofs.lemmas.List.{get_or_default}
use Rattle.actor_threads.specs.LinkTable.{row_at}
use Rattle.actor_threads.proofs.LinkColumns.{other_column, other_row, lists_more}
use Rattle.actor_threads.proofs.round.column.Goals as goal

pub returns-in_err-push-clause-others : goal.returns-in_err-push-clause-others
returns-in_err-push-clause-others g c = λ p j hj other. other_column _ _ _ c.loop-port.port _ _ c.place-at.ensures.value c.requires.count.0 p j hj other
    ∙ c.loop-port.invariant.others p j hj other

pub loop-port-preserved : goal.loop-port-preserved
loop-port-preserved g c =
    let inv = c.loop-port.invariant in
    let inside : c.place-at.result < length c.loop-port.links.items = omega (arith, c.place-at.ensures.small, c.requires.square, inv.square) in
    let read = c.replace.ensures.value ∙ c.index_mut.ensures.value ∙ get_or_default _ _ _ [] inside
    ∙ ap (row_at c.loop-port.links.items) c.place-at.ensures.value ∙ inv.ahead c.loop-port.port (omega arith) (omega arith) in
    record {
      count = ap length c.in_ok-push.ensures.items ∙ length-append c.loop-port.kept.items _ ∙ ap (λ n. n + 1) inv.count;
      lists = rw c.in_ok-push.ensures.items
          (lists_more _ _ (λ p. row_at c.args.links.now.items (p * c.args.count + c.args.node)) _ inv.count inv.lists read);
      ahead = λ p above hp. other_row _ _ _ c.loop-port.port _ _ c.place-at.ensures.value c.requires.count.0 p (λ e. omega (arith, e))
          ∙ inv.ahead p (omega arith) hp;
      others = λ p j hj other. other_column _ _ _ c.loop-port.port _ _ c.place-at.ensures.value c.requires.count.0 p j hj other ∙ inv.others p j hj other;
      square = length-set c.loop-port.links.items _ _ ∙ inv.square;
    }
