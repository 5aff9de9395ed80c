-- One more sender's links can be closed, and are closed.
use Rattle.std.proofs.Common.{◌<◌, sym, ◌∙◌, ap, subst, arith, length, map, add-one}
use Rattle.std.proofs.lemmas.List.{length-map}
use Rattle.actor_threads.specs.LinkTable.{RowClosed, CanClose, closing}
use Rattle.actor_threads.proofs.NotesByCounts.{rest_after}
use Rattle.actor_threads.proofs.LinkTableLemmas.{mapped_first}
use Rattle.actor_threads.proofs.ClosingLinks.{can_close, left_more, all_closed_more}
use Rattle.actor_threads.proofs.round.close_all.Goals as goal

pub close_row-requires : goal.close_row-requires
close_row-requires g c =
    let inv = c.loop.invariant in
    let shown = sym inv.outs ∙ c.in-Some.ensures.items in
    let row = mapped_first (λ v. v.items) c.loop.counter _ _ _ shown in
    let inside : c.loop.counter < length c.args.ins.items =
    omega (arith, c.loop-test.true, inv.end, c.requires.senders, length-map c.args.outs.items (λ v. v.items)) in
    subst (λ l. CanClose l (map (λ v. v.items) c.loop.ins.items)) row
    (can_close c.loop.counter (length c.args.ins.items) _ (map (λ v. v.items) c.loop.ins.items) (map (λ v. v.items) c.args.outs.items) inside c.requires
    (length-map c.loop.ins.items _ ∙ inv.count) inv.rest)

pub loop-preserved : goal.loop-preserved
loop-preserved g c =
    let inv = c.loop.invariant in
    let shown = sym inv.outs ∙ c.in-Some.ensures.items in
    let row = mapped_first (λ v. v.items) c.loop.counter _ _ _ shown in
    let inside : c.loop.counter < length c.args.ins.items =
    omega (arith, c.loop-test.true, inv.end, c.requires.senders, length-map c.args.outs.items (λ v. v.items)) in
    let many = length-map c.loop.ins.items _ ∙ inv.count in
    let wide = sym (ap length row) ∙ c.requires.out_rows c.loop.counter inside in
    let closed = subst (λ l. RowClosed (length c.args.ins.items) l (closing (map (λ v. v.items) c.loop.ins.items) c.loop.links.items)
    (closing (map (λ v. v.items) c.close_row.new.ins.items) c.close_row.new.links.items)) (sym row)
    (subst (λ n. RowClosed n c.in-Some.row.items (closing (map (λ v. v.items) c.loop.ins.items) c.loop.links.items)
    (closing (map (λ v. v.items) c.close_row.new.ins.items) c.close_row.new.links.items)) wide c.in_ok-close_row.ensures) in
    record {
      count = sym (length-map c.close_row.new.ins.items (λ v. v.items)) ∙ closed.rows ∙ many;
      outs = rw add-one (sym (rest_after c.loop.counter _ _ _ shown));
      end = inv.end;
      rest = λ r h. rw add-one (left_more c.loop.counter (length c.args.ins.items) _ _ (map (λ v. v.items) c.args.outs.items) inside c.requires many
          inv.rest _ _ _ inv.closed closed r h);
      closed = all_closed_more c.loop.counter (length c.args.ins.items) _ _ (map (λ v. v.items) c.args.outs.items) inside c.requires many inv.rest _ _ _
          inv.closed closed;
    }
