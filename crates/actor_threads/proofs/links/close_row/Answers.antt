-- The two ends are those of one link, and one more link is closed.
use Rattle.std.proofs.Common.{◌<◌, ◌+◌, refl, sym, ◌∙◌, ap, subst, arith, length, map, slice_index_or, add-one}
use Rattle.std.proofs.lemmas.List.{length-map}
use Rattle.actor_threads.specs.LinkTable.{Closed, RowClosed, closing}
use Rattle.actor_threads.proofs.NotesByCounts.{rest_after}
use Rattle.actor_threads.proofs.LinkTableLemmas.{head_way, row_read, row_set, row_closed_more}
use Rattle.actor_threads.proofs.links.close_row.Goals as goal

pub unreachable-requires : goal.unreachable-requires
unreachable-requires g c =
    let inv = c.loop-way_out.invariant in
    let h = head_way _ _ _ _ _ _ _ _ _ c.requires inv.closed inv.rest c.in-Some.ensures.items in
    let read = row_read (λ v. v.items) _ _ _ c.index_mut.ensures.value (subst (λ n. c.loop-way_out.receiver < n) (length-map _ _) h.2.2) in
    omega (arith, c.in_default-pop_front.ensures.cases.0, c.index_mut.result.now.ok.0, ap length (sym read ∙ h.2.0))

pub close_way-requires : goal.close_way-requires
close_way-requires g c =
    let inv = c.loop-way_out.invariant in
    let h = head_way _ _ _ _ _ _ _ _ _ c.requires inv.closed inv.rest c.in-Some.ensures.items in
    let read = row_read (λ v. v.items) _ _ _ c.index_mut.ensures.value (subst (λ n. c.loop-way_out.receiver < n) (length-map _ _) h.2.2) in
    h.2.1 ∙ ap (λ l. (slice_index_or l 0 h.0).link) (sym h.2.0 ∙ read ∙ c.in-Some-pop_front.ensures.items)

pub loop-way_out-preserved : goal.loop-way_out-preserved
loop-way_out-preserved g c =
    let inv = c.loop-way_out.invariant in
    let h = head_way _ _ _ _ _ _ _ _ _ c.requires inv.closed inv.rest c.in-Some.ensures.items in
    let read = row_read (λ v. v.items) _ _ _ c.index_mut.ensures.value (subst (λ n. c.loop-way_out.receiver < n) (length-map _ _) h.2.2) in
    let k = c.loop-way_out.receiver in
    let shown = sym inv.rest ∙ c.in-Some.ensures.items in
    record {
      within = omega (arith, h.2.2, inv.closed.rows, c.requires.count, length-map c.args.ins.now.items (λ v. v.items));
      rest = rw add-one (sym (rest_after k _ _ _ shown));
      closed = subst (λ l. RowClosed (k + 1) c.args.row.items (closing (map (λ v. v.items) c.args.ins.now.items) c.args.links.now.items)
          (closing l c.push.new.self.items))
          (sym (row_set (λ v. v.items) c.loop-way_out.ins.items k c.pop_front-in-Some.new.self c.pop_front-in-Some.new.self.items refl))
          (rw c.in_ok-push.ensures.items (row_closed_more k _ _ _ _ _ c.in-Some-pop_front.way_in c.pop_front-in-Some.new.self.items _ inv.closed
          (subst (λ n. k < n) inv.closed.rows h.2.2) (read ∙ c.in-Some-pop_front.ensures.items)
          (subst (λ v. Closed c.in-Some-pop_front.way_in v c.in_ok-close_way.field-0) (sym h.2.3) c.in_ok-close_way.ensures)));
    }
