-- The sender's links to the first receivers are closed, and those to the others stand as before.
use Rattle.std.proofs.Common.{◌≡◌, ◌≤◌, length, map, drop, deque_len}
use Rattle.actor_threads.specs.LinkTable.{RowClosed, closing}
use Rattle.actor_threads.proofs.links.close_row.Given as goal

abbrev pub invariant-loop-way_out : goal.invariant-loop-way_out
invariant-loop-way_out g l = record {
  within : l.receiver ≤ length l.fn.row.items;
  rest : l.row.items ≡ drop l.receiver l.fn.row.items;
  closed : RowClosed l.receiver l.fn.row.items (closing (map (λ v. v.items) l.fn.ins.items) l.fn.links.items)
      (closing (map (λ v. v.items) l.ins.items) l.links.items);
}

abbrev pub decreases-loop-way_out : goal.decreases-loop-way_out
decreases-loop-way_out g l = deque_len l.row
