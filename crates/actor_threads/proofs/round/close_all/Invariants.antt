-- The links of the first senders are closed, and those of the others stand as before.
use Rattle.std.proofs.Common.{◌≡◌, ◌<◌, ℕ, length, map, drop}
use Rattle.actor_threads.specs.LinkTable.{row_at, ways_of}
use Rattle.actor_threads.specs.Round.{AllClosed}
use Rattle.actor_threads.proofs.round.close_all.Given as goal

abbrev pub invariant-loop : goal.invariant-loop
invariant-loop g l = record {
  count : length l.ins.items ≡ length l.fn.ins.items;
  outs : l.outs.items ≡ drop l.counter l.fn.outs.items;
  end : l.end ≡ length l.fn.outs.items;
  rest : (r : ℕ) → r < length l.fn.ins.items → row_at (map (λ v. v.items) l.ins.items) r ≡ drop l.counter (row_at (map (λ v. v.items) l.fn.ins.items) r);
  closed : AllClosed l.counter (length l.fn.ins.items) (ways_of (map (λ v. v.items) l.fn.ins.items) (map (λ v. v.items) l.fn.outs.items)) l.links.items;
}
