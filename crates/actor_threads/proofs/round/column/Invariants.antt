-- The lists of the column's first places were taken out; those further down and all other columns stand as before.
use Rattle.std.proofs.Common.{◌≡◌, ◌≢◌, ◌<◌, ◌≤◌, ℕ, ◌+◌, ◌*◌, length}
use Rattle.actor_threads.specs.LinkTable.{row_at}
use Rattle.actor_threads.proofs.round.column.Given as goal

abbrev pub invariant-loop-port : goal.invariant-loop-port
invariant-loop-port g l = record {
  count : length l.kept.items ≡ l.port;
  lists : (p : ℕ) → p < l.port → row_at l.kept.items p ≡ row_at l.fn.links.items (p * l.count + l.node);
  ahead : (p : ℕ) → l.port ≤ p → p < l.count → row_at l.links.items (p * l.count + l.node) ≡ row_at l.fn.links.items (p * l.count + l.node);
  others : (p j : ℕ) → j < l.count → j ≢ l.node → row_at l.links.items (p * l.count + j) ≡ row_at l.fn.links.items (p * l.count + j);
  square : length l.links.items ≡ length l.fn.links.items;
}
