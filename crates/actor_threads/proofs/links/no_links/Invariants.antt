-- The receivers so far have a row without ends.
use Rattle.std.proofs.Common.{◌≡◌, ℕ, ◌<◌, [], length, map}
use Rattle.actor_threads.specs.LinkTable.{row_at}
use Rattle.actor_threads.proofs.links.no_links.Given as goal

abbrev pub invariant-loop : goal.invariant-loop
invariant-loop g l = record {
  count : length l.takes.items ≡ l.counter;
  none : (r : ℕ) → r < l.counter → row_at (map (λ v. v.items) l.takes.items) r ≡ [];
}
