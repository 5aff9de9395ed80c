-- The sender has links to the first receivers.
use Rattle.std.proofs.Common.{◌≡◌, length, map}
use Rattle.actor_threads.specs.LinkTable.{RowOpened}
use Rattle.actor_threads.proofs.links.open_row.Given as goal

abbrev pub invariant-loop-receiver : goal.invariant-loop-receiver
invariant-loop-receiver g l = record {
  opened : RowOpened l.receiver l.row.items (map (λ v. v.items) l.fn.takes.items) (map (λ v. v.items) l.takes.items);
  end : l.receiver-end ≡ length l.fn.takes.items;
  rows : length l.takes.items ≡ length l.fn.takes.items;
}
