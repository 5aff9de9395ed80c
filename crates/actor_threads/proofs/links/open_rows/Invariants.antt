-- The first senders have links to all receivers.
use Rattle.std.proofs.Common.{map}
use Rattle.actor_threads.specs.LinkTable.{AllOpened}
use Rattle.actor_threads.proofs.links.open_rows.Given as goal

abbrev pub invariant-loop : goal.invariant-loop
invariant-loop g l = AllOpened l.counter l.nodes (map (λ v. v.items) l.sends.items) (map (λ v. v.items) l.takes.items)
