-- The links so far hold the lists so far.
use Rattle.std.proofs.Common.{◌≡◌}
use Rattle.actor_net.proofs.link.links_of.Given as goal

abbrev pub invariant-loop-list : goal.invariant-loop-list
invariant-loop-list g l = l.links.items ≡ l.yielded
