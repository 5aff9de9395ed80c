-- The lists so far are those of the links so far.
use Rattle.std.proofs.Common.{◌≡◌}
use Rattle.actor_net.proofs.link.lists_of.Given as goal

abbrev pub invariant-loop-link : goal.invariant-loop-link
invariant-loop-link g l = l.lists.items ≡ l.yielded
