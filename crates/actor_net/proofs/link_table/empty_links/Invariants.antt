-- So many links that hold nothing.
use Rattle.std.proofs.Common.{◌≡◌, [], replicate}
use Rattle.actor_net.proofs.link_table.empty_links.Given as goal

abbrev pub invariant-loop-place : goal.invariant-loop-place
invariant-loop-place g l = l.links.items ≡ replicate l._place []
