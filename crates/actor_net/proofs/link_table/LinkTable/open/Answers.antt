-- The counts of links that hold nothing are zeros.
use Rattle.std.proofs.Common.{ℕ}
use Rattle.std.proofs.lemmas.List.{length-replicate}
use Rattle.actor_net.proofs.LinkCounts.{counts_none}
use Rattle.actor_net.proofs.link_table.LinkTable.open.Goals as goal

pub invariant_of-result : goal.invariant_of-result
invariant_of-result g c =
    rw (c.in_ok-from_elem.ensures.items_if_clones_equal (λ _ same. same), c.in_ok-empty_links.ensures, length-replicate {A = ℕ} c.args.nodes 0)
    (counts_none g.row.M.Denot c.args.nodes c.requires)
