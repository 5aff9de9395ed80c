-- No numbers rise, and no share is open.
use Rattle.std.proofs.Common.{sym, subst}
use Rattle.std.specs.FinMap as finite
use Rattle.std.specs.Ordering.{nat_cmp}
use Rattle.std.specs.Map.{keys_of}
use Rattle.std.specs.List.Sorted.{IsStrictlySortedBy}
use Rattle.ctrl_node.specs.ShareIndex.{AreNoted}
use Rattle.ctrl_node.proofs.LowestShares.{none_open}
use Rattle.ctrl_node.proofs.operations.Operations.new.Goals as goal

pub invariant_of-result : goal.invariant_of-result
unfolding IsStrictlySortedBy
invariant_of-result c = subst (λ es. IsStrictlySortedBy nat_cmp (keys_of es) × AreNoted c.open.result (finite.from_entries es)) (sym c.new.ensures.empty)
    (tt, none_open c.open.result)
