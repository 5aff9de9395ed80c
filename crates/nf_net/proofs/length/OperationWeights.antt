-- What the open operations weigh together as one of them has taken a message: it is another, or closed.
use Rattle.nf_net.proofs.Words.{◌≡◌, ℕ, ◌+◌, ◌≤◌, Some, ap, arith, Operation, OpenOperations, remove_insert}
use Rattle.std.specs.FinMap as finite
use Rattle.nf_net.proofs.length.MapWeights.{in_all, if_found, insert_weighs, remove_weighs}

module _ (weight : Operation → ℕ) (ops : OpenOperations) (op : ℕ) (old new : Operation) (there : finite.get ops op ≡ Some old) where
  found : if_found weight (finite.get ops op) ≡ weight old
  found = ap (if_found weight) there

  pub ops_weigh : in_all weight (finite.insert ops op new) + weight old ≤ in_all weight ops + weight new
  ops_weigh = let less = insert_weighs weight ops op new in let same = found in omega (arith, less, same)

  pub closed_weigh : in_all weight (finite.remove (finite.insert ops op new) op) + weight old ≤ in_all weight ops
  closed_weigh = omega (arith, remove_weighs weight ops op, found, ap (in_all weight) (remove_insert ops op new))
