-- Packets that are in order, or each as often, are each as often.
use Rattle.proof_machines.proofs.unit.Words.{ℕ, Bool, true, false, List, Same, IsOrderedAs}
use Rattle.proof_machines.proofs.unit.Late.{same_lists}

pub same_of : (b : Bool) (xs ys : List ℕ) → IsOrderedAs b xs ys → Same xs ys
same_of true xs ys o = o
same_of false xs ys o = same_lists o
