-- The node of an instance whose records are asked for is there, and is what is found at its place.
use Rattle.std.proofs.Common.{◌≡◌, ℕ, ◌<◌, true, Option, None, Some, List, length, refl, sym, ap, ◌∙◌}
use Rattle.std.specs.Prelude.{get_or, slice_get}
use Rattle.std.proofs.lemmas.Option.{slice_get-get_or, slice_get_within}
use Rattle.net_world.specs.declared.node.Node.{Node}
use Rattle.net_world.specs.Tables.{is_instance}

module _ {F R : Type 0} where
  some_node : (o : Option (Node F R)) → is_instance o ≡ true → (n : Node F R) × (o ≡ Some n)
  some_node None e = cc
  some_node (Some n) e = (n, refl)

  module _ (nodes : List (Node F R)) (place : ℕ) (there : is_instance (slice_get nodes place) ≡ true) where
    pub within : place < length nodes
    within = let found = some_node (slice_get nodes place) there in slice_get_within nodes place found.0 found.1

    pub found_at : (n : Node F R) → n ≡ get_or nodes place n → slice_get nodes place ≡ Some n
    found_at n is = slice_get-get_or nodes place n within ∙ ap Some (sym is)
