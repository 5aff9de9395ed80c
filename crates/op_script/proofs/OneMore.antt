-- What holds of each item of a list, and of one item more, holds of each item of the list with that item after it.
use Rattle.std.proofs.Common.{◌≡◌, List, [], ◌∷◌, ◌++◌, sym, subst}
use Rattle.std.specs.Prelude.{All}
use Rattle.std.proofs.lemmas.List.Elements.{All-push}

pub one_more : {X : Type 0} (P : X → Type 0) (xs after : List X) (x : X) → after ≡ xs ++ x ∷ [] → All P xs → P x → All P after
one_more P xs after x is are here = subst (All P) (sym is) (All-push P xs x are here)
