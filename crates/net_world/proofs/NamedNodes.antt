-- What a loop over nodes, and over the names of some of them, leaves at its end: no node is left, or no name is. Generic in what both come to.
use Rattle.std.proofs.Common.{◌≡◌, ℕ, ◌<◌, ◌≤◌, List, [], ◌∷◌, ◌++◌, Option, map, drop, length, arith, refl, sym, ap, ◌∙◌, append-nil}
use Rattle.std.specs.Prelude.{filter_map, zip}
use Rattle.std.proofs.lemmas.List.{drop_all}

module _ {K N X Y : Type 0} (kept : N → Option X) (under : K × X → Y) where
  abbrev named : List K → List N → List Y
  named names nodes = map under (zip names (filter_map kept nodes))

  nothing : (names : List K) → named names [] ≡ []
  nothing [] = refl
  nothing (name ∷ names) = refl

  pub no_nodes : (found whole : List Y) (names : List K) (i : ℕ) (nodes : List N) → length nodes ≤ i → found ++ named names (drop i nodes) ≡ whole
      → found ≡ whole
  no_nodes found whole names i nodes past is =
      sym (append-nil found) ∙ ap (λ l. found ++ l) (sym (nothing names) ∙ ap (named names) (sym (drop_all i nodes past))) ∙ is

  pub no_names : (found whole : List Y) (names : List K) (nodes : List N) → length names < 1 → found ++ named names nodes ≡ whole → found ≡ whole
  no_names found whole [] nodes none is = sym (append-nil found) ∙ is
  no_names found whole (name ∷ names) nodes none is = absurd (omega (arith, none))
