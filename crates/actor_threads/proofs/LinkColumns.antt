-- A column of the table of links, taken out one list at a time.
use Rattle.std.proofs.Common.{◌≡◌, ◌≢◌, ◌<◌, ℕ, ◌+◌, ◌*◌, List, [], ◌∷◌, ◌++◌, length, slice_set, sym, ◌∙◌, subst, arith}
use Rattle.std.proofs.lemmas.List.{get_or-set_other, get_or_append_left}
use Rattle.actor_net.proofs.LinkLemmas.{other_place}
use Rattle.actor_threads.specs.LinkTable.{row_at}
use Rattle.actor_threads.proofs.LinkTableLemmas.{last_of, same_or}

module _ {X : Type 0} (links : List (List X)) (place count port node : ℕ) (v : List X) (is : place ≡ port * count + node) (hn : node < count) where
  -- the other columns stay
  pub other_column : (p j : ℕ) → j < count → j ≢ node → row_at (slice_set links place v) (p * count + j) ≡ row_at links (p * count + j)
  other_column p j hj other =
      get_or-set_other links place (p * count + j) v [] (λ e. other_place count port node p j hn hj (λ _ same. other (sym same)) (e ∙ is))

  -- the other rows of this column stay
  pub other_row : (p : ℕ) → p ≢ port → row_at (slice_set links place v) (p * count + node) ≡ row_at links (p * count + node)
  other_row p other = get_or-set_other links place (p * count + node) v [] (λ e. other_place count port node p node hn hn (λ same _. other same) (e ∙ is))

-- one list more
pub lists_more : {X : Type 0} (kept : List (List X)) (new : List X) (from : ℕ → List X) (k : ℕ) → length kept ≡ k
    → ((p : ℕ) → p < k → row_at kept p ≡ from p) → new ≡ from k → (p : ℕ) → p < k + 1 → row_at (kept ++ new ∷ []) p ≡ from p
lists_more kept new from k count before last p h =
    same_or p k (row_at (kept ++ new ∷ []) p ≡ from p)
    (λ e. subst (λ q. row_at (kept ++ new ∷ []) q ≡ from q) (sym e) (last_of kept new [] k count ∙ last))
    (λ other. let less : p < k = omega arith in get_or_append_left kept (new ∷ []) [] p (omega (arith, count, less)) ∙ before p less)
