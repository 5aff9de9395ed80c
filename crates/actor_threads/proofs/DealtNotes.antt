-- Notes dealt out, one choice at a time.
use Rattle.std.proofs.Common.{◌≡◌, ◌==◌, ◌<◌, ◌≤◌, ℕ, true, false, true≢false, if◌then◌else◌, List, []}
use Rattle.std.proofs.Common.{◌∷◌, ◌++◌, length, slice_set, sym, ◌∙◌, ap, refl, subst, arith, append_assoc}
use Rattle.std.proofs.lemmas.Bool.Decides.{Decides-eqb}
use Rattle.std.proofs.lemmas.List.{get_or-set_same, get_or-set_other, get_or_past}
use Rattle.actor_net.specs.declared.choice.Choice.{Choice}
use Rattle.actor_net.specs.Histories.{without_first_list, first_list, notes_of_choices}
use Rattle.actor_net.proofs.ClockOrderRun.{dealt_same}
use Rattle.actor_threads.specs.LinkTable.{row_at}

module _ {N : Type 0} where
  -- the queue of the choice's node loses its first list
  taken_front : (table : List (List (List N))) (k : ℕ) → k < length table → (j : ℕ)
      → row_at (slice_set table k (without_first_list (row_at table k))) j ≡ (if j == k then without_first_list (row_at table j) else row_at table j)
  taken_front table k h j = elim (j == k) as (λ b. (j == k) ≡ b
      → row_at (slice_set table k (without_first_list (row_at table k))) j ≡ (if b then without_first_list (row_at table j) else row_at table j)) [
        | true ↦ λ t. let e = (Decides-eqb j k).0 t in
            subst (λ q. row_at (slice_set table k (without_first_list (row_at table k))) q ≡ without_first_list (row_at table q)) (sym e)
            (get_or-set_same table k _ [] h)
        | false ↦ λ f. get_or-set_other table k j _ [] (λ e. true≢false (sym ((Decides-eqb j k).1 e) ∙ f))
      ] refl

  pub deal_one : (table : List (List (List N))) (c : Choice) (cs : List Choice) (log : List N) → c.node < length table
      → (log ++ first_list (row_at table c.node)) ++ notes_of_choices (λ j. row_at (slice_set table c.node (without_first_list (row_at table c.node))) j) cs
      ≡ log ++ notes_of_choices (λ j. row_at table j) (c ∷ cs)
  deal_one table c cs log h = append_assoc log (first_list (row_at table c.node)) _ ∙ ap (λ l. log ++ (first_list (row_at table c.node) ++ l))
      (dealt_same (λ j. row_at (slice_set table c.node (without_first_list (row_at table c.node))) j)
      (λ j. if j == c.node then without_first_list (row_at table j) else row_at table j) cs (taken_front table c.node h))

  -- there is no such queue
  no_queue : (table : List (List (List N))) (k : ℕ) → length table ≤ k → (j : ℕ)
      → row_at table j ≡ (if j == k then without_first_list (row_at table j) else row_at table j)
  no_queue table k h j = elim (j == k) as (λ b. (j == k) ≡ b → row_at table j ≡ (if b then without_first_list (row_at table j) else row_at table j)) [
    | true ↦ λ t. let e = (Decides-eqb j k).0 t in
        let none : row_at table j ≡ [] = get_or_past table j [] (omega (arith, e)) in none ∙ sym (ap without_first_list none)
    | false ↦ λ f. refl
  ] refl

  pub deal_none : (table : List (List (List N))) (c : Choice) (cs : List Choice) (log : List N) → length table ≤ c.node
      → log ++ notes_of_choices (λ j. row_at table j) cs ≡ log ++ notes_of_choices (λ j. row_at table j) (c ∷ cs)
  deal_none table c cs log h = ap (λ l. log ++ l)
      (dealt_same (λ j. row_at table j) (λ j. if j == c.node then without_first_list (row_at table j) else row_at table j) cs (no_queue table c.node h)
      ∙ ap (λ l. first_list l ++ notes_of_choices (λ j. if j == c.node then without_first_list (row_at table j) else row_at table j) cs)
      (sym (get_or_past table c.node [] h)))
