-- What an outline shows of the links of a world after a choice: what it showed, without the first where that is shown, and the
-- outlines of what was sent.
use Rattle.proof_outlines.proofs.Words.{◌≡◌, ℕ, ◌<◌, Bool, true, false, Option, Some, None, List, [], ◌∷◌, ◌++◌, refl, sym, ap, ◌∙◌, arith, if◌then◌else◌, ◌==◌}
use Rattle.proof_outlines.proofs.Words.{◌&&◌, nat_lt, option_map, filter_map, nat_tests, Decides-eqb, Decides-ltb, Network, Stepped, queue_at, world_next}
use Rattle.proof_outlines.proofs.Words.{reaches, at, put_on_link, less_first, Takes, taken_outcome, sent_for, behind, links_after, split}
use Rattle.actor_net.specs.Histories.{sent_for as core_sent}
use Rattle.proof_outlines.proofs.outline.InstanceOutline.{filter_map-put}

module _ {M X : Type 0} (g : M → Option X) where
  abbrev pub of_sent : ℕ × M → Option (ℕ × X)
  of_sent sent = option_map (λ x. (sent.0, x)) (g sent.1)

  -- what is sent to one node, outlined
  pub sent_outline : (j : ℕ) (sends : List (ℕ × M)) → filter_map g (core_sent j sends) ≡ sent_for j (filter_map of_sent sends)
  sent_outline j [] = refl
  sent_outline j (s ∷ sends) = filter_map-put g (if s.0 == j then s.1 ∷ [] else []) (core_sent j sends) ∙ by_seen (g s.1) refl (sent_outline j sends)
    where
      by_seen : (o : Option X) → g s.1 ≡ o → filter_map g (core_sent j sends) ≡ sent_for j (filter_map of_sent sends)
          → filter_map g (if s.0 == j then s.1 ∷ [] else []) ++ filter_map g (core_sent j sends) ≡ sent_for j (filter_map of_sent (s ∷ sends))
      by_seen None e rest = rw e (elim (s.0 == j) as (λ b. filter_map g (if b then s.1 ∷ [] else []) ++ filter_map g (core_sent j sends)
          ≡ sent_for j (filter_map of_sent sends)) [ true ↦ rw e rest | false ↦ rest ])
      by_seen (Some x) e rest = rw e (elim (s.0 == j) as (λ b. filter_map g (if b then s.1 ∷ [] else []) ++ filter_map g (core_sent j sends)
          ≡ (if b then x ∷ sent_for j (filter_map of_sent sends) else sent_for j (filter_map of_sent sends)))
          [ true ↦ rw e (ap (λ xs. x ∷ xs) rest) | false ↦ rest ])

  put_outline : (n k i j : ℕ) (sends : List (ℕ × M)) → nat_lt j n ≡ true → (i == 0) && (j == 0) ≡ false
      → filter_map g (put_on_link n k i j sends) ≡ (if i == k then sent_for j (filter_map of_sent sends) else [])
  put_outline n k i j sends there off =
      split (i == k) (λ b. filter_map g (if b && reaches n k j then core_sent j sends else []) ≡ (if b then sent_for j (filter_map of_sent sends) else []))
      (λ e.
      let same_is : i ≡ k = (Decides-eqb i k).0 e in
      let not_input : (k == 0) && (j == 0) ≡ false = rw (← same_is) off in
      rw (there, not_input) (sent_outline j sends))
      (λ _. refl)

  behind_outline : (b : Bool) (ms rest : List M) (m : M) (x : X) → (b ≡ true → ms ≡ m ∷ rest) → g m ≡ Some x
      → filter_map g (less_first b ms) ≡ behind b (filter_map g ms)
  behind_outline true ms rest m x at seen = let here = at refl in rw (here, seen) refl
  behind_outline false ms rest m x at seen = refl

  unseen_outline : (b : Bool) (ms rest : List M) (m : M) → (b ≡ true → ms ≡ m ∷ rest) → g m ≡ None → filter_map g (less_first b ms) ≡ filter_map g ms
  unseen_outline true ms rest m at seen = let here = at refl in rw (here, seen) refl
  unseen_outline false ms rest m at seen = refl

module _ {A M N X : Type 0} (g : M → Option X) (step : A → ℕ → M → Stepped A M N) (n : ℕ) (w : Network A M N) (k p : ℕ) (node : A) (m : M) (rest : List M)
    (takes : Takes step n w k p node m rest) where
  abbrev pub after_choice : Network A M N
  after_choice = world_next step w (at k p)

  -- a world and links that are its outline
  abbrev pub Shows : Network A M N → (ℕ → ℕ → List X) → Type 0
  Shows v l = (i j : ℕ) → i < n → j < n → (i == 0) && (j == 0) ≡ false → l i j ≡ filter_map g (queue_at v (at j i))

  abbrev outlines : List (ℕ × X)
  outlines = filter_map (of_sent g) (step node p m).sends

  here : (i j : ℕ) → (i == p) && (j == k) ≡ true → queue_at w (at j i) ≡ m ∷ rest
  here i j e = let ip : i ≡ p = grind (arith, nat_tests) in
      let jk : j ≡ k = grind (arith, nat_tests) in ap (λ x. queue_at w (at j x)) ip ∙ ap (λ x. queue_at w (at x p)) jk ∙ takes.waits

  below : (j : ℕ) → j < n → nat_lt j n ≡ true
  below j e = (Decides-ltb j n).1 e

  -- a message that the outline shows is taken
  pub shows_taken : (l : ℕ → ℕ → List X) (x : X) → Shows w l → g m ≡ Some x → Shows after_choice (λ i j. links_after l p k outlines i j)
  shows_taken l x h seen i j hi hj off =
      let left = taken_outcome step n w k p node m rest takes in
      ap (λ xs. behind ((i == p) && (j == k)) xs ++ (if i == k then sent_for j outlines else [])) (h i j hi hj off)
      ∙ ap (λ xs. xs ++ (if i == k then sent_for j outlines else []))
      (sym (behind_outline g ((i == p) && (j == k)) (queue_at w (at j i)) rest m x (here i j) seen))
      ∙ ap (λ xs. filter_map g (less_first ((i == p) && (j == k)) (queue_at w (at j i))) ++ xs)
      (sym (put_outline g n k i j (step node p m).sends (below j hj) off))
      ∙ sym (filter_map-put g (less_first ((i == p) && (j == k)) (queue_at w (at j i))) (put_on_link n k i j (step node p m).sends))
      ∙ ap (filter_map g) (sym (left.waits i j))

  -- a message that it doesn't show is taken
  pub shows_unseen : (l : ℕ → ℕ → List X) → Shows w l → g m ≡ None → Shows after_choice (λ i j. l i j ++ (if i == k then sent_for j outlines else []))
  shows_unseen l h unseen i j hi hj off =
      let left = taken_outcome step n w k p node m rest takes in
      ap (λ xs. xs ++ (if i == k then sent_for j outlines else [])) (h i j hi hj off)
      ∙ ap (λ xs. xs ++ (if i == k then sent_for j outlines else []))
      (sym (unseen_outline g ((i == p) && (j == k)) (queue_at w (at j i)) rest m (here i j) unseen))
      ∙ ap (λ xs. filter_map g (less_first ((i == p) && (j == k)) (queue_at w (at j i))) ++ xs)
      (sym (put_outline g n k i j (step node p m).sends (below j hj) off))
      ∙ sym (filter_map-put g (less_first ((i == p) && (j == k)) (queue_at w (at j i))) (put_on_link n k i j (step node p m).sends))
      ∙ ap (filter_map g) (sym (left.waits i j))
