-- What the messages on all links weigh together, where a message weighs by the link that it stands on; and what a step changes of it. Generic
-- in the actor.
use Rattle.nf_net.proofs.Words.{◌≡◌, ℕ, zero, suc, ◌+◌, ◌<◌, ◌≤◌, true, false, List, [], ◌∷◌, ◌++◌, refl, ap, subst, ◌∙◌, arith, if◌then◌else◌, ◌==◌, ◌&&◌}
use Rattle.nf_net.proofs.Words.{nat_tests, Decides-eqb, Network, Stepped, queue_at, world_next, reaches, sent_for, at, put_on_link, less_first, Takes}
use Rattle.nf_net.proofs.Words.{taken_outcome, weigh, weigh-append, split, either_way}
use Rattle.actor_net.proofs.LinkLemmas.{within}
use Rattle.actor_net.proofs.WeightLaws.{weigh_same}

-- a sum over the numbers below one
abbrev pub upto : (ℕ → ℕ) → ℕ → ℕ
upto g zero = 0
upto g (suc i) = upto g i + g i

upto_balance : (a b c d : ℕ → ℕ) (n : ℕ) → ((i : ℕ) → i < n → a i + b i ≡ c i + d i) → upto a n + upto b n ≡ upto c n + upto d n
upto_balance a b c d zero h = refl
upto_balance a b c d (suc n) h =
    let rest = upto_balance a b c d n (λ i less. h i (omega (arith, less))) in
    omega (arith, rest, h n (omega arith))

pub upto_none : (g : ℕ → ℕ) (n : ℕ) → ((i : ℕ) → i < n → g i ≡ 0) → upto g n ≡ 0
upto_none g zero h = refl
upto_none g (suc n) h =
    let rest = upto_none g n (λ i less. h i (omega (arith, less))) in
    omega (arith, rest, h n (omega arith))

upto_only : (g : ℕ → ℕ) (k n : ℕ) → k < n → ((i : ℕ) → (i == k) ≡ false → g i ≡ 0) → upto g n ≡ g k
upto_only g k zero less h = absurd (omega (arith, less))
upto_only g k (suc n) less h = split (n == k) (λ _. upto g n + g n ≡ g k)
    (λ on.
    let same : n ≡ k = (Decides-eqb n k).0 on in
    let rest = upto_none g n (λ i low. h i (grind (arith, nat_tests, low, same))) in
    let own = ap g same in
    omega (arith, rest, own))
    (λ off.
    let own = h n off in
    omega (arith, upto_only g k n (grind (arith, nat_tests, less, off)) h, own))

upto_same : (g h : ℕ → ℕ) (n : ℕ) → ((i : ℕ) → g i ≡ h i) → upto g n ≡ upto h n
upto_same g h zero e = refl
upto_same g h (suc n) e = let rest = upto_same g h n e in let own = e n in omega (arith, rest, own)

pub upto_sum : (g h : ℕ → ℕ) (n : ℕ) → upto (λ i. g i + h i) n ≡ upto g n + upto h n
upto_sum g h zero = refl
upto_sum g h (suc n) = let rest = upto_sum g h n in omega (arith, rest)

pub upto_least : (g : ℕ → ℕ) (k n : ℕ) → k < n → g k ≤ upto g n
upto_least g k zero less = absurd (omega (arith, less))
upto_least g k (suc n) less = either_way (n == k) (λ on. (let own = ap g ((Decides-eqb n k).0 on) in omega (arith, own)))
    (λ off. (let rest = upto_least g k n (grind (arith, nat_tests, less, off)) in omega (arith, rest)))

-- all that stands anywhere between n nodes; the input counts as the link of node 0 to itself
abbrev pub at_links : {A M N : Type 0} → (ℕ → ℕ → M → ℕ) → ℕ → Network A M N → ℕ
at_links f n w = upto (λ s. upto (λ r. weigh (f s r) (queue_at w (at r s))) n) n

-- what node k sends, as far as it arrives
abbrev pub sends_weigh : {M : Type 0} → (ℕ → ℕ → M → ℕ) → ℕ → ℕ → List (ℕ × M) → ℕ
sends_weigh f n k sends = weigh (λ x. if reaches n k x.0 then f k x.0 x.1 else 0) sends

pub sends_weigh-append : {M : Type 0} (f : ℕ → ℕ → M → ℕ) (n k : ℕ) (xs ys : List (ℕ × M))
    → sends_weigh f n k (xs ++ ys) ≡ sends_weigh f n k xs + sends_weigh f n k ys
sends_weigh-append {M = M} f n k xs ys = weigh-append (λ (x : ℕ × M). if reaches n k x.0 then f k x.0 x.1 else 0) xs ys

pub at_links_same : {A M N : Type 0} (f g : ℕ → ℕ → M → ℕ) (n : ℕ) (w : Network A M N) → ((s r : ℕ) (m : M) → f s r m ≡ g s r m)
    → at_links f n w ≡ at_links g n w
at_links_same f g n w e = upto_same _ _ n (λ s. upto_same _ _ n (λ r. weigh_same (f s r) (g s r) (queue_at w (at r s)) (e s r)))

pub at_links_none : {A M N : Type 0} (f : ℕ → ℕ → M → ℕ) (n : ℕ) (w : Network A M N) → ((s r : ℕ) → s < n → r < n → weigh (f s r) (queue_at w (at r s)) ≡ 0)
    → at_links f n w ≡ 0
at_links_none f n w h = upto_none _ n (λ s hs. upto_none _ n (λ r hr. h s r hs hr))

module _ {M : Type 0} (f : ℕ → ℕ → M → ℕ) (n k : ℕ) where
  -- what is put on the link from s to r
  abbrev pub gains : List (ℕ × M) → ℕ → ℕ → ℕ
  gains sends s r = weigh (f s r) (put_on_link n k s r sends)

  gains_nothing : (s r : ℕ) → gains [] s r ≡ 0
  gains_nothing s r = elim ((s == k) && reaches n k r) as (λ b. weigh (f s r) (if b then [] else []) ≡ 0) [ true ↦ refl | false ↦ refl ]

  gains_elsewhere : (sends : List (ℕ × M)) (s r : ℕ) → (s == k) ≡ false → gains sends s r ≡ 0
  gains_elsewhere sends s r off = ap (λ b. weigh (f s r) (if b && reaches n k r then sent_for r sends else [])) off

  -- the first message alone
  abbrev first_gains : ℕ × M → ℕ → ℕ
  first_gains x r = if reaches n k r then (if x.0 == r then f k r x.1 else 0) else 0

  gains_more : (x : ℕ × M) (xs : List (ℕ × M)) (r : ℕ) → gains (x ∷ xs) k r ≡ first_gains x r + gains xs k r
  gains_more x xs r =
      let self : (k == k) ≡ true = grind (arith, nat_tests) in
      rw self (split (reaches n k r)
      (λ b. weigh (f k r) (if b then (if x.0 == r then x.1 ∷ [] else []) ++ sent_for r xs else []) ≡ (if b then (if x.0 == r then f k r x.1 else 0) else 0)
      + weigh (f k r) (if b then sent_for r xs else []))
      (λ _. elim (x.0 == r) as (λ b. weigh (f k r) ((if b then x.1 ∷ [] else []) ++ sent_for r xs)
      ≡ (if b then f k r x.1 else 0) + weigh (f k r) (sent_for r xs)) [ true ↦ refl | false ↦ omega arith ]) (λ _. refl))

  first_sum : (x : ℕ × M) → upto (first_gains x) n ≡ (if reaches n k x.0 then f k x.0 x.1 else 0)
  first_sum x = split (reaches n k x.0) (λ b. upto (first_gains x) n ≡ (if b then f k x.0 x.1 else 0))
      (λ on.
      let self : (x.0 == x.0) ≡ true = grind (arith, nat_tests) in
      upto_only (first_gains x) x.0 n (within n k x.0 on) elsewhere ∙ rw (on, self) refl) (λ off. upto_none (first_gains x) n (λ r less. nothing off r))
    where
      elsewhere : (r : ℕ) → (r == x.0) ≡ false → first_gains x r ≡ 0
      elsewhere r off =
          let turned : (x.0 == r) ≡ false = grind (arith, nat_tests, off) in
          rw turned (elim (reaches n k r) as (λ b. ◌≡◌ {A = ℕ} (if b then 0 else 0) 0) [ true ↦ refl | false ↦ refl ])

      nothing : reaches n k x.0 ≡ false → (r : ℕ) → first_gains x r ≡ 0
      nothing off r = split (x.0 == r) (λ b. (if reaches n k r then (if b then f k r x.1 else 0) else 0) ≡ 0)
          (λ on. (let same : reaches n k r ≡ false = subst (λ y. reaches n k y ≡ false) ((Decides-eqb x.0 r).0 on) off in rw same refl))
          (λ _. elim (reaches n k r) as (λ b. ◌≡◌ {A = ℕ} (if b then 0 else 0) 0) [ true ↦ refl | false ↦ refl ])

  gains_sum : (sends : List (ℕ × M)) → upto (gains sends k) n ≡ sends_weigh f n k sends
  gains_sum [] = upto_none (gains [] k) n (λ r less. gains_nothing k r)
  gains_sum (x ∷ xs) = upto_same (gains (x ∷ xs) k) (λ r. first_gains x r + gains xs k r) n (gains_more x xs) ∙ upto_sum (first_gains x) (gains xs k) n
      ∙ (let first = first_sum x in let rest = gains_sum xs in omega (arith, first, rest))

  all_gains : (sends : List (ℕ × M)) → k < n → upto (λ s. upto (gains sends s) n) n ≡ sends_weigh f n k sends
  all_gains sends less =
      upto_only (λ s. upto (gains sends s) n) k n less (λ s off. upto_none (gains sends s) n (λ r _. gains_elsewhere sends s r off)) ∙ gains_sum sends

module _ {A M N : Type 0} (step : A → ℕ → M → Stepped A M N) (n : ℕ) (w : Network A M N) (k p : ℕ) (node : A) (m : M) (rest : List M)
    (takes : Takes step n w k p node m rest) (f : ℕ → ℕ → M → ℕ) where
  abbrev v : Network A M N
  v = world_next step w (at k p)

  abbrev sends : List (ℕ × M)
  sends = (step node p m).sends

  -- the message that is taken weighs on its link alone
  abbrev pub loses : ℕ → ℕ → ℕ
  loses s r = if (s == p) && (r == k) then f s r m else 0

  there : (s r : ℕ) → (s == p) && (r == k) ≡ true → queue_at w (at r s) ≡ m ∷ rest
  there s r on =
      let from : s ≡ p = grind (arith, nat_tests) in
      let to : r ≡ k = grind (arith, nat_tests) in
      ap (λ x. queue_at w (at r x)) from ∙ ap (λ x. queue_at w (at x p)) to ∙ takes.waits

  -- what a step changes on one link
  pub cell : (s r : ℕ) → weigh (f s r) (queue_at v (at r s)) + loses s r ≡ weigh (f s r) (queue_at w (at r s)) + gains f n k sends s r
  cell s r =
      let both = weigh-append (f s r) (less_first ((s == p) && (r == k)) (queue_at w (at r s))) (put_on_link n k s r sends) in
      let less = split ((s == p) && (r == k))
      (λ b. weigh (f s r) (less_first b (queue_at w (at r s))) + (if b then f s r m else 0) ≡ weigh (f s r) (queue_at w (at r s)))
      (λ on. (let e = there s r on in rw e (omega arith))) (λ _. omega arith) in
      omega (arith, ap (weigh (f s r)) ((taken_outcome step n w k p node m rest takes).waits s r), both, less)

  loses_sum : upto (λ s. upto (loses s) n) n ≡ f p k m
  loses_sum =
      let pp : (p == p) ≡ true = grind (arith, nat_tests) in
      let kk : (k == k) ≡ true = grind (arith, nat_tests) in
      upto_only (λ s. upto (loses s) n) p n takes.sender (λ s off. upto_none (loses s) n (λ r _. rw off refl))
      ∙ upto_only (loses p) k n takes.receiver (λ r off. rw (pp, off) refl) ∙ rw (pp, kk) refl

  pub at_links_after : at_links f n v + f p k m ≡ at_links f n w + sends_weigh f n k sends
  at_links_after =
      let all = upto_balance (λ s. upto (λ r. weigh (f s r) (queue_at v (at r s))) n) (λ s. upto (loses s) n)
      (λ s. upto (λ r. weigh (f s r) (queue_at w (at r s))) n) (λ s. upto (gains f n k sends s) n) n (λ s _. upto_balance
      (λ r. weigh (f s r) (queue_at v (at r s))) (loses s) (λ r. weigh (f s r) (queue_at w (at r s))) (gains f n k sends s) n (λ r _. cell s r)) in
      omega (arith, all, loses_sum, all_gains f n k sends takes.receiver)

  -- what is taken is among it
  pub taken_least : f p k m ≤ at_links f n w
  taken_least =
      let inner = upto_least (λ r. weigh (f p r) (queue_at w (at r p))) k n takes.receiver in
      let outer = upto_least (λ s. upto (λ r. weigh (f s r) (queue_at w (at r s))) n) p n takes.sender in
      omega (arith, ap (weigh (f p k)) takes.waits, inner, outer)
