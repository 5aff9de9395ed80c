-- What stands on the way to the controller, which is its link from the switch and the input after it: what is picked out of it, in order,
-- as a step goes on.
use Rattle.nf_net.proofs.Words.{◌≡◌, ℕ, suc, ◌<◌, Bool, true, false, List, [], ◌∷◌, ◌++◌, drop, append_assoc, append-nil, refl, sym, ap, ◌∙◌, arith}
use Rattle.nf_net.proofs.Words.{if◌then◌else◌, ◌&&◌, ◌==◌, not, nat_lt, nat_tests, Decides-ltb, and-false, and-true, Msg, Note, Network, Stepped, queue_at}
use Rattle.nf_net.proofs.Words.{world_next, reaches, core_sent, at, put_on_link, less_first, Takes, taken_outcome, flat_map}
use Rattle.std.proofs.lemmas.List.Concat.{flat_map-append}

put_none : {M : Type 0} (n k s r : ℕ) (sends : List (ℕ × M)) → (s == k) ≡ false → put_on_link n k s r sends ≡ []
put_none n k s r sends off = ap (λ b. if b && reaches n k r then core_sent r sends else []) off

module _ {X : Type 0} (pick : Msg → List X) where
  abbrev pub picked : List Msg → List X
  picked ms = flat_map pick ms

  -- what is picked of the link and the input
  abbrev pub on_way : {A : Type 0} → Network A Msg Note → List X
  on_way w = picked (queue_at w (at 1 0)) ++ picked (queue_at w (at 0 0))

  -- what is picked, by where a message was taken
  less_picked : (b : Bool) (ms rest : List Msg) (m : Msg) → (b ≡ true → ms ≡ m ∷ rest) → picked ms ≡ (if b then pick m else []) ++ picked (less_first b ms)
  less_picked true ms rest m is = ap picked (is refl) ∙ ap (λ xs. pick m ++ picked (drop 1 xs)) (sym (is refl))
  less_picked false ms rest m is = refl

module _ {X : Type 0} (pick : Msg → List X) {A : Type 0} (step : A → ℕ → Msg → Stepped A Msg Note) (n : ℕ) (few : 1 < n) (w : Network A Msg Note) (p : ℕ)
    (node : A) (m : Msg) (rest : List Msg) where
  module _ (k : ℕ) (takes : Takes step n w k p node m rest) where
    abbrev v : Network A Msg Note
    v = world_next step w (at k p)

    abbrev sends : List (ℕ × Msg)
    sends = (step node p m).sends

    -- the link to the controller, and the input
    link_is : queue_at v (at 1 0) ≡ less_first ((0 == p) && (1 == k)) (queue_at w (at 1 0)) ++ put_on_link n k 0 1 sends
    link_is = (taken_outcome step n w k p node m rest takes).waits 0 1

    input_is : queue_at v (at 0 0) ≡ less_first ((0 == p) && (0 == k)) (queue_at w (at 0 0))
    input_is = (taken_outcome step n w k p node m rest takes).waits 0 0 ∙ ap (λ xs. less_first ((0 == p) && (0 == k)) (queue_at w (at 0 0)) ++ xs) none
        ∙ append-nil (less_first ((0 == p) && (0 == k)) (queue_at w (at 0 0)))
      where
        none : put_on_link n k 0 0 sends ≡ []
        none = let off : (0 == k) && (nat_lt 0 n && not ((k == 0) && (0 == 0))) ≡ false = grind (arith, nat_tests) in rw off refl

    first_there : (s r : ℕ) → (s == p) && (r == k) ≡ true → queue_at w (at r s) ≡ m ∷ rest
    first_there s r on =
        let from : s ≡ p = grind (arith, nat_tests) in
        let to : r ≡ k = grind (arith, nat_tests) in
        ap (λ x. queue_at w (at r x)) from ∙ ap (λ x. queue_at w (at x p)) to ∙ takes.waits

    link_less : picked pick (queue_at w (at 1 0))
        ≡ (if (0 == p) && (1 == k) then pick m else []) ++ picked pick (less_first ((0 == p) && (1 == k)) (queue_at w (at 1 0)))
    link_less = less_picked pick ((0 == p) && (1 == k)) (queue_at w (at 1 0)) rest m (λ on. first_there 0 1 on)

    input_less : picked pick (queue_at w (at 0 0)) ≡ (if (0 == p) && (0 == k) then pick m else []) ++ picked pick (queue_at v (at 0 0))
    input_less = less_picked pick ((0 == p) && (0 == k)) (queue_at w (at 0 0)) rest m (λ on. first_there 0 0 on)
        ∙ ap (λ xs. (if (0 == p) && (0 == k) then pick m else []) ++ picked pick xs) (sym input_is)

    -- nothing is put on the link to the controller but by the switch
    link_other : (0 == k) ≡ false → queue_at v (at 1 0) ≡ less_first ((0 == p) && (1 == k)) (queue_at w (at 1 0))
    link_other off = link_is ∙ ap (λ xs. less_first ((0 == p) && (1 == k)) (queue_at w (at 1 0)) ++ xs) (put_none n k 0 1 sends off)
        ∙ append-nil (less_first ((0 == p) && (1 == k)) (queue_at w (at 1 0)))

    input_other : (0 == k) ≡ false → picked pick (queue_at w (at 0 0)) ≡ picked pick (queue_at v (at 0 0))
    input_other off = input_less ∙ ap (λ b. (if b then pick m else []) ++ picked pick (queue_at v (at 0 0))) (ap (λ x. (0 == p) && x) off ∙ and-false (0 == p))

  -- the switch took the message, and handed on what it brings
  pub at_switch : (takes : Takes step n w 0 p node m rest) → picked pick (core_sent 1 (step node p m).sends) ≡ pick m
      → pick m ≡ (if 0 == p then pick m else []) → on_way pick w ≡ on_way pick (world_next step w (at 0 p))
  at_switch takes hands from =
      let after = world_next step w (at 0 p) in
      let put : put_on_link n 0 0 1 (sends 0 takes) ≡ core_sent 1 (sends 0 takes) =
      (let there : (0 == 0) && (nat_lt 1 n && not ((0 == 0) && (1 == 0))) ≡ true = (let small = (Decides-ltb 1 n).1 few in rw small refl) in
      rw there refl) in
      let link : picked pick (queue_at after (at 1 0)) ≡ picked pick (queue_at w (at 1 0)) ++ pick m =
      ap (picked pick) (link_is 0 takes ∙ ap (λ x. less_first x (queue_at w (at 1 0)) ++ put_on_link n 0 0 1 (sends 0 takes)) (and-false (0 == p)))
      ∙ flat_map-append pick (queue_at w (at 1 0)) (put_on_link n 0 0 1 (sends 0 takes))
      ∙ ap (λ xs. picked pick (queue_at w (at 1 0)) ++ xs) (ap (picked pick) put ∙ hands) in
      let input : picked pick (queue_at w (at 0 0)) ≡ pick m ++ picked pick (queue_at after (at 0 0)) =
      input_less 0 takes ∙ ap (λ xs. xs ++ picked pick (queue_at after (at 0 0))) (ap (λ x. if x then pick m else []) (and-true (0 == p)) ∙ sym from) in
      ap (λ xs. picked pick (queue_at w (at 1 0)) ++ xs) input
      ∙ sym (append_assoc (picked pick (queue_at w (at 1 0))) (pick m) (picked pick (queue_at after (at 0 0))))
      ∙ ap (λ xs. xs ++ picked pick (queue_at after (at 0 0))) (sym link)

  -- the controller took it
  pub at_controller : (takes : Takes step n w 1 p node m rest) → pick m ≡ (if 0 == p then pick m else [])
      → on_way pick w ≡ pick m ++ on_way pick (world_next step w (at 1 p))
  at_controller takes from =
      let after = world_next step w (at 1 p) in
      let link : picked pick (queue_at w (at 1 0)) ≡ pick m ++ picked pick (queue_at after (at 1 0)) =
      link_less 1 takes ∙ ap (λ xs. (if (0 == p) && (1 == 1) then pick m else []) ++ picked pick xs) (sym (link_other 1 takes refl))
      ∙ ap (λ xs. xs ++ picked pick (queue_at after (at 1 0))) (ap (λ x. if x then pick m else []) (and-true (0 == p)) ∙ sym from) in
      ap (λ xs. xs ++ picked pick (queue_at w (at 0 0))) link ∙ append_assoc (pick m) (picked pick (queue_at after (at 1 0)))
      (picked pick (queue_at w (at 0 0))) ∙ ap (λ xs. pick m ++ (picked pick (queue_at after (at 1 0)) ++ xs)) (input_other 1 takes refl)

  -- an instance took it
  pub at_instance : (i : ℕ) (takes : Takes step n w (suc (suc i)) p node m rest) → on_way pick w ≡ on_way pick (world_next step w (at (suc (suc i)) p))
  at_instance i takes =
      let k = suc (suc i) in
      let after = world_next step w (at k p) in
      let off : (0 == k) ≡ false = grind (arith, nat_tests) in
      let off_one : (1 == k) ≡ false = grind (arith, nat_tests) in
      let link : queue_at after (at 1 0) ≡ queue_at w (at 1 0) = link_other k takes off
      ∙ ap (λ x. less_first x (queue_at w (at 1 0))) (ap (λ x. (0 == p) && x) off_one ∙ and-false (0 == p)) in
      ap (λ xs. picked pick (queue_at w (at 1 0)) ++ xs) (input_other k takes off)
      ∙ ap (λ xs. picked pick xs ++ picked pick (queue_at after (at 0 0))) (sym link)
