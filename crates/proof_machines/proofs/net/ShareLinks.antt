-- What a unit under a share sees of all links after a step, against the links of its view after a move of the share's machine. And a view that
-- agrees with one that is shown is shown.
use Rattle.proof_machines.proofs.net.Words.{◌≡◌, ℕ, Bool, true, false, Some, None, List, [], ◌∷◌, ◌++◌, refl, sym, ap, ◌∙◌, append-nil, arith, if◌then◌else◌}
use Rattle.proof_machines.proofs.net.Words.{◌&&◌, ◌==◌, nat_tests, add, sent_for, filter_map-append, View, ShareMachineStep, put, joined, only, brings, Alike}
use Rattle.proof_machines.proofs.net.Words.{cond-same, Sys, behind, links_after, share_expect, unit_share, share_seen, share_items, as_share, ShareHolds, Any}
use Rattle.proof_machines.proofs.net.Words.{Sharing, WholeWorld, SeeingShare, split}
use Rattle.proof_machines.proofs.share.Share.{Item, moved}

module _ {R : Type 0} (x : View R) where
  -- Of each link that may be taken
  pub sw_links : (y i j : ℕ) (rest did : List (Item R)) (sent : ℕ → List (Item R)) → (y == 0) ≡ false → (y == 1) ≡ false → (i == 0) && (j == 0) ≡ false
      → sent 1 ≡ did → ((r : ℕ) → (r == 1) ≡ false → sent r ≡ []) → (if (i == 0) && (j == y) then rest else share_expect x i j)
      ++ (if i == y then sent j else []) ≡ share_expect (record x { sw = put x.sw y rest; back = joined x.back (only y did) }) i j
  sw_links y i j rest did sent y0 y1 off to_1 to_else = grind (arith, nat_tests, append-nil, to_else j)

  pub to_links : (y i j : ℕ) (rest did : List (Item R)) (sent : ℕ → List (Item R)) → (y == 0) ≡ false → (y == 1) ≡ false → sent 1 ≡ did
      → ((r : ℕ) → (r == 1) ≡ false → sent r ≡ []) → (if (i == 1) && (j == y) then rest else share_expect x i j) ++ (if i == y then sent j else [])
      ≡ share_expect (record x { to = put x.to y rest; back = joined x.back (only y did) }) i j
  to_links y i j rest did sent y0 y1 to_1 to_else = grind (arith, nat_tests, append-nil, to_else j)

  pub sc_links : (i j : ℕ) (rest to_s : List (Item R)) (to sent : ℕ → List (Item R)) → sent 0 ≡ to_s → ((k : ℕ) → (k == 0) ≡ false → sent k ≡ to k)
      → (if (i == 0) && (j == 1) then rest else share_expect x i j) ++ (if i == 1 then sent j else [])
      ≡ share_expect (record x { sc = rest; cs = x.cs ++ to_s; to = joined x.to to }) i j
  sc_links i j rest to_s to sent at_0 at_k = grind (arith, nat_tests, append-nil, at_k j)

  pub back_links : (p i j : ℕ) (rest to_s : List (Item R)) (to sent : ℕ → List (Item R)) → (p == 0) ≡ false → (p == 1) ≡ false → sent 0 ≡ to_s
      → ((k : ℕ) → (k == 0) ≡ false → sent k ≡ to k) → (if (i == p) && (j == 1) then rest else share_expect x i j) ++ (if i == 1 then sent j else [])
      ≡ share_expect (record x { back = put x.back p rest; cs = x.cs ++ to_s; to = joined x.to to }) i j
  back_links p i j rest to_s to sent p0 p1 at_0 at_k = grind (arith, nat_tests, append-nil, at_k j)

  pub cs_links : (i j : ℕ) (rest : List (Item R)) (to sent : ℕ → List (Item R)) → (i == 0) && (j == 0) ≡ false → sent 1 ≡ []
      → ((k : ℕ) → (k == 0) ≡ false → (k == 1) ≡ false → sent k ≡ to k) → (if (i == 1) && (j == 0) then rest else share_expect x i j)
      ++ (if i == 0 then sent j else []) ≡ share_expect (record x { cs = rest; sw = joined x.sw to }) i j
  cs_links i j rest to sent off at_1 at_k = grind (arith, nat_tests, append-nil, at_k j)

  -- a packet of the input
  pub in_links : (i j : ℕ) (sc : List (Item R)) (to sent : ℕ → List (Item R)) → (i == 0) && (j == 0) ≡ false
      → sent 1 ≡ sc → ((k : ℕ) → (k == 0) ≡ false → (k == 1) ≡ false → sent k ≡ to k)
      → share_expect x i j ++ (if i == 0 then sent j else []) ≡ share_expect (record x { sc = x.sc ++ sc; sw = joined x.sw to }) i j
  in_links i j sc to sent off at_1 at_k = grind (arith, nat_tests, append-nil, at_k j)

  -- nothing is sent that is seen
  pub none_links : (k i j : ℕ) (sent : ℕ → List (Item R)) → ((r : ℕ) → sent r ≡ []) → share_expect x i j ++ (if i == k then sent j else []) ≡ share_expect x i j
  none_links k i j sent none = ap (λ v. share_expect x i j ++ (if i == k then v else [])) (none j)
      ∙ ap (λ v. share_expect x i j ++ v) (cond-same {X = List (Item R)} (i == k) []) ∙ append-nil (share_expect x i j)

  -- and nothing of what is taken
  pub quiet_links : (p k i j : ℕ) (rest : List (Item R)) (sent : ℕ → List (Item R)) → rest ≡ share_expect x p k → ((r : ℕ) → sent r ≡ [])
      → (if (i == p) && (j == k) then rest else share_expect x i j) ++ (if i == k then sent j else []) ≡ share_expect x i j
  quiet_links p k i j rest sent same none =
      split ((i == p) && (j == k)) (λ b. (if b then rest else share_expect x i j) ++ (if i == k then sent j else []) ≡ share_expect x i j)
      (λ e.
      let ip : i ≡ p = grind (arith, nat_tests) in
      let jk : j ≡ k = grind (arith, nat_tests) in
      let here : rest ≡ share_expect x i j = rw (ip, jk) same in
      ap (λ v. v ++ (if i == k then sent j else [])) here ∙ none_links k i j sent none)
      (λ _. none_links k i j sent none)

module _ {R : Type 0} (S : Sys R) (A : Sharing S) (z : SeeingShare) where
  seen_if : (b : Bool) (j : ℕ) (ms : List (Any R)) → share_items S A z j (if b then ms else []) ≡ (if b then share_items S A z j ms else [])
  seen_if true j ms = refl
  seen_if false j ms = refl

  -- what is seen of a link after node k took its first message from port p
  pub view_after : (l : ℕ → ℕ → List (Any R)) (p k : ℕ) (m : Any R) (rest : List (Any R)) (sends : List (ℕ × Any R)) → l p k ≡ m ∷ rest → (i j : ℕ)
      → share_items S A z j (links_after l p k sends i j) ≡ (if (i == p) && (j == k) then share_items S A z k rest else share_items S A z j (l i j))
      ++ (if i == k then share_items S A z j (sent_for j sends) else [])
  view_after l p k m rest sends waits i j =
      filter_map-append (share_seen S A z j) (behind ((i == p) && (j == k)) (l i j)) (if i == k then sent_for j sends else [])
      ∙ ap (λ v. v ++ share_items S A z j (if i == k then sent_for j sends else [])) left
      ∙ ap (λ v. (if (i == p) && (j == k) then share_items S A z k rest else share_items S A z j (l i j)) ++ v) (seen_if (i == k) j (sent_for j sends))
    where
      left : share_items S A z j (behind ((i == p) && (j == k)) (l i j))
          ≡ (if (i == p) && (j == k) then share_items S A z k rest else share_items S A z j (l i j))
      left = split ((i == p) && (j == k)) (λ b. share_items S A z j (behind b (l i j)) ≡ (if b then share_items S A z k rest else share_items S A z j (l i j)))
          (λ e.
          let ip : i ≡ p = grind (arith, nat_tests) in
          let jk : j ≡ k = grind (arith, nat_tests) in
          rw (ip, jk, waits) refl)
          (λ _. refl)

  -- and after something was put on a node's links
  pub view_put : (l : ℕ → ℕ → List (Any R)) (k : ℕ) (sends : List (ℕ × Any R)) (i j : ℕ) → share_items S A z j
      (l i j ++ (if i == k then sent_for j sends else [])) ≡ share_items S A z j (l i j) ++ (if i == k then share_items S A z j (sent_for j sends) else [])
  view_put l k sends i j = filter_map-append (share_seen S A z j) (l i j) (if i == k then sent_for j sends else [])
      ∙ ap (λ v. share_items S A z j (l i j) ++ v) (seen_if (i == k) j (sent_for j sends))

  -- one message for one receiver
  pub lone_view : (n k : ℕ) (m : Any R) → share_items S A z k (sent_for k ((n, m) ∷ [])) ≡ (if n == k then share_items S A z k (m ∷ []) else [])
  lone_view n k m = elim (n == k) as (λ b. share_items S A z k (if b then m ∷ [] else []) ≡ (if b then share_items S A z k (m ∷ []) else []))
      [ true ↦ refl | false ↦ refl ]

  pub lone_unseen : (n k : ℕ) (m : Any R) → ((r : ℕ) → share_seen S A z r m ≡ None) → share_items S A z k (sent_for k ((n, m) ∷ [])) ≡ []
  lone_unseen n k m none =
      lone_view n k m ∙ elim (n == k) as (λ b. (if b then share_items S A z k (m ∷ []) else []) ≡ []) [ true ↦ ap (λ o. add o []) (none k) | false ↦ refl ]

  -- a step is nothing to the unit, or a move of its machine that brings none of its packets
  pub data Goes (w : WholeWorld S A) (x : View R) : Type 0 where
    Nothing : ShareHolds S A z w x → Goes w x
    Moves_so : (mv : ShareMachineStep) → brings (unit_share S A z) mv ≡ [] → ShareHolds S A z w (moved (unit_share S A z) x mv) → Goes w x

  expect_alike : (x y : View R) → Alike (unit_share S A z) x y → (i j : ℕ) → share_expect x i j ≡ share_expect y i j
  expect_alike x y a i j = let sc = a.sc in let cs = a.cs in let sw = a.sw j in let to = a.to j in let back = a.back i in rw (sc, cs, sw, to, back) refl

  pub holds_alike : (w : WholeWorld S A) (x y : View R) → ShareHolds S A z w x → Alike (unit_share S A z) x y → ShareHolds S A z w y
  holds_alike w x y h a = record {
    links = λ i j e. h.links i j e ∙ expect_alike x y a i j;
    own = λ k m. h.own k m ∙ a.own k m;
    share = h.share ∙ ap (λ ph. Some (as_share S A z ph x.queue)) a.phase ∙ ap (λ q. Some (as_share S A z y.phase q)) a.queue;
    target = h.target ∙ ap (λ b. if b then 1 else z.home) a.diverts;
    diverts = λ v t c. sym a.diverts ∙ h.diverts v t c;
    done = h.done ∙ a.done;
  }
