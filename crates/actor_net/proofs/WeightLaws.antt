-- What holds of each message that stands anywhere, and what messages weigh together: how both go on with a step. Generic in
-- the actor; for invariants of a network that is built on it.
use Rattle.std.proofs.Common.{◌≡◌, ℕ, zero, suc, ◌+◌, ◌*◌, ◌<◌, Bool, true, false, List, []}
use Rattle.std.proofs.Common.{◌∷◌, ◌++◌, length, get_or, set, drop, refl, sym, ap, subst, ◌∙◌, arith}
use Rattle.std.specs.Prelude.{if◌then◌else◌, ◌==◌, ◌&&◌}
use Rattle.std.proofs.lemmas.Bool.Decides.{Decides-eqb}
use Rattle.actor_net.specs.Network.{Network, Stepped, on_link, queue_at, without_first, put_on, links_after, world_next, reaches}
use Rattle.actor_net.specs.Histories.{sent_for}
use Rattle.actor_net.proofs.EnabledChoices.{at}
use Rattle.actor_net.proofs.LinkLemmas.{put_on_link, within, inside, length-put_on}
use Rattle.actor_net.proofs.WaitingMessages.{less_first, waiting_is}
use Rattle.actor_net.proofs.StepOutcome.{Takes, taken_outcome, taken_is, kept}

-- a fact of each element of a list, by recursion
abbrev pub Each : {M : Type 0} → (M → Type 0) → List M → Type 0
Each P [] = Unit {0}
Each P (x ∷ xs) = P x × Each P xs

-- each message from one node to another has this fact
abbrev pub OnLinks : {A M N : Type 0} → (ℕ → ℕ → M → Type 0) → Network A M N → Type 0
OnLinks P w = (s r : ℕ) → s < length w.nodes → r < length w.nodes → Each (P s r) (queue_at w (at r s))

-- and so has each message that node s sends
abbrev pub EachSent : {M : Type 0} → (ℕ → ℕ → M → Type 0) → ℕ → List (ℕ × M) → Type 0
EachSent P s [] = Unit {0}
EachSent P s (x ∷ xs) = P s x.0 x.1 × EachSent P s xs

pub each-append : {M : Type 0} (P : M → Type 0) (xs ys : List M) → Each P xs → Each P ys → Each P (xs ++ ys)
each-append P [] ys first second = second
each-append P (x ∷ xs) ys first second = (first.0, each-append P xs ys first.1 second)

each-less_first : {M : Type 0} (P : M → Type 0) (b : Bool) (xs : List M) → Each P xs → Each P (less_first b xs)
each-less_first P true [] each = tt
each-less_first P true (x ∷ xs) each = each.1
each-less_first P false xs each = each

each-sent : {M : Type 0} (P : ℕ → ℕ → M → Type 0) (s r : ℕ) (sends : List (ℕ × M)) → EachSent P s sends → Each (P s r) (sent_for r sends)
each-sent P s r [] each = tt
each-sent P s r (x ∷ xs) each =
    elim (x.0 == r) as (λ b. (x.0 == r) ≡ b → Each (P s r) ((if b then x.1 ∷ [] else []) ++ sent_for r xs)) [
      | true ↦ λ is. let same : x.0 ≡ r = (Decides-eqb x.0 r).0 is in (subst (λ y. P s y x.1) same each.0, each-sent P s r xs each.1)
      | false ↦ λ _. each-sent P s r xs each.1
    ] refl

each-put : {M : Type 0} (P : ℕ → ℕ → M → Type 0) (n k s r : ℕ) (sends : List (ℕ × M)) → EachSent P k sends → Each (P s r) (put_on_link n k s r sends)
each-put P n k s r sends each =
    elim (s == k) as (λ b. (s == k) ≡ b → Each (P s r) (if b && reaches n k r then sent_for r sends else [])) [
      | true ↦ λ is.
          let same : s ≡ k = (Decides-eqb s k).0 is in
          elim (reaches n k r) as (λ b. Each (P s r) (if b then sent_for r sends else [])) [
            | true ↦ subst (λ y. Each (P y r) (sent_for r sends)) (sym same) (each-sent P k r sends each)
            | false ↦ tt
          ]
      | false ↦ λ _. tt
    ] refl

-- a fact of all messages goes on where each message that is sent has it
pub on_links_after : {A M N : Type 0} (P : ℕ → ℕ → M → Type 0) (step : A → ℕ → M → Stepped A M N) (n : ℕ) (w : Network A M N) (k p : ℕ) (node : A) (m : M)
    (rest : List M)
    → Takes step n w k p node m rest → OnLinks P w → EachSent P k (step node p m).sends → OnLinks P (world_next step w (at k p))
on_links_after P step n w k p node m rest takes all sent s r hs hr =
    let left = taken_outcome step n w k p node m rest takes in
    let count = left.count ∙ sym takes.count in
    let test = (s == p) && (r == k) in
    subst (λ xs. Each (P s r) xs) (sym (left.waits s r))
    (each-append (P s r) (less_first test (queue_at w (at r s))) (put_on_link n k s r (step node p m).sends)
    (each-less_first (P s r) test (queue_at w (at r s)) (all s r (rw count at hs) (rw count at hr)))
    (each-put P n k s r (step node p m).sends sent))

-- what messages weigh together
abbrev pub weigh : {X : Type 0} → (X → ℕ) → List X → ℕ
weigh f [] = 0
weigh f (x ∷ xs) = f x + weigh f xs

-- what stands in the input and on all links
abbrev pub total : {A M N : Type 0} → (M → ℕ) → Network A M N → ℕ
total f w = weigh f w.input + weigh (weigh f) w.links

-- what a node sends, as far as it arrives
abbrev pub sent_weight : {M : Type 0} → (M → ℕ) → ℕ → ℕ → List (ℕ × M) → ℕ
sent_weight f n k [] = 0
sent_weight f n k (x ∷ xs) = (if reaches n k x.0 then f x.1 else 0) + sent_weight f n k xs

pub weigh-append : {M : Type 0} (f : M → ℕ) (xs ys : List M) → weigh f (xs ++ ys) ≡ weigh f xs + weigh f ys
weigh-append f [] ys = omega arith
weigh-append f (x ∷ xs) ys = omega (arith, weigh-append f xs ys)

weigh-set : {M : Type 0} (f : M → ℕ) (ls : List (List M)) (i : ℕ) (v : List M) → i < length ls
    → weigh (weigh f) (set ls i v) + weigh f (get_or ls i []) ≡ weigh (weigh f) ls + weigh f v
weigh-set f [] i v small = absurd (omega arith)
weigh-set f (l ∷ ls) zero v small = omega arith
weigh-set f (l ∷ ls) (suc i) v small = omega (arith, weigh-set f ls i v (omega arith))

weigh-put_on : {M : Type 0} (f : M → ℕ) (n k : ℕ) (x : ℕ × M) (ls : List (List M)) → length ls ≡ n * n → k < n
    → weigh (weigh f) (put_on n k x ls) ≡ weigh (weigh f) ls + (if reaches n k x.0 then f x.1 else 0)
weigh-put_on f n k x ls square hk =
    let old = get_or ls (k * n + x.0) [] in
    elim (reaches n k x.0) as (λ b. reaches n k x.0 ≡ b
    → weigh (weigh f) (if b then set ls (k * n + x.0) (old ++ x.1 ∷ []) else ls) ≡ weigh (weigh f) ls + (if b then f x.1 else 0)) [
      | true ↦ λ is.
          let there = within n k x.0 is in
          let small : k * n + x.0 < length ls = rw square (inside n k x.0 hk there) in
          let changed = weigh-set f ls (k * n + x.0) (old ++ x.1 ∷ []) small in
          let longer = weigh-append f old (x.1 ∷ []) in
          omega (arith, changed, longer)
      | false ↦ λ _. omega arith
    ] refl

weigh-delivered : {M : Type 0} (f : M → ℕ) (n k : ℕ) (sends : List (ℕ × M)) (ls : List (List M)) → length ls ≡ n * n → k < n
    → weigh (weigh f) (links_after n k sends ls) ≡ weigh (weigh f) ls + sent_weight f n k sends
weigh-delivered f n k [] ls square hk = omega arith
weigh-delivered f n k (x ∷ xs) ls square hk =
    let rest = weigh-delivered f n k xs (put_on n k x ls) (length-put_on n k x ls ∙ square) hk in
    let one = weigh-put_on f n k x ls square hk in
    omega (arith, rest, one)

weigh-less_first : {M : Type 0} (f : M → ℕ) (xs : List M) (m : M) (rest : List M) → xs ≡ m ∷ rest → weigh f (drop 1 xs) + f m ≡ weigh f xs
weigh-less_first f xs m rest is = rw is (omega arith)

total-without_first : {A M N : Type 0} (f : M → ℕ) (w : Network A M N) (k p : ℕ) (m : M) (rest : List M) → length w.links ≡ length w.nodes * length w.nodes
    → p < length w.nodes → k < length w.nodes → queue_at w (at k p) ≡ m ∷ rest → total f (without_first w (at k p)) + f m ≡ total f w
total-without_first {A} {M} {N} f w k p m rest square hp hk waits =
    let n = length w.nodes in
    let first : Network A M N = record { nodes = w.nodes; links = w.links; input = drop 1 w.input; log = w.log } in
    let other : Network A M N = record { nodes = w.nodes; links = set w.links (p * n + k) (drop 1 (queue_at w (at k p))); input = w.input; log = w.log } in
    elim ((k == 0) && (p == 0)) as (λ b. (k == 0) && (p == 0) ≡ b → total f (if b then first else other) + f m ≡ total f w) [
      | true ↦ λ on.
          let input : w.input ≡ m ∷ rest = ap (λ b. if b then w.input else on_link w p k) (sym on) ∙ waits in
          let less = weigh-less_first f w.input m rest input in
          omega (arith, less)
      | false ↦ λ off.
          let here : queue_at w (at k p) ≡ get_or w.links (p * n + k) [] = waiting_is w p k hp hk ∙ rw off refl in
          let link : get_or w.links (p * n + k) [] ≡ m ∷ rest = sym here ∙ waits in
          let small : p * n + k < length w.links = rw square (inside n p k hp hk) in
          let changed = weigh-set f w.links (p * n + k) (drop 1 (queue_at w (at k p))) small in
          let less = weigh-less_first f (queue_at w (at k p)) m rest waits in
          let same : weigh f (get_or w.links (p * n + k) []) ≡ weigh f (queue_at w (at k p)) = ap (weigh f) (link ∙ sym waits) in
          omega (arith, changed, less, same)
    ] refl

weigh-one : {X : Type 0} (f : X → ℕ) (xs : List X) (i : ℕ) (v : X) → i < length xs → weigh f (set xs i v) + f (get_or xs i v) ≡ weigh f xs + f v
weigh-one f [] i v small = absurd (omega arith)
weigh-one f (x ∷ xs) zero v small = omega arith
weigh-one f (x ∷ xs) (suc i) v small = omega (arith, weigh-one f xs i v (omega arith))

module _ {A M N : Type 0} (step : A → ℕ → M → Stepped A M N) (n : ℕ) (w : Network A M N) (k p : ℕ) (node : A) (m : M) (rest : List M)
    (takes : Takes step n w k p node m rest) where
  some : 0 < length w.nodes
  some = let count = takes.count in rw count takes.some

  -- a step takes a message away and puts there what it sends
  pub total_after : (f : M → ℕ) → total f (world_next step w (at k p)) + f m ≡ total f w + sent_weight f n k (step node p m).sends
  total_after f =
      let is = taken_is step n w k p node m rest takes in
      let without = without_first w (at k p) in
      let stays = kept step n w k p node m rest some in
      let nodes = stays.nodes in
      let count = takes.count in
      let square : length without.links ≡ length without.nodes * length without.nodes = rw (nodes, stays.links, count) takes.square in
      let small : k < length without.nodes = rw (nodes, count) takes.receiver in
      let sent = weigh-delivered f (length without.nodes) k (step node p m).sends without.links square small in
      let same : sent_weight f (length without.nodes) k (step node p m).sends ≡ sent_weight f n k (step node p m).sends = rw (nodes, count) refl in
      let less = total-without_first f w k p m rest (rw count takes.square) (rw count takes.sender) (rw count takes.receiver) takes.waits in
      rw is (omega (arith, sent, same, less))

  -- the node that took it weighs what it weighs afterwards, and the other nodes what they did
  pub nodes_after : (g : A → ℕ) → weigh g (world_next step w (at k p)).nodes + g node ≡ weigh g w.nodes + g (step node p m).node
  nodes_after g =
      let is = taken_is step n w k p node m rest takes in
      let nodes = (kept step n w k p node m rest some).nodes in
      let count = takes.count in
      let here = takes.node_is (step node p m).node in
      let one = weigh-one g w.nodes k (step node p m).node (rw count takes.receiver) in
      rw (is, nodes) (rw here at one)

  -- the log weighs as much more as what was noted
  pub log_after : (h : N → ℕ) → weigh h (world_next step w (at k p)).log ≡ weigh h w.log + weigh h (step node p m).notes
  log_after h =
      ap (weigh h) (taken_outcome step n w k p node m rest takes).log ∙ weigh-append h w.log (step node p m).notes

-- the same weight of each message makes the same weight of all
pub weigh_same : {X : Type 0} (f g : X → ℕ) (xs : List X) → ((x : X) → f x ≡ g x) → weigh f xs ≡ weigh g xs
weigh_same f g [] same = refl
weigh_same f g (x ∷ xs) same = omega (arith, same x, weigh_same f g xs same)
