-- What waits at each choice after a step: what waited before, without the message that was taken, and then what was sent.
use Rattle.std.proofs.Common.{◌≡◌, ℕ, ◌+◌, ◌*◌, ◌<◌, Bool, true, false, List, [], ◌++◌, length, get_or, set, drop, refl, sym, ◌∙◌, append-nil, arith}
use Rattle.std.specs.Prelude.{if◌then◌else◌, ◌==◌, ◌&&◌, nat_lt}
use Rattle.std.proofs.lemmas.Bool.Decides.{nat_tests, Decides-ltb}
use Rattle.std.proofs.lemmas.List.{get_or-set_same, get_or-set_other, length-set}
use Rattle.std.proofs.Math.Bool.{and_comm}
use Rattle.actor_net.specs.Network.{Network, Stepped, queue_at, without_first, after, links_after, reaches}
use Rattle.actor_net.proofs.EnabledChoices.{at}
use Rattle.actor_net.proofs.LinkLemmas.{put_on_link, link_after_sends, inside, other_place}

-- a list, or what is left of it without its first
abbrev pub less_first : {X : Type 0} → Bool → List X → List X
less_first b xs = if b then drop 1 xs else xs

-- two choices are one, or their tests say so
apart : (s r p k : ℕ) → (s == p) && (r == k) ≡ false → s ≡ p → r ≡ k → ⊥
apart s r p k off here this = grind (arith, nat_tests)

alike : (s r p k : ℕ) → (s == p) && (r == k) ≡ true → (s ≡ p) × (r ≡ k)
alike s r p k on = (grind (arith, nat_tests), grind (arith, nat_tests))

link_without : {M : Type 0} (n : ℕ) (ls : List (List M)) (p k s r : ℕ) → length ls ≡ n * n → p < n → k < n → s < n → r < n
    → get_or (set ls (p * n + k) (drop 1 (get_or ls (p * n + k) []))) (s * n + r) [] ≡ less_first ((s == p) && (r == k)) (get_or ls (s * n + r) [])
link_without n ls p k s r square hp hk hs hr =
    let new = drop 1 (get_or ls (p * n + k) []) in
    elim ((s == p) && (r == k)) as (λ b. (s == p) && (r == k) ≡ b → get_or (set ls (p * n + k) new) (s * n + r) [] ≡ less_first b (get_or ls (s * n + r) [])) [
      | true ↦ λ on.
          let same = alike s r p k on in
          let place : s * n + r ≡ p * n + k = rw (same.0, same.1) refl in
          let small : p * n + k < length ls = rw square (inside n p k hp hk) in
          rw place (get_or-set_same ls (p * n + k) new [] small)
      | false ↦ λ off. get_or-set_other ls (p * n + k) (s * n + r) new [] (other_place n p k s r hk hr (λ here this. apart s r p k off here (sym this)))
    ] refl

-- node 0 puts nothing on the input
put_on_input : {M : Type 0} (n k s r : ℕ) (sends : List (ℕ × M)) → (r == 0) && (s == 0) ≡ true → put_on_link n k s r sends ≡ []
put_on_input n k s r sends on =
    let off : (s == k) && reaches n k r ≡ false = grind (arith, nat_tests) in
    rw off refl

module _ {A M N : Type 0} where
  -- what waits at a choice of two nodes that are there
  pub waiting_is : (w : Network A M N) (s r : ℕ) → s < length w.nodes → r < length w.nodes
      → queue_at w (at r s) ≡ (if (r == 0) && (s == 0) then w.input else get_or w.links (s * length w.nodes + r) [])
  waiting_is w s r hs hr =
      let s_there = (Decides-ltb s (length w.nodes)).1 hs in
      let r_there = (Decides-ltb r (length w.nodes)).1 hr in
      rw (s_there, r_there) refl

  -- nothing waits at a choice of a node that isn't there
  pub waiting_outside : (w : Network A M N) (s r : ℕ) → 0 < length w.nodes → nat_lt s (length w.nodes) && nat_lt r (length w.nodes) ≡ false
      → queue_at w (at r s) ≡ []
  waiting_outside w s r some off =
      let link : (r == 0) && (s == 0) ≡ false = grind (arith, nat_tests) in
      rw (link, off) refl

  -- without its first message, a choice has what stands after it; the others have what they had
  pub waiting-without_first : (w : Network A M N) (p k s r : ℕ) → length w.links ≡ length w.nodes * length w.nodes → p < length w.nodes → k < length w.nodes
      → s < length w.nodes → r < length w.nodes → queue_at (without_first w (at k p)) (at r s) ≡ less_first ((s == p) && (r == k)) (queue_at w (at r s))
  waiting-without_first w p k s r square hp hk hs hr =
      let n = length w.nodes in
      rw (waiting_is w s r hs hr) (elim ((k == 0) && (p == 0))
      as (λ b. (k == 0) && (p == 0) ≡ b → queue_at (if b then record { nodes = w.nodes; links = w.links; input = drop 1 w.input; log = w.log }
      else record { nodes = w.nodes; links = set w.links (p * n + k) (drop 1 (queue_at w (at k p))); input = w.input; log = w.log }) (at r s)
      ≡ less_first ((s == p) && (r == k)) (if (r == 0) && (s == 0) then w.input else get_or w.links (s * n + r) [])) [
        | true ↦ λ on.
            let first : Network A M N = record { nodes = w.nodes; links = w.links; input = drop 1 w.input; log = w.log } in
            let zeros = alike k p 0 0 on in
            let test : (s == p) && (r == k) ≡ (r == 0) && (s == 0) = rw (zeros.0, zeros.1) (and_comm (s == 0) (r == 0)) in
            rw (waiting_is first s r hs hr, test) (elim ((r == 0) && (s == 0)) as (λ b. (if b then drop 1 w.input else get_or w.links (s * n + r) [])
            ≡ less_first b (if b then w.input else get_or w.links (s * n + r) [])) [ true ↦ refl | false ↦ refl ])
        | false ↦ λ off.
            let here : queue_at w (at k p) ≡ get_or w.links (p * n + k) [] = waiting_is w p k hp hk ∙ rw off refl in
            let rest : Network A M N =
            record { nodes = w.nodes; links = set w.links (p * n + k) (drop 1 (get_or w.links (p * n + k) [])); input = w.input; log = w.log } in
            rw (here, waiting_is rest s r hs hr) (elim ((r == 0) && (s == 0)) as (λ b. (r == 0) && (s == 0) ≡ b
            → (if b then w.input else get_or (set w.links (p * n + k) (drop 1 (get_or w.links (p * n + k) []))) (s * n + r) [])
            ≡ less_first ((s == p) && (r == k)) (if b then w.input else get_or w.links (s * n + r) [])) [
              | true ↦ λ zero.
                  let other : (s == p) && (r == k) ≡ false = grind (arith, nat_tests) in
                  rw other refl
              | false ↦ λ _. link_without n w.links p k s r square hp hk hs hr
            ] refl)
      ] refl)

  -- after a step at node k, what it sent stands after what waited
  pub waiting-after : (w : Network A M N) (k s r : ℕ) (did : Stepped A M N) → length w.links ≡ length w.nodes * length w.nodes → k < length w.nodes
      → s < length w.nodes → r < length w.nodes → queue_at (after w k did) (at r s) ≡ queue_at w (at r s) ++ put_on_link (length w.nodes) k s r did.sends
  waiting-after w k s r did square hk hs hr =
      let n = length w.nodes in
      let count : length (set w.nodes k did.node) ≡ n = length-set w.nodes k did.node in
      rw (waiting_is (after w k did) s r (rw count hs) (rw count hr), waiting_is w s r hs hr, count)
      (elim ((r == 0) && (s == 0)) as (λ b. (r == 0) && (s == 0) ≡ b → (if b then w.input else get_or (links_after n k did.sends w.links) (s * n + r) [])
      ≡ (if b then w.input else get_or w.links (s * n + r) []) ++ put_on_link n k s r did.sends) [
        | true ↦ λ zero. rw (put_on_input n k s r did.sends zero, append-nil w.input) refl
        | false ↦ λ _. link_after_sends n k did.sends w.links s r square hk hr
      ] refl)
