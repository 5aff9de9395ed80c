-- What a world at its start is like: it is a world, the input alone waits, and it weighs what the input weighs.
use Rattle.std.proofs.Common.{◌≡◌, ℕ, zero, suc, ◌+◌, ◌*◌, ◌<◌, true, false, List, [], length, get_or, replicate, refl, sym, subst, ◌∙◌, arith}
use Rattle.std.specs.Prelude.{◌==◌, ◌&&◌, if◌then◌else◌, nat_lt}
use Rattle.std.proofs.lemmas.Bool.Decides.{nat_tests}
use Rattle.std.proofs.lemmas.List.{length-replicate}
use Rattle.actor_net.specs.Network.{Network, IsWorld, queue_at}
use Rattle.actor_net.specs.Opening.{opening}
use Rattle.actor_net.proofs.EnabledChoices.{at}
use Rattle.actor_net.proofs.LinkLemmas.{empty_link}
use Rattle.actor_net.proofs.StepOutcome.{both_below}
use Rattle.actor_net.proofs.WaitingMessages.{waiting_is, waiting_outside}
use Rattle.actor_net.proofs.WeightLaws.{Each, OnLinks, weigh, total}

empty_links_weigh : (M : Type 0) (f : M → ℕ) (n : ℕ) → weigh (weigh f) (replicate n (let none : List M = [] in none)) ≡ 0
empty_links_weigh M f zero = refl
empty_links_weigh M f (suc n) = omega (arith, empty_links_weigh M f n)

-- a world at its start is one
pub opening_world : {A M N : Type 0} (nodes : List A) (items : List M) → 0 < length nodes → length nodes < 256 → IsWorld (opening {N = N} nodes items)
opening_world {A} {M} nodes items some few = record {
  some_node = some;
  few_nodes = few;
  square = length-replicate (length nodes * length nodes) [];
  no_loop = empty_link M (length nodes * length nodes) 0;
}

module _ {A M : Type 0} (N : Type 0) (nodes : List A) (items : List M) where
  abbrev w : Network A M N
  w = opening nodes items

  -- the input waits, and nothing else
  pub opening_waiting : 0 < length nodes → (s r : ℕ) → queue_at w (at r s) ≡ (if (r == 0) && (s == 0) then items else [])
  opening_waiting some s r =
      elim (nat_lt s (length nodes) && nat_lt r (length nodes))
      as (λ b. nat_lt s (length nodes) && nat_lt r (length nodes) ≡ b → queue_at w (at r s) ≡ (if (r == 0) && (s == 0) then items else [])) [
        | true ↦ λ on.
            let there = both_below s r (length nodes) on in
            waiting_is w s r there.0 there.1 ∙ elim ((r == 0) && (s == 0)) as (λ b. (if b then items else get_or w.links (s * length nodes + r) [])
            ≡ (if b then items else [])) [ true ↦ refl | false ↦ empty_link M (length nodes * length nodes) (s * length nodes + r) ]
        | false ↦ λ off.
            let link : (r == 0) && (s == 0) ≡ false = grind (arith, nat_tests) in
            waiting_outside w s r some off ∙ rw link refl
      ] refl

  -- a fact of each item of the input is one of each message that stands anywhere
  pub opening_on_links : (P : ℕ → ℕ → M → Type 0) → 0 < length nodes → Each (P 0 0) items → OnLinks P w
  opening_on_links P some each s r hs hr =
      subst (λ ms. Each (P s r) ms) (sym (opening_waiting some s r))
      (elim ((r == 0) && (s == 0)) as (λ b. (r == 0) && (s == 0) ≡ b → Each (P s r) (if b then items else [])) [
        | true ↦ λ on.
            let s_zero : s ≡ 0 = grind (arith, nat_tests) in
            let r_zero : r ≡ 0 = grind (arith, nat_tests) in
            rw (s_zero, r_zero) each
        | false ↦ λ _. tt
      ] refl)

  -- it weighs what the input weighs
  pub opening_weight : (f : M → ℕ) → total f w ≡ weigh f items
  opening_weight f = omega (arith, empty_links_weigh M f (length nodes * length nodes))
