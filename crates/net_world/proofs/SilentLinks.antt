-- Where nothing waits between any two nodes, all links are empty, and what they hold weighs nothing; and where no choice is enabled, the input is empty if
-- node 0 takes each message. Generic in the actor.
use Rattle.std.proofs.Common.{◌≡◌, ℕ, suc, ◌+◌, ◌*◌, ◌/◌, ◌%◌, ◌<◌, Bool, true, false, List, [], ◌∷◌, length, get_or, refl, sym, ap, ◌∙◌, subst, arith}
use Rattle.std.proofs.Common.{Some, inl, inr}
use Rattle.std.specs.Prelude.{if◌then◌else◌, ◌==◌, ◌&&◌}
use Rattle.std.specs.List.{list_all}
use Rattle.std.proofs.lemmas.Bool.Decides.{nat_tests}
use Rattle.std.proofs.lemmas.Nat.{div-add-mod'}
use Rattle.std.proofs.Math.Nat.{mod-lt, div-lt_iff_lt-mul}
use Rattle.std.proofs.lemmas.Option.{slice_get-get_or}
use Rattle.actor_net.specs.Network.{Network, IsWorld, queue_at, is_done}
use Rattle.actor_net.specs.Schedules.{enabled_choices}
use Rattle.actor_net.proofs.DisabledChoices.{stuck_input}
use Rattle.actor_net.proofs.EnabledChoices.{at}
use Rattle.actor_net.proofs.WaitingMessages.{waiting_is}
use Rattle.actor_net.proofs.WeightLaws.{weigh, total}

all_empty : {M : Type 0} (ls : List (List M)) → ((q : ℕ) → q < length ls → get_or ls q [] ≡ []) → list_all (λ l. length l == 0) ls ≡ true
all_empty [] h = refl
all_empty (l ∷ ls) h = let first = h 0 (omega arith) in let rest = all_empty ls (λ q less. h (suc q) (omega (arith, less))) in rw (first, rest) refl

none_weighs : {M : Type 0} (f : M → ℕ) (ls : List (List M)) → ((q : ℕ) → q < length ls → get_or ls q [] ≡ []) → weigh (weigh f) ls ≡ 0
none_weighs f [] h = refl
none_weighs f (l ∷ ls) h = let first = ap (weigh f) (h 0 (omega arith)) in let rest = none_weighs f ls (λ q less. h (suc q) (omega (arith, less))) in
    omega (arith, first, rest)

pub all_of : {X : Type 0} (test : X → Bool) (xs : List X) (d : X) → ((i : ℕ) → i < length xs → test (get_or xs i d) ≡ true) → list_all test xs ≡ true
all_of test [] d h = refl
all_of test (x ∷ xs) d h = let first = h 0 (omega arith) in let rest = all_of test xs d (λ i less. h (suc i) (omega (arith, less))) in rw (first, rest) refl

module _ {A M N : Type 0} (w : Network A M N) (world : IsWorld w) (silent : (s r : ℕ) → (r == 0) && (s == 0) ≡ false → queue_at w (at r s) ≡ []) where
  abbrev n : ℕ
  n = length w.nodes

  empty_at : (q : ℕ) → q < length w.links → get_or w.links q [] ≡ []
  empty_at q less =
      let some = world.some_node in
      let s : ℕ = q / n in
      let r : ℕ = q % n in
      let place : s * n + r ≡ q = div-add-mod' q n in
      let hr : r < n = mod-lt q some in
      let small : q < n * n = subst (λ y. q < y) world.square less in
      let hs : s < n = (div-lt_iff_lt-mul some).1 small in
      elim ((r == 0) && (s == 0)) as (λ b. (r == 0) && (s == 0) ≡ b → get_or w.links q [] ≡ []) [
        | true ↦ λ on.
            let s_zero : s ≡ 0 = grind (arith, nat_tests, on) in
            let r_zero : r ≡ 0 = grind (arith, nat_tests, on) in
            let zero_so : s * n + r ≡ 0 = ap (λ x. x * n + r) s_zero ∙ omega (arith, r_zero) in
            subst (λ y. get_or w.links y [] ≡ []) (sym zero_so ∙ place) world.no_loop
        | false ↦ λ off. ap (λ y. get_or w.links y []) (sym place) ∙ sym (ap (λ b. if b then w.input else get_or w.links (s * n + r) []) off)
            ∙ sym (waiting_is w s r hs hr) ∙ silent s r off
      ] refl

  pub links_empty : list_all (λ l. length l == 0) w.links ≡ true
  links_empty = all_empty w.links empty_at

  -- the input alone weighs
  pub silent_total : (f : M → ℕ) → total f w ≡ weigh f w.input
  silent_total f = let none = none_weighs f w.links empty_at in omega (arith, none)

  pub all_done : (ended : A → Bool) → w.input ≡ [] → list_all ended w.nodes ≡ true → is_done ended w ≡ true
  all_done ended input nodes = let links = links_empty in rw (input, links, nodes) refl

pub empty_input : {A M N : Type 0} (ready : A → M → Bool) (w : Network A M N) → IsWorld w → enabled_choices ready w ≡ [] → (node : A)
    → get_or w.nodes 0 node ≡ node → ((m : M) → ready node m ≡ true) → w.input ≡ []
empty_input ready w world none node here takes = elim (stuck_input ready w world none) as (λ _. w.input ≡ []) [
  | inl empty ↦ empty
  | inr unready ↦
      let there : Some node ≡ Some unready.node = sym (slice_get-get_or w.nodes 0 node world.some_node ∙ ap Some here) ∙ unready.node_is in
      let same : node ≡ unready.node = cc in
      let both : true ≡ false = sym (takes unready.message) ∙ subst (λ x. ready x unready.message ≡ false) (sym same) unready.refused in
      cc
]
