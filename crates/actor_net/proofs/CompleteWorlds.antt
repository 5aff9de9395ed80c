-- What a complete world is like: nothing waits anywhere, nothing weighs anything, each node has ended, and no choice is enabled.
use Rattle.std.proofs.Common.{◌≡◌, ℕ, zero, suc, ◌+◌, ◌*◌, ◌<◌, Bool, true, false, Option, None, Some, List, [], ◌∷◌, length, get_or, refl, ap, arith}
use Rattle.std.specs.Prelude.{if◌then◌else◌, ◌==◌, ◌&&◌, nat_lt, slice_get}
use Rattle.std.specs.List.{list_all}
use Rattle.std.proofs.lemmas.Bool.Decides.{Decides-eqb}
use Rattle.std.proofs.lemmas.List.{nil_from_length}
use Rattle.std.proofs.lemmas.Bool.{and_parts}
use Rattle.actor_net.specs.declared.choice.Choice.{Choice}
use Rattle.actor_net.specs.Network.{Network, is_input, on_link, queue_at, takes_first, is_enabled, is_done}
use Rattle.actor_net.proofs.WeightLaws.{weigh, total}

empty_one : {M : Type 0} (l : List M) → (length l == 0) ≡ true → l ≡ []
empty_one l is = nil_from_length l ((Decides-eqb (length l) 0).0 is)

empty_there : {M : Type 0} (ls : List (List M)) (i : ℕ) → list_all (λ l. length l == 0) ls ≡ true → get_or ls i [] ≡ []
empty_there [] i all = refl
empty_there (l ∷ ls) zero all = empty_one l (and_parts (length l == 0) (list_all (λ l. length l == 0) ls) all).0
empty_there (l ∷ ls) (suc i) all = empty_there ls i (and_parts (length l == 0) (list_all (λ l. length l == 0) ls) all).1

empty_weight : {M : Type 0} (f : M → ℕ) (ls : List (List M)) → list_all (λ l. length l == 0) ls ≡ true → weigh (weigh f) ls ≡ 0
empty_weight f [] all = refl
empty_weight f (l ∷ ls) all =
    let first = empty_one l (and_parts (length l == 0) (list_all (λ l. length l == 0) ls) all).0 in
    omega (arith, ap (weigh f) first, empty_weight f ls (and_parts (length l == 0) (list_all (λ l. length l == 0) ls) all).1)

all_there : {A : Type 0} (test : A → Bool) (xs : List A) (i : ℕ) (d : A) → i < length xs → list_all test xs ≡ true → test (get_or xs i d) ≡ true
all_there test [] i d small all = absurd (omega arith)
all_there test (x ∷ xs) zero d small all = (and_parts (test x) (list_all test xs) all).0
all_there test (x ∷ xs) (suc i) d small all = all_there test xs i d (omega arith) (and_parts (test x) (list_all test xs) all).1

pub takes_nothing : {A M : Type 0} (ready : A → M → Bool) (c : Choice) (o : Option A) (ms : List M) → ms ≡ [] → takes_first ready c o ms ≡ false
takes_nothing ready c None [] is = refl
takes_nothing ready c (Some a) [] is = refl
takes_nothing ready c o (m ∷ ms) is = cc

-- what is told of a complete world, apart
record Ended {A M N : Type 0} (ended : A → Bool) (w : Network A M N) : Type 0 where
  input : w.input ≡ []
  links : list_all (λ l. length l == 0) w.links ≡ true
  nodes : list_all ended w.nodes ≡ true

apart : {A M N : Type 0} (ended : A → Bool) (w : Network A M N) → is_done ended w ≡ true → Ended ended w
apart ended w done =
    let quiet = (and_parts ((length w.input == 0) && list_all (λ l. length l == 0) w.links) (list_all ended w.nodes) done).0 in
    record {
      input = empty_one w.input (and_parts (length w.input == 0) (list_all (λ l. length l == 0) w.links) quiet).0;
      links = (and_parts (length w.input == 0) (list_all (λ l. length l == 0) w.links) quiet).1;
      nodes = (and_parts ((length w.input == 0) && list_all (λ l. length l == 0) w.links) (list_all ended w.nodes) done).1;
    }

module _ {A M N : Type 0} (ended : A → Bool) (w : Network A M N) (done : is_done ended w ≡ true) where
  pub done_waiting : (c : Choice) → queue_at w c ≡ []
  done_waiting c =
      let parts = apart ended w done in
      let link = empty_there w.links (c.port * length w.nodes + c.node) parts.links in
      elim (is_input c) as (λ b. (if b then w.input else on_link w c.port c.node) ≡ []) [
        | true ↦ parts.input
        | false ↦ elim (nat_lt c.port (length w.nodes) && nat_lt c.node (length w.nodes))
            as (λ b. (if b then get_or w.links (c.port * length w.nodes + c.node) [] else []) ≡ []) [ true ↦ link | false ↦ refl ]
      ]

  pub done_disabled : (ready : A → M → Bool) (c : Choice) → is_enabled ready w c ≡ false
  done_disabled ready c = takes_nothing ready c (slice_get w.nodes c.node) (queue_at w c) (done_waiting c)

  pub done_weight : (f : M → ℕ) → total f w ≡ 0
  done_weight f =
      let parts = apart ended w done in
      let input = parts.input in
      omega (arith, ap (weigh f) input, empty_weight f w.links parts.links)

  pub done_node : (i : ℕ) (d : A) → i < length w.nodes → ended (get_or w.nodes i d) ≡ true
  done_node i d small = all_there ended w.nodes i d small (apart ended w done).nodes
