-- What a choice that can be taken leaves of a world of n nodes: the nodes, what waits between each two of them, and the log.
use Rattle.std.proofs.Common.{◌≡◌, ◌≢◌, ℕ, ◌+◌, ◌*◌, ◌<◌, Bool, true, false, Some, List, [], ◌∷◌, ◌++◌, length, get_or, set, drop, refl, sym, ap, ◌∙◌, arith}
use Rattle.std.specs.Prelude.{if◌then◌else◌, ◌==◌, ◌&&◌, nat_lt, slice_get}
use Rattle.std.proofs.lemmas.Bool.Decides.{nat_tests}
use Rattle.std.proofs.lemmas.List.{get_or-set_same, get_or-set_other, length-set}
use Rattle.std.proofs.lemmas.Option.{slice_get-get_or}
use Rattle.actor_net.specs.Network.{Network, Stepped, queue_at, without_first, after, world_after_step, world_next, reaches}
use Rattle.actor_net.proofs.EnabledChoices.{at}
use Rattle.actor_net.proofs.LinkLemmas.{put_on_link, length-delivered, loop_after_sends}
use Rattle.actor_net.proofs.WorldStepLemmas.{loop_stays}
use Rattle.actor_net.proofs.WaitingMessages.{less_first, waiting_outside, waiting-without_first, waiting-after}

-- nothing is put on a link that isn't there
put_outside : {M : Type 0} (n k s r : ℕ) (sends : List (ℕ × M)) → k < n → nat_lt s n && nat_lt r n ≡ false → put_on_link n k s r sends ≡ []
put_outside n k s r sends hk off =
    let none : (s == k) && reaches n k r ≡ false = grind (arith, nat_tests) in
    rw none refl

less_first-nil : {X : Type 0} (b : Bool) → ◌≡◌ {A = List X} (less_first b []) []
less_first-nil true = refl
less_first-nil false = refl

pub both_below : (s r n : ℕ) → nat_lt s n && nat_lt r n ≡ true → (s < n) × (r < n)
both_below s r n on = (grind (arith, nat_tests), grind (arith, nat_tests))

module _ {A M N : Type 0} (step : A → ℕ → M → Stepped A M N) (n : ℕ) (w : Network A M N) (k p : ℕ) (node : A) (m : M) (rest : List M) where
  -- what a choice takes, as one step of its node
  pub record Takes : Type 0 where
    pub count : length w.nodes ≡ n
    pub some : 0 < n
    pub square : length w.links ≡ n * n
    pub receiver : k < n
    pub sender : p < n
    pub node_is : (d : A) → get_or w.nodes k d ≡ node
    pub waits : queue_at w (at k p) ≡ m ∷ rest

  abbrev pub did : Stepped A M N
  did = step node p m

  pub taken_is : Takes → world_next step w (at k p) ≡ after (without_first w (at k p)) k did
  taken_is h =
      let count = h.count in
      let there : slice_get w.nodes k ≡ Some node = slice_get-get_or w.nodes k node (rw count h.receiver) ∙ ap Some (h.node_is node) in
      ap (λ o. world_after_step step w (at k p) o (queue_at w (at k p))) there ∙ ap (λ ms. world_after_step step w (at k p) (Some node) ms) h.waits

  from_input : Network A M N
  from_input = record { nodes = w.nodes; links = w.links; input = drop 1 w.input; log = w.log }

  from_link : Network A M N
  from_link = record { nodes = w.nodes; links = set w.links (p * length w.nodes + k) (drop 1 (queue_at w (at k p))); input = w.input; log = w.log }

  -- the nodes, the log and the number of links stay when a message leaves, and so does the link of node 0 to itself
  pub record Kept (v : Network A M N) : Type 0 where
    pub nodes : v.nodes ≡ w.nodes
    pub log : v.log ≡ w.log
    pub links : length v.links ≡ length w.links
    pub loop : get_or v.links 0 [] ≡ get_or w.links 0 []

  pub kept : 0 < length w.nodes → Kept (without_first w (at k p))
  unfolding from_input from_link
  kept some =
      elim ((k == 0) && (p == 0)) as (λ b. (k == 0) && (p == 0) ≡ b → Kept (if b then from_input else from_link)) [
        | true ↦ λ _. record { nodes = refl; log = refl; links = refl; loop = refl }
        | false ↦ λ off. record {
          nodes = refl;
          log = refl;
          links = length-set w.links (p * length w.nodes + k) (drop 1 (queue_at w (at k p)));
          loop = loop_stays (length w.nodes) p k w.links (drop 1 (queue_at w (at k p))) some off;
        }
      ] refl

  -- what the choice leaves: what waits between any two nodes is what waited there, without its first where it was taken, and
  -- then what was sent
  pub record Outcome (v : Network A M N) : Type 0 where
    pub count : length v.nodes ≡ n
    pub own : (d : A) → get_or v.nodes k d ≡ did.node
    pub others : (j : ℕ) (d : A) → j ≢ k → get_or v.nodes j d ≡ get_or w.nodes j d
    pub waits : (s r : ℕ) → queue_at v (at r s) ≡ less_first ((s == p) && (r == k)) (queue_at w (at r s)) ++ put_on_link n k s r did.sends
    pub log : v.log ≡ w.log ++ did.notes
    pub links : length v.links ≡ n * n
    pub loop : get_or v.links 0 [] ≡ get_or w.links 0 []

  pub taken_outcome : Takes → Outcome (world_next step w (at k p))
  taken_outcome h =
      let is = taken_is h in
      let count = h.count in
      let some : 0 < length w.nodes = rw count h.some in
      let stays = kept some in
      let without = without_first w (at k p) in
      let nodes = stays.nodes in
      let small : k < length without.nodes = rw (nodes, count) h.receiver in
      let square : length without.links ≡ length without.nodes * length without.nodes = rw (nodes, stays.links, count) h.square in
      let count' : length (set without.nodes k did.node) ≡ n = length-set without.nodes k did.node ∙ ap length nodes ∙ count in
      rw is (record {
        count = count';
        own = λ d. get_or-set_same without.nodes k did.node d small;
        others = λ j d other. get_or-set_other without.nodes k j did.node d other ∙ ap (λ xs. get_or xs j d) nodes;
        waits = λ s r.
            elim (nat_lt s n && nat_lt r n) as (λ b. nat_lt s n && nat_lt r n ≡ b
            → queue_at (after without k did) (at r s) ≡ less_first ((s == p) && (r == k)) (queue_at w (at r s)) ++ put_on_link n k s r did.sends) [
              | true ↦ λ on.
                  let there = both_below s r n on in
                  waiting-after without k s r did square small (rw (nodes, count) there.0) (rw (nodes, count) there.1)
                  ∙ ap (λ xs. xs ++ put_on_link (length without.nodes) k s r did.sends)
                  (waiting-without_first w p k s r (rw count h.square) (rw count h.sender) (rw count h.receiver) (rw count there.0) (rw count there.1))
                  ∙ ap (λ i. less_first ((s == p) && (r == k)) (queue_at w (at r s)) ++ put_on_link i k s r did.sends) (ap length nodes ∙ count)
              | false ↦ λ off.
                  let none : queue_at w (at r s) ≡ [] = waiting_outside w s r some (rw count off) in
                  let put = put_outside n k s r did.sends h.receiver off in
                  waiting_outside (after without k did) s r (rw count' h.some) (rw count' off)
                  ∙ sym (ap (λ xs. less_first ((s == p) && (r == k)) (queue_at w (at r s)) ++ xs) put
                  ∙ ap (λ xs. less_first ((s == p) && (r == k)) xs ++ []) none ∙ ap (λ xs. xs ++ []) (less_first-nil ((s == p) && (r == k))))
            ] refl;
        log = ap (λ xs. xs ++ did.notes) stays.log;
        links = length-delivered (length without.nodes) k did.sends without.links ∙ stays.links ∙ h.square;
        loop = loop_after_sends (length without.nodes) k did.sends without.links (rw nodes some) ∙ stays.loop;
      })
