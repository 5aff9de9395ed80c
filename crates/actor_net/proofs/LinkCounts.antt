-- How many links hold something: after one of them changes, and against the enabled choices.
use Rattle.std.proofs.Common.{◌≡◌, ◌≢◌, ℕ, zero, suc, ◌+◌, ◌*◌, ◌^◌, ◌<◌, ◌≤◌, Bool, true, false, None, Some, List, [], ◌∷◌}
use Rattle.std.proofs.Common.{◌++◌, length, length-append, get_or, set, replicate, refl, sym, ap, subst, ◌∙◌, arith, inl, inr}
use Rattle.std.specs.Prelude.{◌==◌, ◌&&◌, slice_get}
use Rattle.std.proofs.lemmas.Bool.{cases_lt, cases_eq}
use Rattle.std.proofs.lemmas.Bool.Decides.{nat_tests}
use Rattle.std.proofs.lemmas.List.{get_or-set_same, get_or-set_other, get_or-replicate, get_or_default, set-get_or, length-set, length-replicate}
use Rattle.std.proofs.lemmas.Option.{slice_get-get_or}
use Rattle.actor_net.specs.declared.choice.Choice.{Choice}
use Rattle.actor_net.specs.LinkTable.{LinkLists, IsWithin, link_of, with_link, one_if_held, held_below, all_held, AreCounts}
use Rattle.actor_net.specs.Network.{Network, IsWorld, is_input, queue_at, takes_first, is_enabled}
use Rattle.actor_net.specs.Schedules.{ports_below, nodes_below, enabled_choices}
use Rattle.actor_net.proofs.EnabledChoices.{at, one_if, ports_counted}
use Rattle.actor_net.proofs.LinkLemmas.{inside, other_place, empty_link}
use Rattle.actor_net.proofs.WaitingMessages.{waiting_is}

module _ {M : Type 0} where
  pub one-empty : (l : List M) → (length l == 0) ≡ true → one_if_held l ≡ 0
  one-empty [] is = refl
  one-empty (m ∷ l) is = let never : ⊥ = grind (arith, nat_tests) in absurd never

  pub one-held : (l : List M) → (length l == 0) ≡ false → one_if_held l ≡ 1
  one-held [] is = cc
  one-held (m ∷ l) is = refl

  pub one-push : (l : List M) (m : M) → one_if_held (l ++ m ∷ []) ≡ 1
  one-push [] m = refl
  one-push (x ∷ l) m = refl

  one_most : (l : List M) → one_if_held l ≤ 1
  one_most [] = omega arith
  one_most (m ∷ l) = omega arith

  -- as many as there are nodes, at most
  pub held_most : (t : LinkLists M) (k p : ℕ) → held_below t k p ≤ p
  held_most t k zero = omega arith
  held_most t k (suc p) = omega (arith, held_most t k p, one_most (get_or t.lists (p * t.nodes + k) []))

  pub all_most : (t : LinkLists M) (m : ℕ) → all_held t m ≤ m * t.nodes
  all_most t zero = omega arith
  all_most t (suc m) =
      let step : suc m * t.nodes ≡ m * t.nodes + t.nodes = grind arith in
      omega (arith, all_most t m, held_most t m t.nodes)

  -- one link among those that are counted
  pub held_with : (t : LinkLists M) (k p s : ℕ) → s < p → one_if_held (get_or t.lists (s * t.nodes + k) []) ≤ held_below t k p
  held_with t k zero s less = absurd (omega arith)
  held_with t k (suc p) s less =
      elim (cases_lt s p) [
        | inl under ↦ omega (arith, held_with t k p s under)
        | inr over ↦
            let same : s ≡ p = omega arith in
            subst (λ i. one_if_held (get_or t.lists (i * t.nodes + k) []) ≤ held_below t k (suc p)) (sym same) (omega arith)
      ]

  pub all_with : (t : LinkLists M) (m k : ℕ) → k < m → held_below t k t.nodes ≤ all_held t m
  all_with t zero k less = absurd (omega arith)
  all_with t (suc m) k less =
      elim (cases_lt k m) [
        | inl under ↦ omega (arith, all_with t m k under)
        | inr over ↦
            let same : k ≡ m = omega arith in
            subst (λ i. held_below t i t.nodes ≤ all_held t (suc m)) (sym same) (omega arith)
      ]

  -- with one that holds nothing there are fewer
  pub held_room : (t : LinkLists M) (k p s : ℕ) → s < p → one_if_held (get_or t.lists (s * t.nodes + k) []) ≡ 0 → held_below t k p < p
  held_room t k zero s less none = absurd (omega arith)
  held_room t k (suc p) s less none =
      elim (cases_lt s p) [
        | inl under ↦ omega (arith, held_room t k p s under none, one_most (get_or t.lists (p * t.nodes + k) []))
        | inr over ↦
            let same : s ≡ p = omega arith in
            let here : one_if_held (get_or t.lists (p * t.nodes + k) []) ≡ 0 = subst (λ i. one_if_held (get_or t.lists (i * t.nodes + k) []) ≡ 0) same none in
            omega (arith, held_most t k p, here)
      ]

  module _ (t : LinkLists M) (c : Choice) (new : List M) (square : length t.lists ≡ t.nodes * t.nodes) (within : IsWithin t.nodes c) where
    abbrev after : LinkLists M
    after = with_link t c new

    at_own : get_or after.lists (c.port * t.nodes + c.node) [] ≡ new
    at_own = get_or-set_same t.lists (c.port * t.nodes + c.node) new [] (rw square (inside t.nodes c.port c.node within.sender within.receiver))

    at_other : (s k : ℕ) → k < t.nodes → (s ≡ c.port → c.node ≡ k → ⊥) → get_or after.lists (s * t.nodes + k) [] ≡ get_or t.lists (s * t.nodes + k) []
    at_other s k small other =
        get_or-set_other t.lists (c.port * t.nodes + c.node) (s * t.nodes + k) new [] (other_place t.nodes c.port c.node s k within.receiver small other)

    -- at another node as many as before
    held_other : (k p : ℕ) → k < t.nodes → c.node ≢ k → held_below after k p ≡ held_below t k p
    held_other k zero small other = refl
    held_other k (suc p) small other =
        ap (λ n. n + one_if_held (get_or after.lists (p * t.nodes + k) [])) (held_other k p small other)
        ∙ ap (λ l. held_below t k p + one_if_held l) (at_other p k small (λ _ same. other same))

    held_before : (p : ℕ) → p ≤ c.port → held_below after c.node p ≡ held_below t c.node p
    held_before zero less = refl
    held_before (suc p) less =
        ap (λ n. n + one_if_held (get_or after.lists (p * t.nodes + c.node) [])) (held_before p (omega arith))
        ∙ ap (λ l. held_below t c.node p + one_if_held l) (at_other p c.node within.receiver (λ same _. omega arith))

    held_own : (p : ℕ) → c.port < p → held_below after c.node p + one_if_held (link_of t c) ≡ held_below t c.node p + one_if_held new
    held_own zero less = absurd (omega arith)
    held_own (suc p) less =
        elim (cases_lt c.port p) [
          | inl under ↦
              let rest = ap one_if_held (at_other p c.node within.receiver (λ same _. omega arith)) in
              omega (arith, held_own p under, rest)
          | inr over ↦
              let same : c.port ≡ p = omega arith in
              let rest = held_before p (omega arith) in
              let here : one_if_held (get_or after.lists (p * t.nodes + c.node) []) ≡ one_if_held new =
              subst (λ i. one_if_held (get_or after.lists (i * t.nodes + c.node) []) ≡ one_if_held new) same (ap one_if_held at_own) in
              let was : one_if_held (get_or t.lists (p * t.nodes + c.node) []) ≡ one_if_held (link_of t c) =
              subst (λ i. one_if_held (get_or t.lists (i * t.nodes + c.node) []) ≡ one_if_held (link_of t c)) same refl in
              omega (arith, rest, here, was)
        ]

    all_before : (m : ℕ) → m ≤ c.node → all_held after m ≡ all_held t m
    all_before zero less = refl
    all_before (suc m) less =
        let own = within.receiver in
        ap (λ n. n + held_below after m t.nodes) (all_before m (omega arith))
        ∙ ap (λ n. all_held t m + n) (held_other m t.nodes (omega arith) (λ same. omega arith))

    all_after : (m : ℕ) → c.node < m → m ≤ t.nodes → all_held after m + one_if_held (link_of t c) ≡ all_held t m + one_if_held new
    all_after zero less most = absurd (omega arith)
    all_after (suc m) less most =
        elim (cases_lt c.node m) [
          | inl under ↦ omega (arith, all_after m under (omega arith), held_other m t.nodes (omega arith) (λ same. omega arith))
          | inr over ↦
              let same : c.node ≡ m = omega arith in
              let rest = all_before m (omega arith) in
              let here : held_below after m t.nodes + one_if_held (link_of t c) ≡ held_below t m t.nodes + one_if_held new = subst (λ i.
              held_below after i t.nodes + one_if_held (link_of t c) ≡ held_below t i t.nodes + one_if_held new) same (held_own t.nodes within.sender) in
              omega (arith, rest, here)
        ]

    -- the counts of a table, where one link changes
    pub counts_after : (counts : List ℕ) (all count all' : ℕ) → length counts ≡ t.nodes → AreCounts t counts all
        → count + one_if_held (link_of t c) ≡ get_or counts c.node 0 + one_if_held new → all' + one_if_held (link_of t c) ≡ all + one_if_held new
        → AreCounts after (set counts c.node count) all'
    counts_after counts all count all' length_is are own whole = record {
      few = are.few;
      square = length-set_links ∙ are.square;
      each = λ k small. elim (cases_eq c.node k) [
        | inl same ↦
            let receiver = within.receiver in
            let here : get_or (set counts c.node count) c.node 0 ≡ count = get_or-set_same counts c.node count 0 (rw length_is receiver) in
            let was = are.each c.node receiver in
            subst (λ i. get_or (set counts c.node count) i 0 ≡ held_below after i t.nodes) same (omega (arith, here, held_own t.nodes within.sender, was))
        | inr other ↦ get_or-set_other counts c.node k count 0 (λ same. other (sym same)) ∙ are.each k small ∙ sym (held_other k t.nodes small other)
      ];
      whole = omega (arith, all_after t.nodes within.receiver (omega arith), are.whole);
    }
      where
        length-set_links : length after.lists ≡ length t.lists
        length-set_links = length-set t.lists (c.port * t.nodes + c.node) new

    -- where it holds something as before, they stay
    pub counts_stay : (counts : List ℕ) (all : ℕ) → length counts ≡ t.nodes → AreCounts t counts all → one_if_held (link_of t c) ≡ one_if_held new
        → AreCounts after counts all
    counts_stay counts all length_is are same =
        subst (λ cs. AreCounts after cs all) (set-get_or counts c.node 0)
        (counts_after counts all (get_or counts c.node 0) all length_is are (omega (arith, same)) (omega (arith, same)))

-- links that hold nothing
abbrev none : (M : Type 0) → ℕ → LinkLists M
none M n = record { nodes = n; lists = replicate (n * n) [] }

none_held : (M : Type 0) (n k p : ℕ) → held_below (none M n) k p ≡ 0
none_held M n k zero = refl
none_held M n k (suc p) = omega (arith, none_held M n k p, ap one_if_held (empty_link M (n * n) (p * n + k)))

none_at_all : (M : Type 0) (n m : ℕ) → all_held (none M n) m ≡ 0
none_at_all M n zero = refl
none_at_all M n (suc m) = omega (arith, none_at_all M n m, none_held M n m n)

pub counts_none : (M : Type 0) (n : ℕ) → n < 256 → AreCounts (none M n) (replicate n 0) 0
counts_none M n few = record {
  few = few;
  square = length-replicate (n * n) [];
  each = λ k small. get_or-replicate n k 0 0 small ∙ sym (none_held M n k n);
  whole = sym (none_at_all M n n);
}

-- a table of these lists and counts
abbrev table : {M : Type 0} → List (List M) → List ℕ → LinkLists M
table ls counts = record { nodes = length counts; lists = ls }

-- a link of a table, as code reads it: its place, and the list that stands there
pub record IsRead {M : Type 0} (ls : List (List M)) (counts : List ℕ) (all place : ℕ) (c : Choice) (old : List M) : Type 0 where
  pub are : AreCounts (table ls counts) counts all
  pub within : IsWithin (length counts) c
  pub place_is : place ≡ c.port * length counts + c.node
  pub old_is : old ≡ get_or ls place old

module _ {M : Type 0} {ls : List (List M)} {counts : List ℕ} {all place : ℕ} {c : Choice} {old : List M} (r : IsRead ls counts all place c old) where
  abbrev now : LinkLists M
  now = table ls counts

  read_list : link_of now c ≡ old
  read_list =
      let within = r.within in
      let small : c.port * length counts + c.node < length ls = rw r.are.square (inside (length counts) c.port c.node within.sender within.receiver) in
      let place = r.place_is in
      get_or_default ls (c.port * length counts + c.node) [] old small ∙ ap (λ i. get_or ls i old) (sym place) ∙ sym r.old_is

  held_some : one_if_held old ≤ held_below now c.node (length counts)
  held_some =
      let with : one_if_held (link_of now c) ≤ held_below now c.node (length counts) = held_with now c.node (length counts) c.port r.within.sender in
      omega (arith, with, ap one_if_held read_list)

  pub some_in_all : one_if_held old ≤ all
  some_in_all =
      let with = all_with now (length counts) c.node r.within.receiver in
      omega (arith, with, held_some, r.are.whole)

  pub few_in_all : all ≤ 255 * 255
  few_in_all =
      let few = r.are.few in
      let most : length counts * length counts ≤ 255 * 255 = grind arith in
      omega (arith, all_most now (length counts), r.are.whole, most)

  pub counted_still : (new : List M) → one_if_held old ≡ one_if_held new → AreCounts (table (set ls place new) counts) counts all
  counted_still new same =
      let place' = r.place_is in
      rw place' (counts_stay now c new r.are.square r.within counts all refl r.are (ap one_if_held read_list ∙ same))

  -- the count of its receiver
  module _ (count : ℕ) (count_is : count ≡ get_or counts c.node count) where
    read_count : count ≡ held_below now c.node (length counts)
    read_count = count_is ∙ get_or_default counts c.node count 0 r.within.receiver ∙ r.are.each c.node r.within.receiver

    pub some_counted : one_if_held old ≤ count
    some_counted = omega (arith, held_some, read_count)

    pub room_for_one : one_if_held old ≡ 0 → count + 1 < 2 ^ 8
    room_for_one none =
        let room : held_below now c.node (length counts) < length counts = held_room now c.node (length counts) c.port r.within.sender
        (ap one_if_held read_list ∙ none) in
        omega (arith, room, read_count, r.are.few)

    pub counted_anew : (new : List M) (value all' : ℕ) → value + one_if_held old ≡ count + one_if_held new
        → all' + one_if_held old ≡ all + one_if_held new
        → AreCounts (table (set ls place new) (set counts c.node value)) (set counts c.node value) all'
    counted_anew new value all' own whole =
        let within = r.within in
        let was = count_is ∙ get_or_default counts c.node count 0 within.receiver in
        let count' : length (set counts c.node value) ≡ length counts = length-set counts c.node value in
        let place' = r.place_is in
        rw (count', place') (counts_after now c new r.are.square within counts all value all' refl r.are (omega (arith, own, was, ap one_if_held read_list))
        (omega (arith, whole, ap one_if_held read_list)))

-- the links of a world
abbrev pub links_of : {A M N : Type 0} → Network A M N → LinkLists M
links_of w = record { nodes = length w.nodes; lists = w.links }

module _ {A M N : Type 0} (ready : A → M → Bool) (w : Network A M N) (world : IsWorld w) where
  abbrev n : ℕ
  n = length w.nodes

  takes_one : (c : Choice) (node : A) (l : List M) → is_input c ≡ false → one_if (takes_first ready c (Some node) l) ≡ one_if_held l
  takes_one c node [] off = refl
  takes_one c node (m ∷ l) off = rw off refl

  -- a choice that isn't the input is enabled where its link holds something
  link_enabled : (k p : ℕ) → k < n → p < n → (k == 0) && (p == 0) ≡ false → one_if (is_enabled ready w (at k p)) ≡ one_if_held (get_or w.links (p * n + k) [])
  link_enabled k p hk hp off =
      elim (slice_get w.nodes k)
      as (λ o. slice_get w.nodes k ≡ o → one_if (takes_first ready (at k p) o (queue_at w (at k p))) ≡ one_if_held (get_or w.links (p * n + k) [])) [
        | None ↦ λ none. absurd (past none)
        | Some node ↦ λ _. takes_one (at k p) node (queue_at w (at k p)) off ∙ ap one_if_held (waiting_is w p k hp hk ∙ rw off refl)
      ] refl
    where
      past : slice_get w.nodes k ≡ None → ⊥
      past none =
          elim w.nodes as (λ xs. k < length xs → slice_get xs k ≡ None → ⊥) [
            | [] ↦ λ small _. omega arith
            | x ∷ xs ↦ λ small never. let there = slice_get-get_or (x ∷ xs) k x small in cc
          ] hk none

  -- so many choices of a node are enabled
  pub ports_other : (k p : ℕ) → k < n → k ≢ 0 → p ≤ n → length (ports_below ready w k p) ≡ held_below (links_of w) k p
  ports_other k zero hk other most = refl
  ports_other k (suc p) hk other most =
      let off : (k == 0) && (p == 0) ≡ false = grind (arith, nat_tests) in
      ports_counted ready w k p
      ∙ ap (λ i. i + one_if (is_enabled ready w (at k p))) (ports_other k p hk other (omega arith))
      ∙ ap (λ i. held_below (links_of w) k p + i) (link_enabled k p hk (omega arith) off)

  pub ports_first : (p : ℕ) → 0 < p → p ≤ n → length (ports_below ready w 0 p) ≡ held_below (links_of w) 0 p + one_if (is_enabled ready w (at 0 0))
  ports_first zero some most = absurd (omega arith)
  ports_first (suc zero) some most =
      let first : 0 * n + 0 ≡ 0 = omega arith in
      let none : one_if_held (get_or w.links (0 * n + 0) []) ≡ 0 = ap (λ i. one_if_held (get_or w.links i [])) first ∙ ap one_if_held world.no_loop in
      let here = ports_counted ready w 0 0 in
      omega (arith, none, here)
  ports_first (suc (suc p)) some most =
      let off : (0 == 0) && (suc p == 0) ≡ false = grind (arith, nat_tests) in
      let here = ports_counted ready w 0 (suc p) in
      omega (arith, here, ports_first (suc p) (omega arith) (omega arith), link_enabled 0 (suc p) (omega arith) (omega arith) off)

  nodes_counted : (k : ℕ) → 0 < k → k ≤ n → length (nodes_below ready w k) ≡ all_held (links_of w) k + one_if (is_enabled ready w (at 0 0))
  nodes_counted zero some most = absurd (omega arith)
  nodes_counted (suc zero) some most = omega (arith, ports_first n (omega arith) (omega arith))
  nodes_counted (suc (suc k)) some most =
      let here = length-append (nodes_below ready w (suc k)) (ports_below ready w (suc k) n) in
      omega (arith, here, nodes_counted (suc k) (omega arith) (omega arith), ports_other (suc k) n (omega arith) (λ never. omega arith) (omega arith))

  -- the same against the links as a world keeps them
  module _ (t : LinkLists M) (nodes : t.nodes ≡ n) (lists : t.lists ≡ w.links) where
    kept_links : links_of w ≡ t
    kept_links = λ i. record { nodes = sym nodes i; lists = sym lists i }

    -- so many choices of a node are enabled
    pub count_other : (k held : ℕ) → k < n → k ≢ 0 → held ≡ held_below t k t.nodes → held ≡ length (ports_below ready w k n)
    count_other k held small other is =
        is ∙ sym (ports_other k n small other (omega arith) ∙ ap (λ l. held_below l k l.nodes) kept_links)

    pub count_first : (k : ℕ) (b : Bool) (held : ℕ) → k ≡ 0 → is_enabled ready w (at 0 0) ≡ b → held ≡ held_below t k t.nodes
        → held + one_if b ≡ length (ports_below ready w k n)
    count_first k b held at_first on is =
        rw (← on, is, at_first)
        (sym (ports_first n world.some_node (omega arith) ∙ ap (λ l. held_below l 0 l.nodes + one_if (is_enabled ready w (at 0 0))) kept_links))

    -- and so many in all
    pub count_all : (b : Bool) (held : ℕ) → is_enabled ready w (at 0 0) ≡ b → held ≡ all_held t t.nodes → held + one_if b ≡ length (enabled_choices ready w)
    count_all b held on is =
        rw (← on, is) (sym (nodes_counted n world.some_node (omega arith) ∙ ap (λ l. all_held l l.nodes + one_if (is_enabled ready w (at 0 0))) kept_links))
