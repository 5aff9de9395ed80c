-- A choice that can be taken takes a message of the scene, and leaves a world that is the next scene.
use Rattle.strong_share.proofs.Words.{◌≡◌, ◌≢◌, ℕ, zero, suc, ◌+◌, ◌<◌, Bool, true, false, List, [], ◌∷◌, ◌++◌, map, drop, get_or, refl, sym, ap, subst, ◌∙◌}
use Rattle.strong_share.proofs.Words.{append-nil, arith, if◌then◌else◌, ◌==◌, ◌&&◌, not, nat_lt, and-false, Decides-eqb, Decides-ltb, Semantics, Msg, Note}
use Rattle.strong_share.proofs.Words.{InstanceState, instance_step, Network, Stepped, queue_at, world_next, reaches, sent_for, at, StrongNote, Inner}
use Rattle.strong_share.proofs.Words.{StrongNode, Switch, Controller, Instance, node_step, node_ready, switch_step, controller_step}
use Rattle.std.proofs.Math.Bool.{and-true}
use Rattle.actor_net.proofs.WaitingMessages.{less_first}
use Rattle.actor_net.proofs.StepOutcome.{Takes, Outcome, taken_outcome}
use Rattle.strong_share.proofs.Lists.{put, two_two, two_zero, two_one, zero_two, one_two}
use Rattle.strong_share.proofs.Scenes.{Scene, Shows, switch_did, controller_did, member_did, Goes, Goes.From_input, Goes.From_down, Goes.From_home}
use Rattle.strong_share.proofs.Scenes.{Goes.From_up, Goes.From_back, Goes.From_out, Goes.From_to, next_scene, Confined, message_of, sends_of, node_of}

-- the link that is taken from
taken_link : {X : Type 0} (k j : ℕ) (links : ℕ → List X) (ys : List X) (m : X) (rest : List X) → ys ≡ links k → links j ≡ m ∷ rest
    → less_first (k == j) ys ++ [] ≡ put links j rest k
taken_link {X = X} k j links ys m rest is first = elim (k == j) as (λ b. (k == j) ≡ b → less_first b ys ++ [] ≡ (if b then rest else links k)) [
  | true ↦ λ on.
      let same : k ≡ j = (Decides-eqb k j).0 on in
      let here : ys ≡ m ∷ rest = is ∙ ap links same ∙ first in
      append-nil (drop 1 ys) ∙ ap (λ (zs : List X). drop 1 zs) here
  | false ↦ λ _. append-nil ys ∙ is
] refl

one_taken : {X : Type 0} (ys : List X) (m : X) (rest : List X) → ys ≡ m ∷ rest → less_first true ys ++ [] ≡ rest
one_taken {X = X} ys m rest is = append-nil (drop 1 ys) ∙ ap (λ (zs : List X). drop 1 zs) is

reach_up : (n k r : ℕ) → r < n → (k == 0) ≡ false → reaches n k r ≡ true
reach_up n k r there other = let low = (Decides-ltb r n).1 there in rw (low, other) refl

reach_member : (n k r : ℕ) → r + 2 < n → reaches n k (r + 2) ≡ true
reach_member n k r there =
    let low = (Decides-ltb (r + 2) n).1 there in
    let far : (r + 2 == 0) ≡ false = two_zero r in
    elim (k == 0) as (λ b. nat_lt (r + 2) n && not (b && (r + 2 == 0)) ≡ true) [ true ↦ rw (low, far) refl | false ↦ rw low refl ]

if_self : {X : Type 0} (b : Bool) (xs : List X) → xs ≡ [] → (if b then xs else []) ≡ []
if_self true xs e = e
if_self false xs e = refl

module _ {F R : Type 0} (f : Semantics R) (n : ℕ) (w : Network (StrongNode F R) Msg StrongNote) (x : Scene F R) (h : Shows n w x) where
  -- one choice
  module _ (k p : ℕ) (node : StrongNode F R) (m : Msg) (rest : List Msg) (takes : Takes (node_step f) (n + 2) w k p node m rest) where
    abbrev did : Stepped (StrongNode F R) Msg StrongNote
    did = node_step f node p m

    abbrev v : Network (StrongNode F R) Msg StrongNote
    v = world_next (node_step f) w (at k p)

    left : Outcome (node_step f) (n + 2) w k p node m rest v
    left = taken_outcome (node_step f) (n + 2) w k p node m rest takes

    -- a link, by whether it is taken from and whether the node sends on it
    link : (s r : ℕ) (b c : Bool) → (s == p) && (r == k) ≡ b → (s == k) && reaches (n + 2) k r ≡ c
        → queue_at v (at r s) ≡ less_first b (queue_at w (at r s)) ++ (if c then sent_for r did.sends else [])
    link s r b c b_is c_is =
        left.waits s r
        ∙ ap (λ t. less_first t (queue_at w (at r s)) ++ (if (s == k) && reaches (n + 2) k r then sent_for r did.sends else [])) b_is
        ∙ ap (λ t. less_first b (queue_at w (at r s)) ++ (if t then sent_for r did.sends else [])) c_is

    -- one that isn't touched
    still : (s r : ℕ) (ys : List Msg) → (s == p) && (r == k) ≡ false → (s == k) ≡ false → queue_at w (at r s) ≡ ys → queue_at v (at r s) ≡ ys
    still s r ys off other is = link s r false false off (rw other refl) ∙ append-nil (queue_at w (at r s)) ∙ is

    other_node : (j : ℕ) (d z : StrongNode F R) → j ≢ k → get_or w.nodes j d ≡ z → get_or v.nodes j d ≡ z
    other_node j d z apart is = left.others j d apart ∙ is

  -- a step of the switch
  module _ (p : ℕ) (m : Msg) (rest : List Msg) (takes : Takes (node_step f) (n + 2) w 0 p (Switch x.switch) m rest) (y : Scene F R) where
    abbrev switch_sent : ℕ → List Msg
    switch_sent k = sent_for k (switch_step x.switch m).sends

    pub switch_shows : y.switch ≡ x.switch → y.controller ≡ x.controller → ((k : ℕ) → y.member k ≡ x.member k) → y.log ≡ x.log
        → y.up ≡ x.up → ((k : ℕ) → y.out k ≡ x.out k) → ((k : ℕ) → y.to k ≡ x.to k) → ((k : ℕ) → y.back k ≡ x.back k)
        → (queue_at (world_next (node_step f) w (at 0 p)) (at 0 0) ≡ y.input) → (queue_at (world_next (node_step f) w (at 0 p)) (at 0 1) ≡ y.down)
        → ((k : ℕ) → k < n → queue_at (world_next (node_step f) w (at 0 p)) (at 0 (k + 2)) ≡ y.home k)
        → Shows n (world_next (node_step f) w (at 0 p)) (switch_did y (switch_step x.switch m))
    switch_shows sw ct me lo u o t b input down home =
        let l = left 0 p (Switch x.switch) m rest takes in
        record {
          count = l.count;
          switch = l.own;
          controller = λ d. other_node 0 p (Switch x.switch) m rest takes 1 d (Controller x.controller) (λ e. grind arith) (h.controller d)
              ∙ ap Controller (sym ct);
          member = λ k k_in d. other_node 0 p (Switch x.switch) m rest takes (k + 2) d (Instance (x.member k)) (λ e. grind arith) (h.member k k_in d)
              ∙ ap Instance (sym (me k));
          input = input;
          up = link 0 p (Switch x.switch) m rest takes 0 1 false true (and-false (0 == p)) (let there : 1 < n + 2 = omega arith in
              let low = (Decides-ltb 1 (n + 2)).1 there in rw low refl) ∙ ap (λ z. z ++ switch_sent 1) (h.up ∙ sym u);
          down = down;
          out = λ k k_in. link 0 p (Switch x.switch) m rest takes 0 (k + 2) false true (rw (two_zero k) (and-false (0 == p)))
              (reach_member (n + 2) 0 k (omega (arith, k_in))) ∙ ap (λ z. z ++ switch_sent (k + 2)) (h.out k k_in ∙ sym (o k));
          to = λ k k_in. still 0 p (Switch x.switch) m rest takes 1 (k + 2) (y.to k) (rw (two_zero k) (and-false (1 == p))) refl (h.to k k_in ∙ sym (t k));
          back = λ k k_in. still 0 p (Switch x.switch) m rest takes (k + 2) 1 (y.back k) (and-false (k + 2 == p)) (two_zero k) (h.back k k_in ∙ sym (b k));
          home = home;
          loop = still 0 p (Switch x.switch) m rest takes 1 1 [] (and-false (1 == p)) refl h.loop;
          between = λ j k. still 0 p (Switch x.switch) m rest takes (k + 2) (j + 2) [] (rw (two_zero j) (and-false (k + 2 == p))) (two_zero k) (h.between j k);
          log = l.log ∙ ap (λ z. z ++ (switch_step x.switch m).notes) (h.log ∙ sym lo);
        }

  -- a step of the controller
  module _ (p : ℕ) (m : Msg) (rest : List Msg) (takes : Takes (node_step f) (n + 2) w 1 p (Controller x.controller) m rest) (y : Scene F R) where
    abbrev controller_sent : ℕ → List Msg
    controller_sent k = sent_for k (controller_step x.controller p m).sends

    pub controller_shows : controller_sent 1 ≡ [] → y.switch ≡ x.switch → ((k : ℕ) → y.member k ≡ x.member k) → y.log ≡ x.log
        → y.input ≡ x.input → y.down ≡ x.down → ((k : ℕ) → y.out k ≡ x.out k) → ((k : ℕ) → y.to k ≡ x.to k) → ((k : ℕ) → y.home k ≡ x.home k)
        → (queue_at (world_next (node_step f) w (at 1 p)) (at 1 0) ≡ y.up)
        → ((k : ℕ) → k < n → queue_at (world_next (node_step f) w (at 1 p)) (at 1 (k + 2)) ≡ y.back k)
        → (queue_at (world_next (node_step f) w (at 1 p)) (at 1 1) ≡ [])
        → Shows n (world_next (node_step f) w (at 1 p)) (controller_did y (controller_step x.controller p m))
    controller_shows none sw me lo i dn o t hm up back loop =
        let l = left 1 p (Controller x.controller) m rest takes in
        record {
          count = l.count;
          switch = λ d. other_node 1 p (Controller x.controller) m rest takes 0 d (Switch x.switch) (λ e. grind arith) (h.switch d) ∙ ap Switch (sym sw);
          controller = l.own;
          member = λ k k_in d. other_node 1 p (Controller x.controller) m rest takes (k + 2) d (Instance (x.member k)) (λ e. grind arith) (h.member k k_in d)
              ∙ ap Instance (sym (me k));
          input = still 1 p (Controller x.controller) m rest takes 0 0 y.input (and-false (0 == p)) refl (h.input ∙ sym i);
          up = up;
          down = link 1 p (Controller x.controller) m rest takes 1 0 false true (and-false (1 == p))
              (let there : 0 < n + 2 = omega arith in let low = (Decides-ltb 0 (n + 2)).1 there in rw low refl)
              ∙ ap (λ z. z ++ controller_sent 0) (h.down ∙ sym dn);
          out = λ k k_in. still 1 p (Controller x.controller) m rest takes 0 (k + 2) (y.out k) (rw (two_one k) (and-false (0 == p))) refl
              (h.out k k_in ∙ sym (o k));
          to = λ k k_in. link 1 p (Controller x.controller) m rest takes 1 (k + 2) false true (rw (two_one k) (and-false (1 == p)))
              (reach_member (n + 2) 1 k (omega (arith, k_in))) ∙ ap (λ z. z ++ controller_sent (k + 2)) (h.to k k_in ∙ sym (t k));
          back = back;
          home = λ k k_in. still 1 p (Controller x.controller) m rest takes (k + 2) 0 (y.home k) (and-false (k + 2 == p)) (two_one k)
              (h.home k k_in ∙ sym (hm k));
          loop = loop;
          between = λ j k. still 1 p (Controller x.controller) m rest takes (k + 2) (j + 2) [] (rw (two_one j) (and-false (k + 2 == p))) (two_one k)
              (h.between j k);
          log = l.log ∙ ap (λ z. z ++ (controller_step x.controller p m).notes) (h.log ∙ sym lo);
        }

  -- a step of a member
  module _ (j p : ℕ) (j_in : j < n) (m : Msg) (rest : List Msg) (takes : Takes (node_step f) (n + 2) w (j + 2) p (Instance (x.member j)) m rest) (y : Scene F R)
    where
      abbrev its : Stepped (InstanceState F R) Msg Note
      its = instance_step f (x.member j) m

      abbrev member_sent : ℕ → List Msg
      member_sent k = sent_for k its.sends

      -- what it sends to the switch or the controller
      sends_to : (r : ℕ) → (r == j + 2) ≡ false → r < n + 2 → (links ys : ℕ → List Msg) → ((k : ℕ) → k < n → queue_at w (at r (k + 2)) ≡ links k)
          → ((k : ℕ) → ys k ≡ links k) → (k : ℕ) → k < n → queue_at (world_next (node_step f) w (at (j + 2) p)) (at r (k + 2)) ≡ ys k
          ++ (if k == j then member_sent r else [])
      sends_to r apart there links ys is same k k_in =
          link (j + 2) p (Instance (x.member j)) m rest takes (k + 2) r false (k == j) (rw apart (and-false (k + 2 == p)))
          (let reached = reach_up (n + 2) (j + 2) r there (two_zero j) in rw (two_two k j, reached) (and-true (k == j)))
          ∙ ap (λ z. z ++ (if k == j then member_sent r else [])) (is k k_in ∙ sym (same k))

      pub member_shows : ((k : ℕ) → member_sent (k + 2) ≡ []) → y.switch ≡ x.switch → y.controller ≡ x.controller → ((k : ℕ) → y.member k ≡ x.member k)
          → y.log ≡ x.log
          → y.input ≡ x.input → y.up ≡ x.up → y.down ≡ x.down → ((k : ℕ) → y.back k ≡ x.back k) → ((k : ℕ) → y.home k ≡ x.home k)
          → ((k : ℕ) → k < n → queue_at (world_next (node_step f) w (at (j + 2) p)) (at (k + 2) 0) ≡ y.out k)
          → ((k : ℕ) → k < n → queue_at (world_next (node_step f) w (at (j + 2) p)) (at (k + 2) 1) ≡ y.to k)
          → ((i k : ℕ) → (k + 2 == p) && (i == j) ≡ false)
          → Shows n (world_next (node_step f) w (at (j + 2) p)) (member_did y j its)
      member_shows none sw ct me lo i u dn b hm out to apart =
          let l = left (j + 2) p (Instance (x.member j)) m rest takes in
          record {
            count = l.count;
            switch = λ d. other_node (j + 2) p (Instance (x.member j)) m rest takes 0 d (Switch x.switch) (λ e. grind arith) (h.switch d) ∙ ap Switch (sym sw);
            controller = λ d. other_node (j + 2) p (Instance (x.member j)) m rest takes 1 d (Controller x.controller) (λ e. grind arith) (h.controller d)
                ∙ ap Controller (sym ct);
            member = λ k k_in d. elim (k == j) as (λ b. (k == j) ≡ b → get_or (world_next (node_step f) w (at (j + 2) p)).nodes (k + 2) d
                ≡ Instance (if b then its.node else y.member k)) [
                  | true ↦ λ on. (let same : k ≡ j = (Decides-eqb k j).0 on in
                      subst (λ q. get_or (world_next (node_step f) w (at (j + 2) p)).nodes (q + 2) d ≡ Instance its.node) (sym same) (l.own d))
                  | false ↦ λ off. other_node (j + 2) p (Instance (x.member j)) m rest takes (k + 2) d (Instance (x.member k))
                      (λ e. let same : k ≡ j = omega arith in let on = (Decides-eqb k j).1 same in let both : false ≡ true = sym off ∙ on in cc)
                      (h.member k k_in d)
                      ∙ ap Instance (sym (me k))
                ] refl;
            input = still (j + 2) p (Instance (x.member j)) m rest takes 0 0 y.input (rw (zero_two j) (and-false (0 == p))) (zero_two j) (h.input ∙ sym i);
            up = still (j + 2) p (Instance (x.member j)) m rest takes 0 1 y.up (rw (one_two j) (and-false (0 == p))) (zero_two j) (h.up ∙ sym u);
            down = still (j + 2) p (Instance (x.member j)) m rest takes 1 0 y.down (rw (zero_two j) (and-false (1 == p))) (one_two j) (h.down ∙ sym dn);
            out = out;
            to = to;
            back = sends_to 1 (one_two j) (omega arith) x.back y.back h.back b;
            home = sends_to 0 (zero_two j) (omega arith) x.home y.home h.home hm;
            loop = still (j + 2) p (Instance (x.member j)) m rest takes 1 1 [] (rw (one_two j) (and-false (1 == p))) (one_two j) h.loop;
            between = λ i k. link (j + 2) p (Instance (x.member j)) m rest takes (k + 2) (i + 2) false ((k + 2 == j + 2) && reaches (n + 2) (j + 2) (i + 2))
                (ap (λ t. (k + 2 == p) && t) (two_two i j) ∙ apart i k) refl
                ∙ ap (λ z. z ++ (if (k + 2 == j + 2) && reaches (n + 2) (j + 2) (i + 2) then member_sent (i + 2) else [])) (h.between i k)
                ∙ if_self ((k + 2 == j + 2) && reaches (n + 2) (j + 2) (i + 2)) (member_sent (i + 2)) (none i);
            log = l.log ∙ ap (λ z. z ++ map Inner its.notes) (h.log ∙ sym lo);
          }

  -- it is this message, at this node, which sends this
  pub record IsTakenBy (k p : ℕ) (node : StrongNode F R) (m : Msg) (g : Goes n x) : Type 0 where
    pub message : message_of n x g ≡ m
    pub sends : (node_step f node p m).sends ≡ sends_of f n x g
    pub node_is : node_of n x g ≡ k

  -- what a choice takes, and what it leaves where nothing goes to where no link leads
  abbrev FoundOf : ℕ → ℕ → StrongNode F R → Type 0
  FoundOf k p node = (m : Msg) (rest : List Msg) → Takes (node_step f) (n + 2) w k p node m rest
      → ((k == 0) && (p == 0) ≡ true → node_ready node m ≡ true) → (g : Goes n x)
      × (Confined f n g → Shows n (world_next (node_step f) w (at k p)) (next_scene f n x g)) × IsTakenBy k p node m g

  abbrev Found : ℕ → ℕ → Type 0
  Found k p = (node : StrongNode F R) → FoundOf k p node

  -- the node at this number is known
  at_node : (k p : ℕ) (known : StrongNode F R) → ((d : StrongNode F R) → get_or w.nodes k d ≡ known) → FoundOf k p known → Found k p
  at_node k p known there found node m rest takes = subst (λ z. FoundOf k p z) (sym (there node) ∙ takes.node_is node) found m rest takes

  -- the link from a member, from which is taken
  from_members : (k r i : ℕ) (node : StrongNode F R) (m : Msg) (rest : List Msg) → Takes (node_step f) (n + 2) w k (i + 2) node m rest → (r ≡ k)
      → ((q : ℕ) → (q + 2 == k) ≡ false) → (links : ℕ → List Msg) → ((q : ℕ) → q < n → queue_at w (at r (q + 2)) ≡ links q) → links i ≡ m ∷ rest → (q : ℕ)
      → q < n → queue_at (world_next (node_step f) w (at k (i + 2))) (at r (q + 2)) ≡ put links i rest q
  from_members k r i node m rest takes same apart links is first q q_in =
      let on : (r == k) ≡ true = (Decides-eqb r k).1 same in
      link k (i + 2) node m rest takes (q + 2) r (q == i) false (rw (two_two q i, on) (and-true (q == i))) (rw (apart q) refl)
      ∙ taken_link q i links (queue_at w (at r (q + 2))) m rest (is q q_in) first

  found_input : Found 0 0
  found_input = at_node 0 0 (Switch x.switch) h.switch (λ m rest takes ready.
      let first : x.input ≡ m ∷ rest = sym h.input ∙ takes.waits in (
        From_input m rest first (ready refl),
        λ _.
            switch_shows 0 m rest takes (record x { input = rest }) refl refl (λ k. refl) refl refl (λ k. refl) (λ k. refl) (λ k. refl)
            (link 0 0 (Switch x.switch) m rest takes 0 0 true false refl (and-false (nat_lt 0 (n + 2))) ∙ one_taken (queue_at w (at 0 0)) m rest takes.waits)
            (still 0 0 (Switch x.switch) m rest takes 1 0 x.down refl refl h.down)
            (λ k k_in. still 0 0 (Switch x.switch) m rest takes (k + 2) 0 (x.home k) (rw (two_zero k) refl) (two_zero k) (h.home k k_in)),
        record { message = refl; sends = refl; node_is = refl },
      ))

  found_down : Found 0 1
  found_down = at_node 0 1 (Switch x.switch) h.switch (λ m rest takes ready.
      let first : x.down ≡ m ∷ rest = sym h.down ∙ takes.waits in (
        From_down m rest first,
        λ _. switch_shows 1 m rest takes (record x { down = rest }) refl refl (λ k. refl) refl refl (λ k. refl) (λ k. refl) (λ k. refl)
            (link 0 1 (Switch x.switch) m rest takes 0 0 false false refl (and-false (nat_lt 0 (n + 2))) ∙ append-nil (queue_at w (at 0 0)) ∙ h.input)
            (link 0 1 (Switch x.switch) m rest takes 1 0 true false refl refl ∙ one_taken (queue_at w (at 0 1)) m rest takes.waits)
            (λ k k_in. still 0 1 (Switch x.switch) m rest takes (k + 2) 0 (x.home k) (rw (two_one k) refl) (two_zero k) (h.home k k_in)),
        record { message = refl; sends = refl; node_is = refl },
      ))

  found_home : (i : ℕ) → i < n → Found 0 (i + 2)
  found_home i i_in = at_node 0 (i + 2) (Switch x.switch) h.switch (λ m rest takes ready.
      let first : x.home i ≡ m ∷ rest = sym (h.home i i_in) ∙ takes.waits in (
        From_home i m rest i_in first,
        λ _. switch_shows (i + 2) m rest takes (record x { home = put x.home i rest }) refl refl (λ k. refl) refl refl
            (λ k. refl) (λ k. refl) (λ k. refl)
            (link 0 (i + 2) (Switch x.switch) m rest takes 0 0 false false (rw (zero_two i) refl) (and-false (nat_lt 0 (n + 2)))
            ∙ append-nil (queue_at w (at 0 0)) ∙ h.input)
            (still 0 (i + 2) (Switch x.switch) m rest takes 1 0 x.down (rw (one_two i) refl) refl h.down)
            (from_members 0 0 i (Switch x.switch) m rest takes refl two_zero x.home h.home first),
        record { message = refl; sends = refl; node_is = refl },
      ))

  -- the controller's link to itself stays empty
  no_loop : (p : ℕ) (m : Msg) (rest : List Msg) → Takes (node_step f) (n + 2) w 1 p (Controller x.controller) m rest → (1 == p) ≡ false
      → sent_for 1 (controller_step x.controller p m).sends ≡ [] → queue_at (world_next (node_step f) w (at 1 p)) (at 1 1) ≡ []
  no_loop p m rest takes apart none =
      link 1 p (Controller x.controller) m rest takes 1 1 false (reaches (n + 2) 1 1) (rw apart refl) refl
      ∙ nothing (reaches (n + 2) 1 1) (queue_at w (at 1 1)) (sent_for 1 (controller_step x.controller p m).sends) h.loop none
    where
      nothing : (b : Bool) (xs ys : List Msg) → xs ≡ [] → ys ≡ [] → xs ++ (if b then ys else []) ≡ []
      nothing true xs ys e g = rw (e, g) refl
      nothing false xs ys e g = rw e refl

  found_up : Found 1 0
  found_up = at_node 1 0 (Controller x.controller) h.controller (λ m rest takes ready.
      let first : x.up ≡ m ∷ rest = sym h.up ∙ takes.waits in (
        From_up m rest first,
        λ none. controller_shows 0 m rest takes (record x { up = rest }) none refl (λ k. refl) refl refl refl (λ k. refl) (λ k. refl)
            (λ k. refl)
            (link 1 0 (Controller x.controller) m rest takes 0 1 true false refl refl ∙ one_taken (queue_at w (at 1 0)) m rest takes.waits)
            (λ k k_in. still 1 0 (Controller x.controller) m rest takes (k + 2) 1 (x.back k) (rw (two_zero k) refl) (two_one k) (h.back k k_in))
            (no_loop 0 m rest takes refl none),
        record { message = refl; sends = refl; node_is = refl },
      ))

  found_back : (i : ℕ) → i < n → Found 1 (i + 2)
  found_back i i_in = at_node 1 (i + 2) (Controller x.controller) h.controller (λ m rest takes ready.
      let first : x.back i ≡ m ∷ rest = sym (h.back i i_in) ∙ takes.waits in (
        From_back i m rest i_in first,
        λ none. controller_shows (i + 2) m rest takes (record x { back = put x.back i rest }) none refl (λ k. refl) refl refl
            refl (λ k. refl) (λ k. refl) (λ k. refl)
            (still 1 (i + 2) (Controller x.controller) m rest takes 0 1 x.up (rw (zero_two i) refl) refl h.up)
            (from_members 1 1 i (Controller x.controller) m rest takes refl two_one x.back h.back first)
            (no_loop (i + 2) m rest takes (one_two i) none),
        record { message = refl; sends = refl; node_is = refl },
      ))

  found_out : (j : ℕ) → j < n → Found (j + 2) 0
  found_out j j_in = at_node (j + 2) 0 (Instance (x.member j)) (h.member j j_in) (λ m rest takes ready.
      let first : x.out j ≡ m ∷ rest = sym (h.out j j_in) ∙ takes.waits in (
        From_out j m rest j_in first,
        λ none. member_shows j 0 j_in m rest takes (record x { out = put x.out j rest }) none refl refl (λ k. refl) refl refl refl
            refl (λ k. refl) (λ k. refl)
            (λ k k_in. link (j + 2) 0 (Instance (x.member j)) m rest takes 0 (k + 2) (k == j) false (two_two k j) (rw (zero_two j) refl)
            ∙ taken_link k j x.out (queue_at w (at (k + 2) 0)) m rest (h.out k k_in) first)
            (λ k k_in. still (j + 2) 0 (Instance (x.member j)) m rest takes 1 (k + 2) (x.to k) refl (one_two j) (h.to k k_in))
            (λ i k. rw (two_zero k) refl),
        record { message = refl; sends = refl; node_is = refl },
      ))

  found_to : (j : ℕ) → j < n → Found (j + 2) 1
  found_to j j_in = at_node (j + 2) 1 (Instance (x.member j)) (h.member j j_in) (λ m rest takes ready.
      let first : x.to j ≡ m ∷ rest = sym (h.to j j_in) ∙ takes.waits in (
        From_to j m rest j_in first,
        λ none. member_shows j 1 j_in m rest takes (record x { to = put x.to j rest }) none refl refl (λ k. refl) refl refl refl
            refl (λ k. refl) (λ k. refl)
            (λ k k_in. still (j + 2) 1 (Instance (x.member j)) m rest takes 0 (k + 2) (x.out k) refl (zero_two j) (h.out k k_in))
            (λ k k_in. link (j + 2) 1 (Instance (x.member j)) m rest takes 1 (k + 2) (k == j) false (two_two k j) (rw (one_two j) refl)
            ∙ taken_link k j x.to (queue_at w (at (k + 2) 1)) m rest (h.to k k_in) first)
            (λ i k. rw (two_one k) refl),
        record { message = refl; sends = refl; node_is = refl },
      ))

  nothing_waits : {X : Type 0} (k p : ℕ) (node : StrongNode F R) (m : Msg) (rest : List Msg) → Takes (node_step f) (n + 2) w k p node m rest
      → queue_at w (at k p) ≡ [] → X
  nothing_waits k p node m rest takes none = let both : m ∷ rest ≡ [] = sym takes.waits ∙ none in absurd cc

  -- a number of a node is 0, 1 or that of a member
  by_number : (P : ℕ → Type 0) → P 0 → P 1 → ((j : ℕ) → j < n → P (j + 2)) → (k : ℕ) → k < n + 2 → P k
  by_number P zero_is one_is members zero k_in = zero_is
  by_number P zero_is one_is members (suc zero) k_in = one_is
  by_number P zero_is one_is members (suc (suc j)) k_in = let same : j + 2 ≡ suc (suc j) = omega arith in subst P same (members j (omega (arith, k_in)))

  pub found : (k p : ℕ) → k < n + 2 → p < n + 2 → Found k p
  found k p k_in p_in =
      by_number (λ a. Found a p)
      (by_number (λ b. Found 0 b) found_input found_down found_home p p_in)
      (by_number (λ b. Found 1 b) found_up (λ node m rest takes _. nothing_waits 1 1 node m rest takes h.loop) found_back p p_in)
      (λ j j_in. by_number (λ b. Found (j + 2) b) (found_out j j_in) (found_to j j_in) (λ i _ node m rest takes _.
      nothing_waits (j + 2) (i + 2) node m rest takes (h.between j i)) p p_in)
      k k_in
