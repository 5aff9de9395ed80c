-- A choice that is taken leads from a world of a run to one, by the step of its node.
use Rattle.proof_outlines.proofs.Words.{◌≡◌, ◌≢◌, ℕ, ◌+◌, true, false, Option, Some, None, List, [], ◌∷◌, ◌++◌, get_or, refl, sym, ap, ◌∙◌, subst, append-nil}
use Rattle.proof_outlines.proofs.Words.{arith, ◌&&◌, ◌==◌, nat_lt, not, filter_map, nat_tests, Decides-eqb, and_comm, Semantics, Msg, Note, Choice, Network}
use Rattle.proof_outlines.proofs.Words.{Stepped, is_input, queue_at, world_next, at, put_on_link, less_first, Takes, taken_outcome, Taking, on_links_after}
use Rattle.proof_outlines.proofs.Words.{Each, Any, takes_in, Node, node_step, node_ready, either_way}
use Rattle.proof_outlines.proofs.outline.LinkOutline.{shows_taken, shows_unseen}
use Rattle.proof_outlines.proofs.joined.Words.{Given, count, Label, shown, Took, node_of, links_next, Scene, Shows, AreShown, Joined, Leads, IsTaken}

-- what the nodes' steps give: each leads from a world of a run to one, where what the step wants beside is so
abbrev pub NodeLeads : {F R : Type 0} (f : Semantics R) (g : Given) → ℕ → (Scene F f g → Msg → Type 0) → Type 0
NodeLeads {F = F} f g n May = (x : Scene F f g) (k p : ℕ) (m : Msg) → AreShown f g n x → IsTaken f g n x (record { node = k; port = p; message = m })
    → May x m → Leads f g n x (record { node = k; port = p; message = m }) (node_step f (node_of x.nodes k) p m)

module _ {F R : Type 0} (f : Semantics R) (g : Given) (n : ℕ) (count_is : n ≡ count f g + 2) (May : Scene F f g → Msg → Type 0)
    (leads : NodeLeads f g n May) where
  abbrev pub step : Node F R → ℕ → Msg → Stepped (Node F R) Msg Note
  step = node_step f

  abbrev pub scene : (w : Network (Node F R) Msg Note) → Joined f g n w → Scene F f g
  scene w j = record { nodes = j.nodes; world = j.world; log = w.log; input = queue_at w (at 0 0) }

  module _ (w : Network (Node F R) Msg Note) (k p : ℕ) (m : Msg) (rest : List Msg) (j : Joined f g n w)
      (takes : Takes step n w k p (node_of j.nodes k) m rest) (was_ready : is_input (at k p) ≡ true → node_ready (node_of j.nodes k) m ≡ true) where
    abbrev pub took : Took
    took = record { node = k; port = p; message = m }

    pub label : Label f g p k m
    label = (subst (λ ms. Each (Label f g p k) ms) takes.waits
        (j.labels p k (let c = takes.count in rw c takes.sender) (let c = takes.count in rw c takes.receiver))).0

    head : (p == 0) && (k == 0) ≡ false → (a : Any R) → shown f g m ≡ Some a → j.world.link p k ≡ a ∷ filter_map (shown f g) rest
    head off a is = j.links p k takes.sender takes.receiver off ∙ ap (filter_map (shown f g)) takes.waits ∙ first
      where
        first : filter_map (shown f g) (m ∷ rest) ≡ a ∷ filter_map (shown f g) rest
        first = rw is refl

    ready : p ≡ 0 → k ≡ 0 → takes_in j.nodes.switch m ≡ true
    ready p0 k0 = subst (λ x. node_ready (node_of j.nodes x) m ≡ true) k0 (was_ready (rw (k0, p0) refl))

    pub is_taken : IsTaken f g n (scene w j) took
    is_taken = record {
      count_is = count_is;
      receiver = takes.receiver;
      sender = takes.sender;
      label = label;
      rest = filter_map (shown f g) rest;
      head = head;
      items = rest;
      item = λ p0 k0. ap (λ x. queue_at w (at x 0)) (sym k0) ∙ ap (λ x. queue_at w (at k x)) (sym p0) ∙ takes.waits;
      ready = ready;
    }

    abbrev pub did : Stepped (Node F R) Msg Note
    did = step (node_of j.nodes k) p m

    pub step_leads : May (scene w j) m → Leads f g n (scene w j) took did
    step_leads may = leads (scene w j) k p m j.shown_is is_taken may

    -- the input after it
    pub input_after : queue_at (world_next step w (at k p)) (at 0 0) ≡ less_first ((0 == k) && (0 == p)) (queue_at w (at 0 0))
    input_after =
        let left = taken_outcome step n w k p (node_of j.nodes k) m rest takes in
        left.waits 0 0 ∙ ap (λ xs. less_first ((0 == p) && (0 == k)) (queue_at w (at 0 0)) ++ xs) none
        ∙ append-nil (less_first ((0 == p) && (0 == k)) (queue_at w (at 0 0))) ∙ ap (λ b. less_first b (queue_at w (at 0 0))) (and_comm (0 == p) (0 == k))
      where
        none : put_on_link n k 0 0 did.sends ≡ []
        none = let off : (0 == k) && (nat_lt 0 n && not ((k == 0) && (0 == 0))) ≡ false = grind (arith, nat_tests) in rw off refl

    links_after_step : (o : Option (Any R)) → shown f g m ≡ o → Shows f g n (world_next step w (at k p)) (links_next f g j.world.link took did.sends)
    links_after_step (Some a) is = rw is (shows_taken (shown f g) step n w k p (node_of j.nodes k) m rest takes j.world.link a j.links is)
    links_after_step None is = rw is (shows_unseen (shown f g) step n w k p (node_of j.nodes k) m rest takes j.world.link j.links is)

    pub joined_after : May (scene w j) m → Joined f g n (world_next step w (at k p))
    joined_after may =
        let l = step_leads may in
        let left = taken_outcome step n w k p (node_of j.nodes k) m rest takes in
        record {
          nodes = l.nodes;
          nodes_are = λ i hi d. either_way (i == k)
              (λ e. let same : i ≡ k = (Decides-eqb i k).0 e in
              subst (λ y. get_or (world_next step w (at k p)).nodes y d ≡ node_of l.nodes y) (sym same) (left.own d ∙ l.own))
              (λ e. let other : i ≢ k = grind (arith, nat_tests) in left.others i d other ∙ j.nodes_are i hi d ∙ sym (l.others i other));
          world = l.world;
          links = λ i y hi hy off. l.links i y ∙ links_after_step (shown f g m) refl i y hi hy off;
          labels = on_links_after (Label f g) step n w k p (node_of j.nodes k) m rest takes j.labels l.labels;
          shown_is = subst (λ q. AreShown f g n
              (record { nodes = l.nodes; world = l.world; log = q; input = queue_at (world_next step w (at k p)) (at 0 0) })) (sym left.log)
              (subst (λ q. AreShown f g n (record { nodes = l.nodes; world = l.world; log = w.log ++ did.notes; input = q })) (sym input_after) l.shown_is);
        }

    -- its world
    pub after_world : (may : May (scene w j) m) → (joined_after may).world ≡ (step_leads may).world
    unfolding joined_after
    after_world may = refl

    -- and its nodes
    pub after_nodes : (may : May (scene w j) m) → (joined_after may).nodes ≡ (step_leads may).nodes
    unfolding joined_after
    after_nodes may = refl

  -- a choice of a run: what it takes, and where it leads
  module _ (w : Network (Node F R) Msg Note) (c : Choice) (t : Taking node_ready step n w c) (j : Joined f g n w) where
    node_same : t.node ≡ node_of j.nodes c.node
    node_same = sym (t.takes.node_is t.node) ∙ j.nodes_are c.node t.takes.receiver t.node

    pub takes_at : Takes step n w c.node c.port (node_of j.nodes c.node) t.message t.rest
    takes_at = subst (λ y. Takes step n w c.node c.port y t.message t.rest) node_same t.takes

    pub ready_at : is_input c ≡ true → node_ready (node_of j.nodes c.node) t.message ≡ true
    ready_at = subst (λ y. is_input c ≡ true → node_ready y t.message ≡ true) node_same t.was_ready

    pub joined_next : May (scene w j) t.message → Joined f g n (world_next step w c)
    joined_next may = joined_after w c.node c.port t.message t.rest j takes_at ready_at may

    pub next_is : (may : May (scene w j) t.message) → joined_next may ≡ joined_after w c.node c.port t.message t.rest j takes_at ready_at may
    unfolding joined_next
    next_is may = refl
