-- The records of a copy's chunks on their way to the destination are folds of fronts of what was done: they were, where they came to the
-- controller, and so they stay.
use Rattle.proof_outlines.proofs.Words.{◌≡◌, ℕ, zero, suc, ◌+◌, ◌<◌, true, false, Option, Some, None, List, [], ◌∷◌, ◌++◌, length, refl, sym, ap, ◌∙◌, subst}
use Rattle.proof_outlines.proofs.Words.{arith, ◌&&◌, ◌==◌, nat_tests, each_map, Filter, Chunk, Semantics, Msg, Note, Operation, Move, Copy, Share}
use Rattle.proof_outlines.proofs.Words.{controller_step, Choice, Network, Stepped, is_input, queue_at, world_next, at, Takes, Taking, Each, OnLinks, EachSent}
use Rattle.proof_outlines.proofs.Words.{on_links_after, New, ShareMsg, EachNew, ran_of, Node, node_step, node_ready, dones_in, done-append, either_way, Unit}
use Rattle.std.specs.FinMap as finite
use Rattle.copy_share.specs.Copy as copy
use Rattle.proof_machines.proofs.whole.Fronts.{MsgFront}
use Rattle.proof_outlines.proofs.joined.Words.{entries, is_sys, Given, S, A, by_node, count, shown, node_of, Label, Scene, AreShown, IsTaken, Leads, Joined}
use Rattle.proof_outlines.proofs.joined.LogLemmas.{by_node-append}
use Rattle.proof_outlines.proofs.joined.CopyAnswers.{is_uncopied}
use Rattle.proof_outlines.proofs.joined.CopySends.{TurnSo, controller_sent}
use Rattle.proof_outlines.proofs.joined.StandbyChunks.{AreFronted, AreUnshared, MayStandBy, none_fronted, fronted_later}
use Rattle.proof_outlines.proofs.joined.JoinedSteps.{NodeLeads, scene, is_taken, step_leads, joined_after, after_world, takes_at, ready_at, joined_next}
use Rattle.proof_outlines.proofs.joined.JoinedSteps.{next_is}

-- the chunks that a message brings to stand by
abbrev pub kept_of : Msg → List Chunk
kept_of (Msg.Standby op chunks) = chunks
kept_of message = []

-- what holds of each message that is sent holds of each that a node sends
pub each_sent : (P : Msg → Type 0) (k : ℕ) (sends : List (ℕ × Msg)) → Each (λ x. P x.1) sends → EachSent (λ s r m. P m) k sends
each_sent P k [] h = tt
each_sent P k (x ∷ xs) h = (h.0, each_sent P k xs h.1)

module _ {F R : Type 0} (f : Semantics R) (g : Given) (n : ℕ) (x : Scene F f g) (k p : ℕ) (m : Msg) (are : AreShown f g n x)
    (is : IsTaken f g n x (record { node = k; port = p; message = m })) where
  -- what was done goes on
  done_more : (did : Stepped (Node F R) Msg Note) (l : Leads f g n x (record { node = k; port = p; message = m }) did)
      → l.world.done ≡ x.world.done ++ by_node f g (dones_in did.notes)
  done_more did l = l.shown_is.done_is ∙ ap (by_node f g) (done-append x.log did.notes) ∙ by_node-append f g (dones_in x.log) (dones_in did.notes)
      ∙ ap (λ ds. ds ++ by_node f g (dones_in did.notes)) (sym are.done_is)

  pub still_fronted : (did : Stepped (Node F R) Msg Note) (l : Leads f g n x (record { node = k; port = p; message = m }) did) (chunks : List Chunk)
      → AreFronted f g x.world chunks → AreFronted f g l.world chunks
  still_fronted did l chunks h = fronted_later f g x.world l.world chunks (by_node f g (dones_in did.notes)) (done_more did l) h

  -- of a message of a share
  head_front : (p == 0) && (k == 0) ≡ false → (a : ShareMsg R) → shown f g m ≡ Some (New a) → (u : Unit)
      → MsgFront (S f g) (A f g) (is_sys f g.site g.packet) u (ran_of (S f g) (A f g) u x.world.done) a
  head_front off a shown_as u = (subst (λ ms. EachNew (MsgFront (S f g) (A f g) (is_sys f g.site g.packet) u (ran_of (S f g) (A f g) u x.world.done)) ms)
      (is.head off (New a) shown_as) ((are.every.fronts u).links p k off)).0

-- nothing but the controller sends chunks that are to stand by
module _ {R : Type 0} (f : Semantics R) (g : Given) where
  none_kept : (P : List Chunk → Type 0) → P [] → (s r : ℕ) → (s == 1) ≡ false → (m : Msg) → Label f g s r m → P (kept_of m)
  none_kept P nothing s r off (Msg.Standby op chunks) label =
      let one = label.0.0 in let never : (s == 1) ≡ true = grind (arith, nat_tests, one) in let bad : true ≡ false = sym never ∙ off in cc
  none_kept P nothing s r off m label = nothing

  pub others_keep : (P : List Chunk → Type 0) → P [] → (k : ℕ) → (k == 1) ≡ false → (sends : List (ℕ × Msg)) → EachSent (Label f g) k sends
      → EachSent (λ s r m. P (kept_of m)) k sends
  others_keep P nothing k off [] h = tt
  others_keep P nothing k off (x ∷ xs) h = (none_kept P nothing k x.0 off x.1 h.0, others_keep P nothing k off xs h.1)

module _ {F R : Type 0} (f : Semantics R) (g : Given) (n : ℕ) (x : Scene F f g) (p : ℕ) (are : AreShown f g n x) where
  abbrev IsTakenHere : Msg → Type 0
  IsTakenHere m = IsTaken f g n x (record { node = 1; port = p; message = m })

  -- what comes to the controller is such
  no_input : (p == 0) && (1 == 0) ≡ false
  no_input = elim (p == 0) as (λ b. b && false ≡ false) [ true ↦ refl | false ↦ refl ]

  comes_fronted : (op : ℕ) (chunks : List Chunk) → IsTakenHere (Msg.Chunks op chunks) → AreFronted f g x.world chunks
  comes_fronted op chunks is u = head_front f g n x 1 p (Msg.Chunks op chunks) are is no_input (ShareMsg.Chunks op (entries f chunks)) refl u

  -- and so is what it sends on
  module _ (m : Msg) (is : IsTakenHere m) (l : Leads f g n x (record { node = 1; port = p; message = m }) (node_step f (node_of x.nodes 1) p m)) where
    abbrev P : Msg → Type 0
    P y = AreFronted f g l.world (kept_of y)

    others : (y : Msg) → is_uncopied y ≡ true → P y
    others (Msg.Standby op chunks) e = cc
    others y e = none_fronted f g l.world

    handed_on : (op k : ℕ) (chunks : List Chunk) → m ≡ Msg.Chunks k chunks → P (Msg.Standby op chunks)
    handed_on op k chunks e =
        still_fronted f g n x 1 p m are is (node_step f (node_of x.nodes 1) p m) l chunks (comes_fronted k chunks (subst IsTakenHere e is))

    turns : (o : Option Operation) → TurnSo P others o m
    turns None = tt
    turns (Some (Move mv)) = tt
    turns (Some (Copy y)) = (handed_on y.plan.op, λ k chunk e. none_fronted f g l.world)
    turns (Some (Share y)) = none_fronted f g l.world

    begins : (op : ℕ) (filter : Option Filter) → P (copy.asks op filter)
    begins op None = none_fronted f g l.world
    begins op (Some filter) = none_fronted f g l.world

    controller_keeps : EachSent (λ s r y. AreFronted f g l.world (kept_of y)) 1 (controller_step x.nodes.controller p m).sends
    controller_keeps = each_sent P 1 (controller_step x.nodes.controller p m).sends (controller_sent P others x.nodes.controller p m
        (λ op e. turns (finite.get x.nodes.controller.operations op)) (λ k source destination filter e is_copy. begins k.op filter))

  -- of any node
  pub node_keeps : (k : ℕ) (m : Msg) → IsTaken f g n x (record { node = k; port = p; message = m })
      → (l : Leads f g n x (record { node = k; port = p; message = m }) (node_step f (node_of x.nodes k) p m))
      → EachSent (λ s r y. AreFronted f g l.world (kept_of y)) k (node_step f (node_of x.nodes k) p m).sends
  node_keeps zero m is l = others_keep f g (AreFronted f g l.world) (none_fronted f g l.world) 0 refl (node_step f (node_of x.nodes 0) p m).sends l.labels
  node_keeps (suc zero) m is l = controller_keeps m is l
  node_keeps (suc (suc j)) m is l = others_keep f g (AreFronted f g l.world) (none_fronted f g l.world) (suc (suc j))
      (let off : (suc (suc j) == 1) ≡ false = grind (arith, nat_tests) in off) (node_step f (node_of x.nodes (suc (suc j))) p m).sends l.labels

-- Along a run.
module _ {F R : Type 0} (f : Semantics R) (g : Given) (n : ℕ) where
  -- what is to stand by is such, on all links
  pub record AreKeptFronts (w : Network (Node F R) Msg Note) (j : Joined f g n w) : Type 0 where
    pub each : OnLinks (λ s r m. AreFronted f g j.world (kept_of m)) w

  -- at the start no chunks are on their way
  pub no_kept_fronts : (w : Network (Node F R) Msg Note) (j : Joined f g n w)
      → ((s r : ℕ) → s < length w.nodes → r < length w.nodes → (s == 1) ≡ true → queue_at w (at r s) ≡ []) → AreKeptFronts w j
  no_kept_fronts w j empty = record {
    each = λ s r hs hr. either_way (s == 1) (λ one. subst (λ ms. Each (λ m. AreFronted f g j.world (kept_of m)) ms) (sym (empty s r hs hr one)) tt)
        (λ off. all_none s r off (queue_at w (at r s)) (j.labels s r hs hr));
  }
    where
      all_none : (s r : ℕ) → (s == 1) ≡ false → (ms : List Msg) → Each (Label f g s r) ms → Each (λ m. AreFronted f g j.world (kept_of m)) ms
      all_none s r off [] h = tt
      all_none s r off (m ∷ ms) h = (none_kept f g (AreFronted f g j.world) (none_fronted f g j.world) s r off m h.0, all_none s r off ms h.1)

module _ {F R : Type 0} (f : Semantics R) (g : Given) (n : ℕ) (count_is : n ≡ count f g + 2) (May : Scene F f g → Msg → Type 0)
    (leads : NodeLeads f g n May) where
  module _ (w : Network (Node F R) Msg Note) (k p : ℕ) (m : Msg) (rest : List Msg) (j : Joined f g n w) (takes : Takes (node_step f) n w k p
      (node_of j.nodes k) m rest) (was_ready : is_input (at k p) ≡ true → node_ready (node_of j.nodes k) m ≡ true) where
    -- the message that is taken
    pub taken_front : AreKeptFronts f g n w j → AreFronted f g j.world (kept_of m)
    taken_front h = (subst (λ ms. Each (λ y. AreFronted f g j.world (kept_of y)) ms) takes.waits
        (h.each p k (let c = takes.count in rw c takes.sender) (let c = takes.count in rw c takes.receiver))).0

    pub kept_fronts_after : AreKeptFronts f g n w j → (may : May (scene f g n count_is May leads w j) m)
        → AreKeptFronts f g n (world_next (node_step f) w (at k p)) (joined_after f g n count_is May leads w k p m rest j takes was_ready may)
    kept_fronts_after h may =
        let x = scene f g n count_is May leads w j in
        let is = is_taken f g n count_is May leads w k p m rest j takes was_ready in
        let l = step_leads f g n count_is May leads w k p m rest j takes was_ready may in
        record {
          each = subst (λ v. OnLinks (λ s r y. AreFronted f g v (kept_of y)) (world_next (node_step f) w (at k p)))
              (sym (after_world f g n count_is May leads w k p m rest j takes was_ready may))
              (on_links_after (λ s r y. AreFronted f g l.world (kept_of y)) (node_step f) n w k p (node_of j.nodes k) m rest takes
              (λ s r hs hr. each_map (λ y. still_fronted f g n x k p m j.shown_is is (node_step f (node_of j.nodes k) p m) l (kept_of y))
              (queue_at w (at r s)) (h.each s r hs hr))
              (node_keeps f g n x p j.shown_is k m is l));
        }

  -- after a choice of a run
  module _ (w : Network (Node F R) Msg Note) (c : Choice) (t : Taking node_ready (node_step f) n w c) (j : Joined f g n w) where
    pub kept_fronts_next : AreKeptFronts f g n w j → (may : May (scene f g n count_is May leads w j) t.message)
        → AreKeptFronts f g n (world_next (node_step f) w c) (joined_next f g n count_is May leads w c t j may)
    kept_fronts_next h may = subst (λ after. AreKeptFronts f g n (world_next (node_step f) w c) after) (sym (next_is f g n count_is May leads w c t j may))
        (kept_fronts_after w c.node c.port t.message t.rest j (takes_at f g n count_is May leads w c t j) (ready_at f g n count_is May leads w c t j) h may)

    -- chunks of no unit that a share takes may then stand by
    pub may_stand_by : AreKeptFronts f g n w j → (op : ℕ) (chunks : List Chunk) → t.message ≡ Msg.Standby op chunks → AreUnshared f g j.world chunks
        → MayStandBy f g j.world chunks
    may_stand_by h op chunks is unshared = record {
      fronts = subst (λ m. AreFronted f g j.world (kept_of m)) is
          (taken_front w c.node c.port t.message t.rest j (takes_at f g n count_is May leads w c t j) (ready_at f g n count_is May leads w c t j) h);
      unshared = unshared;
    }
