-- What a run keeps beside its worlds for copies: chunks that are to stand by are of fronts and of the units of their order's filter, and no two
-- open operations have filters that meet. So where the copy is open, its chunks may stand by.
use Rattle.proof_outlines.proofs.Words.{◌≡◌, ℕ, zero, suc, ◌+◌, ◌<◌, true, false, Option, Some, None, List, [], length, refl, sym, ap, ◌∙◌, subst, arith, ◌&&◌}
use Rattle.proof_outlines.proofs.Words.{◌==◌, nat_tests, Filter, Chunk, Semantics, Msg, Note, CopyState, Copy, controller_step, Choice, Network, is_input}
use Rattle.proof_outlines.proofs.Words.{queue_at, world_next, at, Takes, Taking, Each, OnLinks, on_links_after, Node, node_step, node_ready, FunctionLaws}
use Rattle.std.specs.FinMap as finite
use Rattle.proof_outlines.proofs.joined.StandbyChunks.{AreUnshared, MayStandBy}
use Rattle.proof_outlines.proofs.joined.StandbyFronts.{AreKeptFronts, no_kept_fronts, kept_fronts_next, may_stand_by}
use Rattle.proof_outlines.proofs.joined.OperationsApart.{AllApart, controller_apart}
use Rattle.proof_outlines.proofs.joined.CopiesUnshared.{copy_unshared}
use Rattle.proof_outlines.proofs.joined.CopyTokens.{same_controller}
use Rattle.proof_outlines.proofs.joined.CopyFilters.{AreWithinIf, IsFiltered, of_input, node_filtered}
use Rattle.proof_outlines.proofs.joined.Words.{Given, count, Nodes, node_of, Scene, AreShown, Leads, Joined}
use Rattle.proof_outlines.proofs.joined.JoinedSteps.{NodeLeads, scene, is_taken, step_leads, joined_after, after_nodes, takes_at, ready_at, joined_next}
use Rattle.proof_outlines.proofs.joined.JoinedSteps.{next_is}

module _ {F R : Type 0} (f : Semantics R) (g : Given) (n : ℕ) where
  pub record AreKept (w : Network (Node F R) Msg Note) (j : Joined f g n w) : Type 0 where
    pub fronts : AreKeptFronts f g n w j
    pub filtered : OnLinks (λ s r m. IsFiltered f g m) w
    pub apart : AllApart j.nodes.controller.operations

  -- at the start nothing stands on a link but the input
  pub kept_at_start : (w : Network (Node F R) Msg Note) (j : Joined f g n w)
      → ((s r : ℕ) → s < length w.nodes → r < length w.nodes → (s == 0) && (r == 0) ≡ false → queue_at w (at r s) ≡ [])
      → AllApart j.nodes.controller.operations → AreKept w j
  kept_at_start w j empty apart = record {
    fronts = no_kept_fronts f g n w j (λ s r hs hr one. empty s r hs hr (not_input s r one));
    filtered = λ s r hs hr. by_link s r hs hr;
    apart = apart;
  }
    where
      not_input : (s r : ℕ) → (s == 1) ≡ true → (s == 0) && (r == 0) ≡ false
      not_input s r one = let off : (s == 0) ≡ false = grind (arith, nat_tests, one) in rw off refl

      by_link : (s r : ℕ) → s < length w.nodes → r < length w.nodes → Each (IsFiltered f g) (queue_at w (at r s))
      by_link zero r hs hr = of_input f g r (queue_at w (at r 0)) (j.labels 0 r hs hr)
      by_link (suc s) r hs hr =
          subst (λ ms. Each (IsFiltered f g) ms) (sym (empty (suc s) r hs hr (let off : (suc s == 0) ≡ false = grind (arith, nat_tests) in rw off refl))) tt

  -- a copy that is open in a world has chunks of no unit of a share
  pub filtered_unshared : (x : Scene F f g) → AreShown f g n x → AllApart x.nodes.controller.operations → (op : ℕ) (chunks : List Chunk) (y : CopyState)
      → finite.get x.nodes.controller.operations op ≡ Some (Copy y) → IsFiltered f g (Msg.Standby op chunks) → AreUnshared f g x.world chunks
  filtered_unshared x are apart op chunks y there its =
      let is = are.controller.copies op y there in
      by_filter y.plan.filter refl (its is.plan.source is.plan.destination y.plan.filter (ap g.orders (sym is.op_is) ∙ is.plan.order_is))
    where
      by_filter : (o : Option Filter) → y.plan.filter ≡ o → AreWithinIf f g o chunks → AreUnshared f g x.world chunks
      by_filter None e within = absurd within
      by_filter (Some filter) e within = copy_unshared f g n x are apart op y filter chunks there e within

module _ {F R : Type 0} (f : Semantics R) (g : Given) (n : ℕ) where
  -- the controller after a step
  apart_after : (x : Scene F f g) (k p : ℕ) (m : Msg) (l : Leads f g n x (record { node = k; port = p; message = m }) (node_step f (node_of x.nodes k) p m))
      → AllApart x.nodes.controller.operations → AllApart l.nodes.controller.operations
  apart_after x zero p m l apart =
      subst (λ c. AllApart c.operations) (sym (same_controller {F = F} {R = R} l.nodes.controller x.nodes.controller (l.others 1 (λ e. cc)))) apart
  apart_after x (suc zero) p m l apart = subst (λ c. AllApart c.operations) (same_controller {F = F} {R = R} (controller_step x.nodes.controller p m).node
      l.nodes.controller l.own) (controller_apart x.nodes.controller p m apart)
  apart_after x (suc (suc i)) p m l apart =
      subst (λ c. AllApart c.operations) (sym (same_controller {F = F} {R = R} l.nodes.controller x.nodes.controller (l.others 1 (λ e. cc)))) apart

module _ {F R : Type 0} (f : Semantics R) (laws : FunctionLaws f) (g : Given) (n : ℕ) (count_is : n ≡ count f g + 2) (May : Scene F f g → Msg → Type 0)
    (leads : NodeLeads f g n May) where
  module _ (w : Network (Node F R) Msg Note) (k p : ℕ) (m : Msg) (rest : List Msg) (j : Joined f g n w) (takes : Takes (node_step f) n w k p
      (node_of j.nodes k) m rest) (was_ready : is_input (at k p) ≡ true → node_ready (node_of j.nodes k) m ≡ true) (h : AreKept f g n w j) where
    -- what is known of the message that is taken
    taken_filtered : IsFiltered f g m
    taken_filtered = (subst (λ ms. Each (IsFiltered f g) ms) takes.waits
        (h.filtered p k (let c = takes.count in rw c takes.sender) (let c = takes.count in rw c takes.receiver))).0

    filtered_after : May (scene f g n count_is May leads w j) m → OnLinks (λ s r y. IsFiltered f g y) (world_next (node_step f) w (at k p))
    filtered_after may =
        let x = scene f g n count_is May leads w j in
        let is = is_taken f g n count_is May leads w k p m rest j takes was_ready in
        let l = step_leads f g n count_is May leads w k p m rest j takes was_ready may in
        on_links_after (λ s r y. IsFiltered f g y) (node_step f) n w k p (node_of j.nodes k) m rest takes h.filtered
        (node_filtered f laws g n x p j.shown_is k m is l.labels taken_filtered)

    operations_after : (may : May (scene f g n count_is May leads w j) m)
        → AllApart (joined_after f g n count_is May leads w k p m rest j takes was_ready may).nodes.controller.operations
    operations_after may =
        let l = step_leads f g n count_is May leads w k p m rest j takes was_ready may in
        subst (λ (nodes : Nodes F R). AllApart nodes.controller.operations) (sym (after_nodes f g n count_is May leads w k p m rest j takes was_ready may))
        (apart_after f g n (scene f g n count_is May leads w j) k p m l h.apart)

  -- after a choice of a run
  module _ (w : Network (Node F R) Msg Note) (c : Choice) (t : Taking node_ready (node_step f) n w c) (j : Joined f g n w) (h : AreKept f g n w j) where
    pub kept_next : (may : May (scene f g n count_is May leads w j) t.message)
        → AreKept f g n (world_next (node_step f) w c) (joined_next f g n count_is May leads w c t j may)
    kept_next may = record {
      fronts = kept_fronts_next f g n count_is May leads w c t j h.fronts may;
      filtered = filtered_after w c.node c.port t.message t.rest j (takes_at f g n count_is May leads w c t j) (ready_at f g n count_is May leads w c t j) h
          may;
      apart = subst (λ (after : Joined f g n (world_next (node_step f) w c)). AllApart after.nodes.controller.operations)
          (sym (next_is f g n count_is May leads w c t j may)) (operations_after w c.node c.port t.message t.rest j
          (takes_at f g n count_is May leads w c t j) (ready_at f g n count_is May leads w c t j) h may);
    }

    -- the chunks of an open copy may stand by
    pub open_may_stand : (op : ℕ) (chunks : List Chunk) → t.message ≡ Msg.Standby op chunks → (y : CopyState)
        → finite.get j.nodes.controller.operations op ≡ Some (Copy y) → MayStandBy f g j.world chunks
    open_may_stand op chunks is y there = may_stand_by f g n count_is May leads w c t j h.fronts op chunks is
        (filtered_unshared f g n (scene f g n count_is May leads w j) j.shown_is h.apart op chunks y there (subst (IsFiltered f g) is
        (taken_filtered w c.node c.port t.message t.rest j (takes_at f g n count_is May leads w c t j) (ready_at f g n count_is May leads w c t j) h)))
