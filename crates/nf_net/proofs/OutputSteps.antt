-- Along a run all packets that were processed are answered as one instance that nothing moved answers them.
use Rattle.nf_net.proofs.Words.{◌≡◌, ◌≢◌, ℕ, zero, suc, ◌+◌, ◌≤◌, Bool, true, false, Option, Some, None, List, [], ◌∷◌, length, refl, sym, ap, ◌∙◌, subst}
use Rattle.nf_net.proofs.Words.{arith, if◌then◌else◌, ◌&&◌, ◌==◌, filter_map, nat_tests, Semantics, part, FullCell, InstanceState, instance_step, Msg, Note}
use Rattle.nf_net.proofs.Words.{Choice, inst_step, none_mine, done_u, New, Shared_on, packet_numbered, dones_in, node_step, is_of, outputs, processed_of}
use Rattle.nf_net.proofs.Words.{done-append, number, ran_in, is_sys, outline_instance, held_genuine, is_sharing, Given, place, S, A, shown, by_node, came_by}
use Rattle.nf_net.proofs.Words.{node_of, Scene, IsInstanceAt, AreShown, IsTaken, went_same, given, Unit, Mark, Setting, IsCourse, world_of}
use Rattle.std.specs.FinMap as finite
use Rattle.instance_worker.specs.Instance.{process_step, on_carry, on_fence}
use Rattle.proof_machines.proofs.net.Net as net
use Rattle.proof_machines.proofs.net.Readings as readings
use Rattle.proof_machines.proofs.net.Shares.{Old}
use Rattle.net_world.specs.Fold.{fold, outputs_noted as given_of}
use Rattle.proof_outlines.proofs.outline.InstanceOutline.{carry_follows, pass_follows, fence_follows}
use Rattle.nf_net.proofs.OutputLemmas.{numbers, Answered, answered_nothing, answered_more, answered_by, numbers_ran}
use Rattle.nf_net.proofs.AnsweredNotes.{live_of, kept_of, carry_answered, fence_answered, instance_none, switch_none, controller_none}
use Rattle.nf_net.proofs.FreshRecords.{fresh_live, fresh_shared}
use Rattle.nf_net.proofs.RunWords.{fold_is, log_keeps}

module _ {F R : Type 0} (setting : Setting F R) where
  open setting use {function as f, config as c, items}

  abbrev g : Given
  g = given setting

  -- all that a log notes as processed is answered as by one instance that nothing moved
  abbrev pub AreAnswered : List Note → Type 0
  AreAnswered log = Answered f c items (λ u. None) (dones_in log)

  -- what is kept of a unit after what a log notes
  abbrev so_far : List Note → Unit → Option R
  so_far log u = fold f c items None (processed_of f c items u log)

  -- what is kept of a unit is what the abstract network folds
  pub fold_same : (u : Unit) (log : List Note) (ds : List (ℕ × ℕ)) → ds ≡ by_node f g (dones_in log)
      → fold f c items None (processed_of f c items u log) ≡ readings.fold (S f g).F None (done_u (S f g) u ds)
  fold_same u log ds at =
      fold_is setting None (processed_of f c items u log)
      ∙ ap (readings.fold (S f g).F None) (sym (went_same setting u (dones_in log))) ∙ ap (λ d. readings.fold (S f g).F None (done_u (S f g) u d)) (sym at)

-- what an instance processes of a packet of a share
shared_ran : {F R : Type 0} (f : Semantics R) (i : InstanceState F R) (op : ℕ) (home : Bool) (cell : FullCell)
    → filter_map ran_in (on_carry f i (Mark.Shared op home) cell).notes ≡ number cell ∷ []
unfolding on_carry process_step
shared_ran f i op home cell = refl

module _ {F R : Type 0} (setting : Setting F R) (n : ℕ) (x : Scene F setting.function (g setting)) (are : AreShown setting.function (g setting) n x)
    (so : AreAnswered setting x.log) where
  open setting use {function as f, config as c, items}

  abbrev Now : List Note → Type 0
  Now notes = Answered f c items (so_far setting x.log) (dones_in notes)

  abbrev TakesIt : ℕ → ℕ → Msg → Type 0
  TakesIt k p m = IsTaken f (g setting) n x (record { node = k; port = p; message = m })

  nothing_done : (notes : List Note) → dones_in notes ≡ [] → Now notes
  nothing_done notes none = subst (λ ds. Answered f c items (so_far setting x.log) ds) (sym none) (answered_nothing f c items (so_far setting x.log))

  module _ (k : ℕ) (two : 2 ≤ k) (p : ℕ) where
    abbrev i : InstanceState F R
    i = x.nodes.instance k

    k0 : (k == 0) ≡ false
    k0 = grind (arith, nat_tests, two)

    k1 : (k == 1) ≡ false
    k1 = grind (arith, nat_tests, two)

    off : (p == 0) && (k == 0) ≡ false
    off = grind (arith, nat_tests, two)

    -- where an instance processes packets of a unit, its record is what is kept
    kept_is : (m : Msg) → TakesIt k p m → (a : net.Msg R) (notes : List Note) → shown f (g setting) m ≡ Some (Old a)
        → filter_map ran_in notes ≡ (inst_step (S f (g setting)) (outline_instance f c.site (packet_numbered items) i) a).ran → (u : Unit)
        → numbers f c items u (dones_in notes) ≢ [] → live_of i u ≡ so_far setting x.log u
    kept_is m t a notes seen ran u some =
        let at = are.instances k two t.receiver in
        let its : numbers f c items u (dones_in notes) ≡ none_mine (S f (g setting)) u (inst_step (S f (g setting)) (x.world.inst k) a).ran =
        numbers_ran f c items u notes
        ∙ ap (none_mine (S f (g setting)) u) (ran ∙ ap (λ y. (inst_step (S f (g setting)) y a).ran) at.outline_is) in
        ap (λ y. finite.get y.live u) at.outline_is
        ∙ fresh_live (S f (g setting)) (A f (g setting)) (is_sys f c.site (packet_numbered items)) u (is_sharing f c.site (packet_numbered items))
        x.world (came_by f (g setting) x.log u) are.every.global p k t.rest k0 k1 a (t.head off (Old a) seen) (λ none. some (its ∙ none))
        (are.every.unit u) ∙ sym (fold_same setting u x.log x.world.done are.done_is)

    fresh_at : (m : Msg) → TakesIt k p m → (a : net.Msg R) (notes : List Note) → shown f (g setting) m ≡ Some (Old a)
        → filter_map ran_in notes ≡ (inst_step (S f (g setting)) (outline_instance f c.site (packet_numbered items) i) a).ran
        → Answered f c items (live_of i) (dones_in notes) → Now notes
    fresh_at m t a notes seen ran ok = answered_by f c items (live_of i) (so_far setting x.log) (dones_in notes) ok (kept_is m t a notes seen ran)

    -- a packet of a share, by the record in the table that its mark names
    module _ (op : ℕ) (home : Bool) (cell : FullCell) (t : TakesIt k p (Msg.Carry (Mark.Shared op home) cell)) where
      abbrev at : IsInstanceAt f (g setting) k i x.world
      at = are.instances k two t.receiver

      table_is : (u : Unit) → kept_of i (Mark.Shared op home) u ≡ (S f (g setting)).B.at u (if home then (x.world.inst k).live else x.world.standby k)
      table_is u = by_home home
        where
          by_home : (b : Bool) → finite.get (part i.table b) u ≡ (S f (g setting)).B.at u (if b then (x.world.inst k).live else x.world.standby k)
          by_home true = ap (λ y. finite.get y.live u) at.outline_is
          by_home false = ap (λ r. finite.get r u) at.standby_is

      shared_is : (u : Unit) → numbers f c items u (dones_in (on_carry f i (Mark.Shared op home) cell).notes) ≢ []
          → kept_of i (Mark.Shared op home) u ≡ so_far setting x.log u
      shared_is u some =
          table_is u
          ∙ fresh_shared (S f (g setting)) (A f (g setting)) (is_sys f c.site (packet_numbered items)) u
          (is_sharing f c.site (packet_numbered items)) x.world (came_by f (g setting) x.log u) are.every.global p k t.rest k0 k1 op home (number cell)
          (t.head off (New (Shared_on op home (number cell))) refl) (mine_of (is_of f c items u (number cell)) refl) (are.every.unit u)
          ∙ sym (fold_same setting u x.log x.world.done are.done_is)
        where
          -- its packet alone is noted
          one : numbers f c items u (dones_in (on_carry f i (Mark.Shared op home) cell).notes)
              ≡ (if is_of f c items u (number cell) then number cell ∷ [] else [])
          one = numbers_ran f c items u (on_carry f i (Mark.Shared op home) cell).notes ∙ ap (none_mine (S f (g setting)) u) (shared_ran f i op home cell)

          mine_of : (b : Bool) → is_of f c items u (number cell) ≡ b → is_of f c items u (number cell) ≡ true
          mine_of true is_true = is_true
          mine_of false other = absurd (some (one ∙ ap (λ (b : Bool). if b then number cell ∷ [] else []) other))

      shared_answers : Now (on_carry f i (Mark.Shared op home) cell).notes
      shared_answers = answered_by f c items (kept_of i (Mark.Shared op home)) (so_far setting x.log)
          (dones_in (on_carry f i (Mark.Shared op home) cell).notes) (carry_answered f c items i (Mark.Shared op home) cell at.rules.at t.label.1) shared_is

    instance_answers : (m : Msg) → TakesIt k p m → Now (instance_step f i m).notes
    instance_answers (Msg.Carry Mark.Plain cell) t =
        let at = are.instances k two t.receiver in
        fresh_at (Msg.Carry Mark.Plain cell) t (net.Carry_on (number cell)) (on_carry f i Mark.Plain cell).notes refl (carry_follows f c.site
        (packet_numbered items) (place (g setting)) i cell at.rules t.label.1).ran (carry_answered f c items i Mark.Plain cell at.rules.at t.label.1)
    instance_answers (Msg.Carry (Mark.Pass op) cell) t =
        let at = are.instances k two t.receiver in
        fresh_at (Msg.Carry (Mark.Pass op) cell) t (net.Pass_on (number cell)) (on_carry f i (Mark.Pass op) cell).notes
        refl (pass_follows f c.site (packet_numbered items) (place (g setting)) i op cell at.rules t.label.1).ran
        (carry_answered f c items i (Mark.Pass op) cell at.rules.at t.label.1)
    instance_answers (Msg.Carry (Mark.Shared op home) cell) t = shared_answers op home cell t
    instance_answers (Msg.Fence op) t =
        let at = are.instances k two t.receiver in
        fresh_at (Msg.Fence op) t (net.Fence_on op) (on_fence f i op).notes refl (fence_follows f c.site (packet_numbered items) (place (g setting)) i
        op at.rules).ran (fence_answered f c items i op at.rules.at (held_genuine c.site (packet_numbered items) op i.rules at.rules.held))
    instance_answers m t = nothing_done (instance_step f i m).notes (instance_none f i m refl)

  -- a node's step, by which node it is
  node_answers : (k p : ℕ) (m : Msg) → TakesIt k p m → Now (node_step f (node_of x.nodes k) p m).notes
  node_answers zero p m t = nothing_done (node_step f (node_of x.nodes 0) p m).notes (switch_none x.nodes.switch m)
  node_answers (suc zero) p m t = nothing_done (node_step f (node_of x.nodes 1) p m).notes (controller_none x.nodes.controller p m)
  node_answers (suc (suc i)) p m t = instance_answers (suc (suc i)) (omega arith) p m t

module _ {F R : Type 0} (setting : Setting F R) where
  open setting use {function as f, config as c, items}

  -- every run, complete or not
  pub run_answered : (cs : List Choice) → IsCourse setting cs → AreAnswered setting (world_of setting cs).log
  run_answered = log_keeps setting (AreAnswered setting) (answered_nothing f c items (λ u. None)) (λ ds ok d s h.
      let log = (world_of setting ds).log in
      let notes = (node_step f (node_of s.runs.joined.nodes d.node) d.port s.taking.message).notes in
      subst (λ es. Answered f c items (λ u. None) es) (sym (done-append log notes)) (answered_more f c items (dones_in log) (dones_in notes) h
      (node_answers setting (length c.names + 2) _ s.runs.joined.shown_is h d.node d.port s.taking.message s.taken)))

  pub outputs_run : (cs : List Choice) → IsCourse setting cs → (unit : Unit)
      → given_of f c items unit (world_of setting cs).log ≡ outputs f c items None (processed_of f c items unit (world_of setting cs).log)
  outputs_run cs runs unit = (run_answered cs runs).same unit
