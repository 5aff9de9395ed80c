-- The nodes of an update's world: a switch, a controller and two instances, as at the start.
use Rattle.run_headline.proofs.Words.{◌≡◌, ◌≢◌, ℕ, zero, suc, ◌<◌, true, false, List, [], ◌∷◌, length, get_or, refl, sym, ap, ◌∙◌, arith, ◌==◌, Global}
use Rattle.run_headline.proofs.Words.{Decides-eqb, Semantics, InstanceState, Choice, Network, IsRun, run, world_next, run_induction, taken_outcome, TwoMsg}
use Rattle.run_headline.proofs.Words.{TwoNote, TwoNode, UpdateJob}
use Rattle.actor_net.proofs.OpeningWorlds.{opening_world}
use Rattle.actor_net.proofs.RunInduction.{NextChoice}
use Rattle.two_phase.specs.declared.node.TwoNode.TheVariants.{Switch, Ctrl as Controller, Instance}
use Rattle.two_phase.specs.Parts.{SwitchState, ControllerState}
use Rattle.two_phase.specs.Start.{first_nodes, input_at, two_start}
use Rattle.two_phase.specs.Tables.{node_ready, node_step}

-- which part the node with a number is
abbrev kind_at : ℕ → ℕ
kind_at zero = 0
kind_at (suc zero) = 1
kind_at (suc (suc k)) = 2

module _ {F R : Type 0} where
  -- which part a node is
  abbrev kind : TwoNode F R → ℕ
  kind (Switch s) = 0
  kind (Controller c) = 1
  kind (Instance i) = 2

  abbrev Kinds : Network (TwoNode F R) TwoMsg TwoNote → Type 0
  Kinds w = (k : ℕ) → k < 4 → (d : TwoNode F R) → kind (get_or w.nodes k d) ≡ kind_at k

  same_kind : (f : Semantics R) (x : TwoNode F R) (port : ℕ) (m : TwoMsg) → kind (node_step f x port m).node ≡ kind x
  same_kind f (Switch s) port m = refl
  same_kind f (Controller c) port m = refl
  same_kind f (Instance i) port m = refl

  -- such nodes
  pub record AreFour (nodes : List (TwoNode F R)) : Type 0 where
    pub switch : SwitchState
    pub controller : ControllerState
    pub source : InstanceState F R
    pub destination : InstanceState F R
    pub are : nodes ≡ Switch switch ∷ Controller controller ∷ Instance source ∷ Instance destination ∷ []

  a_switch : (x : TwoNode F R) → kind x ≡ 0 → (s : SwitchState) × (x ≡ Switch s)
  a_switch (Switch s) e = (s, refl)
  a_switch (Controller c) e = absurd (omega (arith, e))
  a_switch (Instance i) e = absurd (omega (arith, e))

  a_controller : (x : TwoNode F R) → kind x ≡ 1 → (c : ControllerState) × (x ≡ Controller c)
  a_controller (Switch s) e = absurd (omega (arith, e))
  a_controller (Controller c) e = (c, refl)
  a_controller (Instance i) e = absurd (omega (arith, e))

  an_instance : (x : TwoNode F R) → kind x ≡ 2 → (i : InstanceState F R) × (x ≡ Instance i)
  an_instance (Switch s) e = absurd (omega (arith, e))
  an_instance (Controller c) e = absurd (omega (arith, e))
  an_instance (Instance i) e = (i, refl)

  four_from : (nodes : List (TwoNode F R)) → length nodes ≡ 4 → ((k : ℕ) → k < 4 → (d : TwoNode F R) → kind (get_or nodes k d) ≡ kind_at k) → AreFour nodes
  four_from [] long kinds = absurd (omega (arith, long))
  four_from (a ∷ []) long kinds = absurd (omega (arith, long))
  four_from (a ∷ b ∷ []) long kinds = absurd (omega (arith, long))
  four_from (a ∷ b ∷ c ∷ []) long kinds = absurd (omega (arith, long))
  four_from (a ∷ b ∷ c ∷ d ∷ e ∷ nodes) long kinds = absurd (omega (arith, long))
  four_from (a ∷ b ∷ c ∷ d ∷ []) long kinds =
      let s = a_switch a (kinds 0 (omega arith) a) in
      let k = a_controller b (kinds 1 (omega arith) a) in
      let i = an_instance c (kinds 2 (omega arith) a) in
      let j = an_instance d (kinds 3 (omega arith) a) in
      record {
        switch = s.0;
        controller = k.0;
        source = i.0;
        destination = j.0;
        are = λ t. s.1 t ∷ k.1 t ∷ i.1 t ∷ j.1 t ∷ [];
      }

module _ (F : Type 0) {R : Type 0} (f : Semantics R) (alloc : Global) (job : UpdateJob) where
  abbrev first : Network (TwoNode F R) TwoMsg TwoNote
  first = two_start alloc job

  next_kinds : (cs : List Choice) (w : Network (TwoNode F R) TwoMsg TwoNote) (c : Choice) → NextChoice node_ready (node_step f) 4 first cs w c → Kinds w
      → Kinds (world_next (node_step f) w c)
  next_kinds cs w c next kinds k low d =
      let t = next.taking in
      let left = taken_outcome (node_step f) 4 w c.node c.port t.node t.message t.rest t.takes in
      elim (k == c.node) as (λ b. (k == c.node) ≡ b → kind (get_or (world_next (node_step f) w c).nodes k d) ≡ kind_at k) [
        | true ↦ λ on.
            let same : k ≡ c.node = (Decides-eqb k c.node).0 on in
            ap (λ i. kind (get_or (world_next (node_step f) w c).nodes i d)) same ∙ ap kind (left.own d) ∙ same_kind f t.node c.port t.message
            ∙ ap kind (sym (t.takes.node_is d)) ∙ ap (λ i. kind (get_or w.nodes i d)) (sym same) ∙ kinds k low d
        | false ↦ λ off.
            let apart : k ≢ c.node = λ same. (let on = (Decides-eqb k c.node).1 same in let both : false ≡ true = sym off ∙ on in cc) in
            ap kind (left.others k d apart) ∙ kinds k low d
      ] refl

  first_kinds : Kinds first
  first_kinds zero low d = refl
  first_kinds (suc zero) low d = refl
  first_kinds (suc (suc zero)) low d = refl
  first_kinds (suc (suc (suc zero))) low d = refl
  first_kinds (suc (suc (suc (suc k)))) low d = absurd (omega (arith, low))

  -- a world of a run has them
  record Reached (w : Network (TwoNode F R) TwoMsg TwoNote) : Type 0 where
    count : length w.nodes ≡ 4
    kinds : Kinds w

  run_reached : (cs : List Choice) → IsRun node_ready (node_step f) cs first → Reached (run (node_step f) cs first)
  run_reached cs is =
      run_induction node_ready (node_step f) 4 (λ cs w. Reached w) first
      (λ cs w c next r. (let t = next.taking in record {
        count = (taken_outcome (node_step f) 4 w c.node c.port t.node t.message t.rest t.takes).count;
        kinds = next_kinds cs w c next r.kinds;
      }))
      (opening_world (first_nodes alloc job) (input_at job.at job.packets) (omega arith) (omega arith)) refl
      (record { count = refl; kinds = first_kinds }) cs is

  pub four_nodes : (cs : List Choice) → IsRun node_ready (node_step f) cs first → AreFour (run (node_step f) cs first).nodes
  four_nodes cs is = let r = run_reached cs is in four_from (run (node_step f) cs first).nodes r.count r.kinds
