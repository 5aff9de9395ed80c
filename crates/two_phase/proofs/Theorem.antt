-- The theorem of a two-phase update: what every run from the start keeps, and that a schedule's run never stops short.
use Rattle.two_phase.proofs.Words.{◌≡◌, ◌<◌, ◌⊎◌, inl, inr, ℕ, true, Some, Ok, Err, Result, List, [], ◌∷◌, length, sym, ap, subst, ◌∙◌, arith, slice_get}
use Rattle.two_phase.proofs.Words.{Global, false≢true, FunctionLaws, Semantics, Choice, Network, IsRun, is_done, is_enabled, run, TwoMsg, TwoNote, TwoNode}
use Rattle.two_phase.proofs.Words.{SwitchState, node_step, node_ready, node_ended, UpdateJob, IsUpdateJob, two_start, Published, switch_in}
use Rattle.std.proofs.Common.{◌≢◌}
use Rattle.std.specs.Prelude.{IfOk}
use Rattle.actor_net.specs.declared.replays.ReplayFault.{ReplayFault}
use Rattle.actor_net.specs.declared.replays.ReplayFault.TheVariants.{NoMemory}
use Rattle.actor_net.specs.declared.schedule.Schedule.{Schedule}
use Rattle.actor_net.specs.declared.schedule.TheConstants.{MOST_CHOICES}
use Rattle.actor_net.specs.Replays.{replay_of}
use Rattle.actor_net.specs.Schedules.{StopsShort, enabled_choices, scheduled}
use Rattle.actor_net.proofs.ReplayLaws.{replayed_ok}
use Rattle.actor_net.proofs.ScheduleLaws.{none_enabled, scheduled_is_run}
use Rattle.two_phase.proofs.RealRuns.{run_shown}
use Rattle.two_phase.proofs.RealPromises.{in_words}

module _ (F : Type 0) {R : Type 0} (f : Semantics R) (laws : FunctionLaws f) (alloc : Global) (job : UpdateJob) (is : IsUpdateJob f.kind job) where
  abbrev pub Real : Type 0
  Real = Network (TwoNode F R) TwoMsg TwoNote

  abbrev pub first : Real
  first = two_start alloc job

  pub published : (cs : List Choice) → IsRun node_ready (node_step f) cs first → Published f job cs (run (node_step f) cs first)
  published cs is_run = in_words F f laws alloc job is cs (run (node_step f) cs first) (run_shown F f laws alloc job is cs is_run)

  -- the choices that are replayed to their end are a run
  pub replay_published : (cs : List Choice) (w : Real) (result : Result Real ReplayFault) → w ≡ first
      → (result ≢ Err NoMemory → result ≡ replay_of node_ready (node_step f) cs w) → IfOk result (λ reached. Published f job cs reached)
  replay_published cs w (Err e) start h = tt
  replay_published cs w (Ok reached) start h =
      let ok = replayed_ok node_ready (node_step f) cs w reached (sym (h (λ bad. cc))) in
      let is_run : IsRun node_ready (node_step f) cs first = subst (λ v. IsRun node_ready (node_step f) cs v) start ok.0 in
      let there : reached ≡ run (node_step f) cs first = ok.1 ∙ ap (run (node_step f) cs) start in
      subst (Published f job cs) (sym there) (published cs is_run)

  -- the choices of a schedule
  abbrev chosen : Schedule → Real → List Choice
  chosen schedule w = scheduled node_ready node_ended (node_step f) MOST_CHOICES schedule w

  pub same_choices : {E : Type 0} (schedule : Schedule) (result : Result (Real × List Choice) E) (w : Real) → w ≡ first
      → IfOk result (λ r. r.1 ≡ chosen schedule w) → IfOk result (λ r. r.1 ≡ chosen schedule first)
  same_choices schedule (Err e) w start a = tt
  same_choices schedule (Ok r) w start a = a ∙ ap (chosen schedule) start

  pub same_world : {E : Type 0} (result : Result (Real × List Choice) E) (w : Real) → w ≡ first → IfOk result (λ r. r.0 ≡ run (node_step f) r.1 w)
      → IfOk result (λ r. r.0 ≡ run (node_step f) r.1 first)
  same_world (Err e) w start there = tt
  same_world (Ok r) w start there = there ∙ ap (run (node_step f) r.1) start

  pub simulated : {E : Type 0} (result : Result (Real × List Choice) E) (w : Real) → w ≡ first → IfOk result (λ r. r.0 ≡ run (node_step f) r.1 w)
      → IfOk result (λ r. IsRun node_ready (node_step f) r.1 w) → IfOk result (λ r. Published f job r.1 r.0)
  simulated (Err e) w start there is_run = tt
  simulated (Ok r) w start there is_run =
      let runs : IsRun node_ready (node_step f) r.1 first = subst (λ v. IsRun node_ready (node_step f) r.1 v) start is_run in
      subst (Published f job r.1) (sym (there ∙ ap (run (node_step f) r.1) start)) (published r.1 runs)

  some_nodes : (ws : List (TwoNode F R)) (s : SwitchState) → switch_in (slice_get ws 0) ≡ Some s → 0 < length ws
  some_nodes [] s e = cc
  some_nodes (w ∷ ws) s e = omega arith

  -- no schedule stops before the end
  never_short : (schedule : Schedule) → StopsShort node_ready node_ended (run (node_step f) (chosen schedule first) first) (length (chosen schedule first)) → ⊥
  never_short schedule short = by short.stuck
    where
      there : Real
      there = run (node_step f) (chosen schedule first) first

      keeps : Published f job (chosen schedule first) there
      keeps = published (chosen schedule first) (scheduled_is_run node_ready node_ended (node_step f) MOST_CHOICES schedule first)

      ends : (is_done node_ended there ≡ true) ⊎ ((c : Choice) × (is_enabled node_ready there c ≡ true)) → enabled_choices node_ready there ≡ [] → ⊥
      ends (inl done) none = false≢true (sym short.incomplete ∙ done)
      ends (inr on) none =
          false≢true (sym (none_enabled node_ready there on.0 (some_nodes there.nodes keeps.cells.switch keeps.cells.switch_is) none) ∙ on.1)

      by : (enabled_choices node_ready there ≡ []) ⊎ (length (chosen schedule first) ≡ MOST_CHOICES) → ⊥
      by (inl none) = ends keeps.goes_on none
      by (inr most) = let few = keeps.short in let packets = is.few in omega (arith, most, few, packets)

  pub never_stops : (schedule : Schedule) (w : Real) → w ≡ first → (step : ℕ) → length (chosen schedule w) ≡ step
      → StopsShort node_ready node_ended (run (node_step f) (chosen schedule w) w) step → ⊥
  never_stops schedule w start step count short =
      never_short schedule (
      subst (λ v. StopsShort node_ready node_ended (run (node_step f) (chosen schedule v) v) (length (chosen schedule v))) start
      (subst (λ n. StopsShort node_ready node_ended (run (node_step f) (chosen schedule w) w) n) (sym count) short))
