-- What the calls that run strong sharing promise of the world that they hand back: they go from its start, by a schedule or by choices that are replayed.
use Rattle.strong_share.proofs.Words.{◌≡◌, ◌≢◌, ℕ, List, length, sym, ap, ◌∙◌, subst, true, Global, most_packets, Laws, Semantics, Msg, Choice, Schedule}
use Rattle.strong_share.proofs.Words.{Network, IsRun, is_done, run, StopsShort, StrongNote, StrongNode, node_ready, node_step, node_ended, StrongJob}
use Rattle.strong_share.proofs.Words.{IsStrongJob, strong_start, choices_of, StrongPromises, StrongCompleted, StrongEnds}
use Rattle.std.proofs.Common.{Result, Ok, Err}
use Rattle.std.specs.Prelude.{◌<◌, IfOk}
use Rattle.actor_net.specs.declared.replays.ReplayFault.{ReplayFault}
use Rattle.actor_net.specs.declared.replays.ReplayFault.TheVariants.{NoMemory}
use Rattle.actor_net.specs.Replays.{replay_of}
use Rattle.actor_net.proofs.ReplayLaws.{replayed_ok}
use Rattle.strong_share.specs.Runs.{LeadsTo}
use Rattle.strong_share.proofs.Runs.{run_promises, run_completed, run_end, too_many}

module _ (F : Type 0) {R : Type 0} (f : Semantics R) (laws : Laws f) (alloc : Global) (job : StrongJob) (is : IsStrongJob f.kind job) where
  abbrev World : Type 0
  World = Network (StrongNode F R) Msg StrongNote

  abbrev first : World
  first = strong_start {F = F} {R = R} alloc job

  -- choices that are a run from the start, and the world that they lead to
  record Reaches (cs : List Choice) (reached : World) : Type 0 where
    leads : LeadsTo f first cs reached
    promises : StrongPromises f job reached
    completed : is_done node_ended reached ≡ true → StrongCompleted f job reached
    ends : StrongEnds job cs reached

  reaches : (cs : List Choice) (w reached : World) → w ≡ first → IsRun node_ready (node_step f) cs w → reached ≡ run (node_step f) cs w → Reaches cs reached
  reaches cs w reached start runs led =
      let is_run : IsRun node_ready (node_step f) cs first = subst (λ v. IsRun node_ready (node_step f) cs v) start runs in
      let there : reached ≡ run (node_step f) cs first = led ∙ ap (run (node_step f) cs) start in
      record {
        leads = record { is_run = is_run; reached = there };
        promises = subst (λ v. StrongPromises f job v) (sym there) (run_promises F f laws alloc job is cs is_run);
        completed = subst (λ v. is_done node_ended v ≡ true → StrongCompleted f job v) (sym there) (run_completed F f laws alloc job is cs is_run);
        ends = subst (λ v. StrongEnds job cs v) (sym there) (run_end F f laws alloc job is cs is_run);
      }

  -- by a schedule
  module _ (schedule : Schedule) (w : World) (start : w ≡ first) where
    pub record Simulated {E : Type 0} (result : Result (World × List Choice) E) : Type 0 where
      pub choices : IfOk result (λ r. r.1 ≡ choices_of f first schedule)
      pub leads : IfOk result (λ r. LeadsTo f first r.1 r.0)
      pub promises : IfOk result (λ r. StrongPromises f job r.0)
      pub completed : IfOk result (λ r. StrongCompleted f job r.0)
      pub ends : IfOk result (λ r. StrongEnds job r.1 r.0)

    pub simulated : {E : Type 0} (result : Result (World × List Choice) E) → IfOk result (λ r. r.1 ≡ choices_of f w schedule)
        → IfOk result (λ r. r.0 ≡ run (node_step f) r.1 w) → IfOk result (λ r. IsRun node_ready (node_step f) r.1 w)
        → IfOk result (λ r. is_done node_ended r.0 ≡ true) → Simulated result
    simulated (Err e) chosen_is led runs done = record { choices = tt; leads = tt; promises = tt; completed = tt; ends = tt }
    simulated (Ok r) chosen_is led runs done =
        let all = reaches r.1 w r.0 start runs led in
        record {
          choices = chosen_is ∙ ap (λ v. choices_of f v schedule) start;
          leads = all.leads;
          promises = all.promises;
          completed = all.completed done;
          ends = all.ends;
        }

    pub stops_short : (step : ℕ)
        → (length (choices_of f w schedule) ≡ step) × StopsShort node_ready node_ended (run (node_step f) (choices_of f w schedule) w) step
        → most_packets < length job.packets
    stops_short step short =
        let count = subst (λ v. length (choices_of f v schedule) ≡ step) start short.0 in
        let stuck = subst (λ v. StopsShort node_ready node_ended (run (node_step f) (choices_of f v schedule) v) step) start short.1 in
        too_many F f laws alloc job is schedule step count stuck

  -- by choices
  module _ (cs : List Choice) (w : World) (start : w ≡ first) where
    pub record Replays (result : Result World ReplayFault) : Type 0 where
      pub promises : IfOk result (λ reached. StrongPromises f job reached)
      pub completed : IfOk result (λ reached. is_done node_ended reached ≡ true → StrongCompleted f job reached)
      pub ends : IfOk result (λ reached. StrongEnds job cs reached)

    pub replays : (result : Result World ReplayFault) → (result ≢ Err NoMemory → result ≡ replay_of node_ready (node_step f) cs w) → Replays result
    replays (Err e) h = record { promises = tt; completed = tt; ends = tt }
    replays (Ok reached) h =
        let ok = replayed_ok node_ready (node_step f) cs w reached (sym (h (λ bad. cc))) in
        let all = reaches cs w reached start ok.0 ok.1 in
        record { promises = all.promises; completed = all.completed; ends = all.ends }
