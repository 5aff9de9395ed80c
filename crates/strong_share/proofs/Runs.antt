-- What every run of strong sharing keeps, put together; and that a schedule that stops short had too many packets.
use Rattle.strong_share.proofs.Words.{◌≡◌, inl, inr, ℕ, ◌+◌, ◌*◌, ◌<◌, ◌≤◌, Bool, true, false, List, length, refl, sym, ◌∙◌, arith, nat_lt, Global, nat_tests}
use Rattle.strong_share.proofs.Words.{Decides-ltb, most_packets, Laws, Semantics, Msg, Choice, Schedule, Network, IsRun, is_done, run, StopsShort, StrongNote}
use Rattle.strong_share.proofs.Words.{StrongNode, node_ready, node_step, node_ended, StrongJob, IsStrongJob, strong_start, choices_of, StrongPromises}
use Rattle.strong_share.proofs.Words.{StrongCompleted, StrongEnds}
use Rattle.std.proofs.Math.Nat.{mul-le-mul}
use Rattle.actor_net.specs.declared.schedule.TheConstants.{MOST_CHOICES}
use Rattle.actor_net.proofs.ScheduleLaws.{scheduled_is_run}
use Rattle.strong_share.proofs.Starts.{run_reached}
use Rattle.strong_share.proofs.Kept.{promised, completed}
use Rattle.strong_share.proofs.Ending.{none_stuck, run_ends, run_short}

module _ (F : Type 0) {R : Type 0} (f : Semantics R) (laws : Laws f) (alloc : Global) (job : StrongJob) (job_is : IsStrongJob f.kind job) where
  abbrev first : Network (StrongNode F R) Msg StrongNote
  first = strong_start {F = F} {R = R} alloc job

  module _ (cs : List Choice) (is : IsRun node_ready (node_step f) cs first) where
    pub run_promises : StrongPromises f job (run (node_step f) cs first)
    run_promises =
        let r = run_reached F f laws alloc job job_is cs is in
        promised f laws job job_is (run (node_step f) cs first) r.scene r.shows r.holds

    pub run_completed : is_done node_ended (run (node_step f) cs first) ≡ true → StrongCompleted f job (run (node_step f) cs first)
    run_completed done =
        let r = run_reached F f laws alloc job job_is cs is in
        completed f laws job job_is (run (node_step f) cs first) r.scene r.shows r.holds done

    pub run_end : StrongEnds job cs (run (node_step f) cs first)
    run_end = run_ends F f laws alloc job job_is cs is

    -- with as many packets as a capture gives, it has fewer choices than a schedule may take
    few_choices : length job.packets ≤ most_packets → length cs < MOST_CHOICES
    few_choices many =
        let few = job_is.few in
        let each : 2 * job.members + 4 ≤ 36 = omega (arith, few) in
        let all : (2 * job.members + 4) * length job.packets ≤ 36 * 1000000 = mul-le-mul each many in
        omega (arith, run_short F f laws alloc job job_is cs is, all, few)

  -- a schedule that stops short took all choices that it may take
  pub too_many : (schedule : Schedule) (step : ℕ) → length (choices_of f first schedule) ≡ step
      → StopsShort node_ready node_ended (run (node_step f) (choices_of f first schedule) first) step → most_packets < length job.packets
  too_many schedule step count short = by (nat_lt most_packets (length job.packets)) refl
    where
      runs : IsRun node_ready (node_step f) (choices_of f first schedule) first
      runs = scheduled_is_run node_ready node_ended (node_step f) MOST_CHOICES schedule first

      all_taken : step ≡ MOST_CHOICES
      all_taken = elim short.stuck as (λ _. step ≡ MOST_CHOICES) [
        | inl none ↦ (let never : false ≡ true = sym short.incomplete ∙ none_stuck F f laws alloc job job_is (choices_of f first schedule) runs none in cc)
        | inr most ↦ most
      ]

      by : (b : Bool) → nat_lt most_packets (length job.packets) ≡ b → most_packets < length job.packets
      by true e = (Decides-ltb most_packets (length job.packets)).0 e
      by false e =
          let many : length job.packets ≤ most_packets = grind (arith, nat_tests, e) in
          absurd (omega (arith, few_choices (choices_of f first schedule) runs many, all_taken, count))
