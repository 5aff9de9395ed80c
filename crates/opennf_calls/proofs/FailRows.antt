-- The rows of a failover: what is left by the choices that its journal tells, or why there is nothing.
use Rattle.opennf_calls.proofs.Words.{◌≡◌, ℕ, List, [], true, is_some, Result, Ok, Err, refl, MatchResult, Role, Meaning, Choice, FailAsked, asks_fail, Status}
use Rattle.opennf_calls.proofs.Words.{NotARun, NoMemory, Made, OfKind, Scenario, ForResults, RowOf, HasInput, IsBound, GivesReport, OnlyRead, reports}
use Rattle.opennf_calls.proofs.Words.{from_kind}
use Rattle.network_calls.specs.FailRuns.{HasFailover}
use Rattle.network_calls.specs.RunSteps.{IsRefusedFailover}
use Rattle.opennf_calls.proofs.JournalRows.{JournalTold, ReadsJournal, ToldRun}
use Rattle.opennf_calls.proofs.RowLemmas.{silent, still_bound}
use Rattle.opennf_calls.proofs.RunRows.{fail_reads}

pub fails_journal : (f : FailAsked) → is_some f.network.journal ≡ true → ReadsJournal f.network (asks_fail f)
fails_journal f named = record { reads = fail_reads f; named = named; files = λ role. refl; refusal = λ bytes. refl; earlier = λ bytes. refl }

-- what the inputs say
abbrev pub told_of : FailAsked → Scenario → List Choice → ToldRun
told_of f scenario choices = record { words = f.network; scenario = scenario; choices = choices }

module _ (f : FailAsked) (scenario : Scenario) (choices : List Choice) (old new : Role → Meaning) (bound : IsBound (asks_fail f) old) (only : OnlyRead old new)
    (says : (bytes : Role → List ℕ) → HasInput (asks_fail f) old bytes → JournalTold (asks_fail f) (told_of f scenario choices) bytes new) where
  fail_results : (made : Made) → HasFailover f scenario choices (reports made) → ForResults (asks_fail f) old new (GivesReport made.choices made.report)
  fail_results made holds bytes is =
      let said = says bytes is in
      record {
        read = said.read;
        sound = said.sound;
        made = reports made;
        are = record {
          choices = choices;
          told = said.choices;
          failover = record { scenario = scenario; is_scenario = said.is_scenario; holds = holds };
        };
        wrote = record { is_made = refl; report = refl };
      }

  never : OfKind f.network.kind (λ R F g. ⊥) → ⊥
  never cause = from_kind f.network.kind (λ R F g. ⊥) ⊥ (λ R F g no. no) cause

  no_failover_row : (status : Status) → IsRefusedFailover f scenario choices status → RowOf (asks_fail f) old new (record { status = status; choices = [] })
  no_failover_row (NotARun step) cause = (
    record {
      bound = still_bound old new only (asks_fail f) bound;
      silent = silent old new only;
      failed = λ bytes is. (let said = says bytes is in record {
        read = said.read;
        sound = said.sound;
        fails = record {
          choices = choices;
          told = said.choices;
          no_failover = record { scenario = scenario; is_scenario = said.is_scenario; holds = cause };
        };
      });
    },
    refl,
  )
  no_failover_row NoMemory cause = (silent old new only, refl)
  no_failover_row ended cause = absurd (never cause)

  -- what the failover gives, or why there is nothing
  pub failed_row : (r : Result Made Status) → MatchResult r (λ made. HasFailover f scenario choices (reports made)) (IsRefusedFailover f scenario choices)
      → MatchResult r (λ made. ForResults (asks_fail f) old new (GivesReport made.choices made.report))
      (λ status. RowOf (asks_fail f) old new (record { status = status; choices = [] }))
  failed_row (Ok made) holds = fail_results made holds
  failed_row (Err status) holds = no_failover_row status holds
