-- The rows of an audit: the run that its journal tells, or why it tells none.
use Rattle.opennf_calls.proofs.Words.{◌≡◌, ℕ, List, [], true, is_some, None, Result, Ok, Err, refl, ap, sym, ◌∙◌, MatchResult, Role, Meaning, Choice}
use Rattle.opennf_calls.proofs.Words.{NetworkAsked, asks_audit, Status, NotARun, NoMemory, Made, OfKind, RunResults, HasRun, ForResults, RowOf, HasInput}
use Rattle.opennf_calls.proofs.Words.{IsBound, OnlyRead, gives, from_kind}
use Rattle.network_calls.specs.RunSteps.{IsRefusedRun}
use Rattle.opennf_calls.proofs.JournalRows.{JournalTold, ReadsJournal, ToldRun}
use Rattle.opennf_calls.proofs.RowLemmas.{silent, still_bound}
use Rattle.opennf_calls.proofs.RunRows.{audit_reads}

pub audits_journal : (s : NetworkAsked) → is_some s.journal ≡ true → ReadsJournal s (asks_audit s)
audits_journal s named = record { reads = audit_reads s; named = named; files = λ role. refl; refusal = λ bytes. refl; earlier = λ bytes. refl }

-- what the inputs say
module _ (told : ToldRun) (old new : Role → Meaning) (bound : IsBound (asks_audit told.words) old) (only : OnlyRead old new)
    (says : (bytes : Role → List ℕ) → HasInput (asks_audit told.words) old bytes → JournalTold (asks_audit told.words) told bytes new) where
  audit_results : (made : RunResults) → HasRun told.words told.scenario None made → made.choices ≡ told.choices
      → ForResults (asks_audit told.words) old new (λ g. g ≡ made)
  audit_results made holds same bytes is =
      let said = says bytes is in
      record {
        read = said.read;
        sound = said.sound;
        made = made;
        are = record {
          told = said.choices ∙ ap (λ (l : List Choice). Ok l) (sym same);
          run = record { scenario = told.scenario; is_scenario = said.is_scenario; holds = holds };
        };
        wrote = refl;
      }

  never : OfKind told.words.kind (λ R F f. ⊥) → ⊥
  never cause = from_kind told.words.kind (λ R F f. ⊥) ⊥ (λ R F f no. no) cause

  no_run_row : (status : Status) → IsRefusedRun told.words told.scenario told.choices status
      → RowOf (asks_audit told.words) old new (record { status = status; choices = [] })
  no_run_row (NotARun step) cause = (
    record {
      bound = still_bound old new only (asks_audit told.words) bound;
      silent = silent old new only;
      failed = λ bytes is. (let said = says bytes is in record {
        read = said.read;
        sound = said.sound;
        fails = record {
          choices = told.choices;
          told = said.choices;
          no_run = record { scenario = told.scenario; is_scenario = said.is_scenario; holds = cause };
        };
      });
    },
    refl,
  )
  no_run_row NoMemory cause = (silent old new only, refl)
  no_run_row ended cause = absurd (never cause)

  -- what the run gives, or why there is nothing
  pub told_row : (r : Result Made Status) → MatchResult r (λ made. HasRun told.words told.scenario None (gives told.words made)
      × (made.choices ≡ told.choices)) (IsRefusedRun told.words told.scenario told.choices)
      → MatchResult r (λ made. ForResults (asks_audit told.words) old new (λ g. g ≡ gives told.words made))
      (λ status. RowOf (asks_audit told.words) old new (record { status = status; choices = [] }))
  told_row (Ok made) holds = audit_results (gives told.words made) holds.0 holds.1
  told_row (Err status) holds = no_run_row status holds
