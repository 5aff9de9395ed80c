-- The rows of the commands that run the network: what is wrong with their inputs, what their run gives, and why there is none.
use Rattle.opennf_calls.proofs.Words.{◌≡◌, ℕ, List, [], ◌&&◌, true, Option, None, Some, is_some, refl, ap, sym, ◌∙◌, IsTrue, and_parts, Role, Trace, Script}
use Rattle.opennf_calls.proofs.Words.{JournalIn, JournalOut, Meaning, is_read, Schedule, Asked, FailAsked, NetworkAsked, asks_sim, asks_run, asks_audit}
use Rattle.opennf_calls.proofs.Words.{asks_fail, Status, BadScript, BadTrace, ReadFault, NoMemory, is_input, is_read_before, with_journal, Scenario}
use Rattle.opennf_calls.proofs.Words.{RunResults, given_script, HasRun, EarlierAreSound, ForResults, HasEarlier, IsRefusedCommand, RowOf, HasInput, IsBound}
use Rattle.opennf_calls.proofs.Words.{earlier_refusal, first_refusal, inputs_refusal, journal_read, journal_refusal, refusal_of, script_refusal, HasInputs}
use Rattle.opennf_calls.proofs.Words.{OnlyRead, ReadToEnd, TellsInputs}
use Rattle.call_files.specs.Command.{run_file}
use Rattle.call_files.specs.Phases.{InputsFail, IsSoundBefore, RefusesInputs, ScriptIsSound, TellsScript}
use Rattle.opennf_calls.proofs.RowLemmas.{first_read, not_before, read_fault, refused, silent}

-- the files of a run of the network are inputs, where its journal is written and where it is read
beside_written : (s : NetworkAsked) (role : Role) → IsTrue (is_some (run_file s role)) → IsTrue (is_read role && is_some (with_journal s JournalOut role))
beside_written s Trace named = refl
beside_written s Script named = named
beside_written s role named = absurd (cc)

beside_read : (s : NetworkAsked) (role : Role) → IsTrue (is_some (run_file s role)) → IsTrue (is_read role && is_some (with_journal s JournalIn role))
beside_read s Trace named = refl
beside_read s Script named = named
beside_read s role named = absurd (cc)

-- what was read to its end are all inputs
all_read : (s : NetworkAsked) (new : Role → Meaning) → ReadToEnd s new
    → (role : Role) → IsTrue (is_read role && is_some (with_journal s JournalOut role)) → (new role).left ≡ Some []
all_read s new read Trace input = read.trace
all_read s new read Script input = read.script input
all_read s new read role input = absurd (cc)

pub journal_read_too : (s : NetworkAsked) (new : Role → Meaning) → ReadToEnd s new → (new JournalIn).left ≡ Some []
    → (role : Role) → IsTrue (is_read role && is_some (with_journal s JournalIn role)) → (new role).left ≡ Some []
journal_read_too s new read journal Trace input = read.trace
journal_read_too s new read journal Script input = read.script input
journal_read_too s new read journal JournalIn input = journal
journal_read_too s new read journal role input = absurd (cc)

-- the files of a run are inputs of the command, and what refuses them refuses the command
pub record Reads (s : NetworkAsked) (asked : Asked) : Type 0 where
  pub input : (role : Role) → IsTrue (is_some (run_file s role)) → IsTrue (is_input asked role)
  pub first : (bytes : Role → List ℕ) (status : Status) → inputs_refusal s bytes ≡ Some status → refusal_of asked bytes ≡ Some status
  -- nothing stands before the script, and the script before the capture
  pub script_named : is_input asked Script ≡ is_some s.script
  pub none_earlier : (bytes : Role → List ℕ) → earlier_refusal asked Script bytes ≡ None
  pub script_earlier : (bytes : Role → List ℕ) → earlier_refusal asked Trace bytes ≡ script_refusal (given_script s (bytes Script))

pub sim_reads : (s : NetworkAsked) (schedule : Schedule) → Reads s (asks_sim s schedule)
sim_reads s schedule =
    record { input = beside_written s; first = λ bytes status is. is; script_named = refl; none_earlier = λ bytes. refl; script_earlier = λ bytes. refl }

pub run_reads : (s : NetworkAsked) → Reads s (asks_run s)
run_reads s =
    record { input = beside_written s; first = λ bytes status is. is; script_named = refl; none_earlier = λ bytes. refl; script_earlier = λ bytes. refl }

pub audit_reads : (s : NetworkAsked) → Reads s (asks_audit s)
audit_reads s = record {
  input = beside_read s;
  first = λ bytes status is. ap (λ (o : Option Status). first_refusal o (journal_refusal (journal_read s bytes))) is;
  script_named = refl;
  none_earlier = λ bytes. refl;
  script_earlier = λ bytes. refl;
}

pub fail_reads : (f : FailAsked) → Reads f.network (asks_fail f)
fail_reads f = record {
  input = beside_read f.network;
  first = λ bytes status is. ap (λ (o : Option Status). first_refusal o (journal_refusal (journal_read f.network bytes))) is;
  script_named = refl;
  none_earlier = λ bytes. refl;
  script_earlier = λ bytes. refl;
}

pub tells : (s : NetworkAsked) (asked : Asked) → Reads s asked → (old : Role → Meaning) (bytes : Role → List ℕ) → HasInput asked old bytes
    → TellsInputs s old bytes
tells s asked reads old bytes told = record { trace = told Trace (reads.input Trace refl); script = λ named. told Script (reads.input Script named) }

-- the script was read before the capture
script_first : (s : NetworkAsked) (asked : Asked) → Reads s asked → (old new : Role → Meaning) → ScriptIsSound s old new → (bytes : Role → List ℕ)
    → HasEarlier asked Trace old bytes → EarlierAreSound asked Trace bytes new
script_first s asked reads old new script bytes told = record { read = read; sound = reads.script_earlier bytes ∙ script.sound bytes told_script }
  where
    told_script : TellsScript s old bytes
    told_script = record { script = λ named. told Script (ap (λ b. b && true) (reads.script_named ∙ named)) }

    read : (other : Role) → IsTrue (is_input asked other && is_read_before other Trace) → (new other).left ≡ Some []
    read Script is = script.read bytes told_script (sym reads.script_named ∙ (and_parts (is_input asked Script) true is).0)
    read other is = absurd (not_before (is_input asked other) is)

-- what stands before a file of a run was right
earlier_sound : (s : NetworkAsked) (asked : Asked) → Reads s asked → (old new : Role → Meaning) (role : Role) → IsTrue (is_some (run_file s role))
    → IsSoundBefore s role old new → (bytes : Role → List ℕ) → HasEarlier asked role old bytes → EarlierAreSound asked role bytes new
earlier_sound s asked reads old new Trace named before bytes told = script_first s asked reads old new before bytes told
earlier_sound s asked reads old new Script named before bytes told = first_read asked bytes new (reads.none_earlier bytes)
earlier_sound s asked reads old new role named before bytes told = absurd (cc)

-- the script and the capture give no run
module _ (s : NetworkAsked) (asked : Asked) (reads : Reads s asked) (old new : Role → Meaning) (only : OnlyRead old new) (bound : IsBound asked old) where
  refuses : (status : Status) → RefusesInputs s old status → IsRefusedCommand asked old new status
  refuses status says = refused old new only asked status bound (λ bytes told. reads.first bytes status (says bytes (tells s asked reads old bytes told)))

  pub fails_row : (status : Status) → InputsFail s old new status → RowOf asked old new (record { status = status; choices = [] })
  fails_row (ReadFault role) fails = (
    read_fault old new only asked role bound (reads.input role fails.0) fails.1 (earlier_sound s asked reads old new role fails.0 fails.2),
    refl,
  )
  fails_row NoMemory fails = (silent old new only, refl)
  fails_row (BadScript line kind) fails = (refuses (BadScript line kind) fails, refl)
  fails_row (BadTrace offset kind) fails = (refuses (BadTrace offset kind) fails, refl)
  fails_row ended fails = absurd fails

-- they give a run
module _ (s : NetworkAsked) (old new : Role → Meaning) (scenario : Scenario) (has : HasInputs s old new scenario) where
  -- by threads
  pub run_results : (made : RunResults) → HasRun s scenario None made → ForResults (asks_run s) old new (λ g. g ≡ made)
  run_results made holds bytes is = let told = tells s (asks_run s) (run_reads s) old bytes is in record {
    read = all_read s new (has.read bytes told);
    sound = has.sound bytes told;
    made = made;
    are = record { scenario = scenario; is_scenario = has.is_scenario bytes told; holds = holds };
    wrote = refl;
  }

  -- by a schedule
  pub sim_results : (schedule : Schedule) (made : RunResults) → HasRun s scenario (Some schedule) made
      → ForResults (asks_sim s schedule) old new (λ g. g ≡ made)
  sim_results schedule made holds bytes is = let told = tells s (asks_sim s schedule) (sim_reads s schedule) old bytes is in record {
    read = all_read s new (has.read bytes told);
    sound = has.sound bytes told;
    made = made;
    are = record { scenario = scenario; is_scenario = has.is_scenario bytes told; holds = holds };
    wrote = refl;
  }
