-- The rows of a command that reads a capture and nothing else.
use Rattle.opennf_calls.proofs.Words.{◌≡◌, ℕ, List, [], ◌&&◌, true, false, None, Some, is_some, Ok, Err, Result, refl, ap, sym, ◌∙◌, subst, IsTrue, and_parts}
use Rattle.opennf_calls.proofs.Words.{Role, Trace, Script, Meaning, Schedule, capture_of, Asked, asks_published, asks_strong, Status, Made, file_for, is_input}
use Rattle.opennf_calls.proofs.Words.{is_read_before, EarlierAreSound, ForResults, HasEarlier, IsRefusedCommand, RowOf, HasInput, IsBound, earlier_refusal}
use Rattle.opennf_calls.proofs.Words.{refusal_of, trace_refusal, GivesReport, OnlyRead, ReadAlone, reports, one_read}
use Rattle.trace_reader.specs.declared.trace.Trace.{Trace as Captured}
use Rattle.trace_reader.specs.declared.fault.TraceFault.{TraceFault}
use Rattle.trace_reader.specs.declared.fault.TraceFault.TheVariants as fault
use Rattle.trace_reader.specs.Answers.{AnswersTrace, HasReadCause}
use Rattle.command_words.specs.Requests.{PublishedAsked, StrongAsked}
use Rattle.call_files.specs.Command.{trace_file}
use Rattle.opennf_calls.specs.Outcome.{AreResults}
use Rattle.call_files.specs.Status.{trace_status}
use Rattle.opennf_calls.proofs.RowLemmas.{OneFile, input_alone, not_before, read_fault, refused, silent}

-- a command that has a capture alone has one file
pub one_capture : (asked : Asked) (trace : List ℕ) → ((role : Role) → file_for asked role ≡ trace_file trace role) → OneFile asked Trace
one_capture asked trace files Trace differ = absurd (differ refl)
one_capture asked trace files role differ = files role

-- the command has one file, a capture, which alone can refuse it
pub record ReadsCapture (asked : Asked) : Type 0 where
  pub one : OneFile asked Trace
  pub named : IsTrue (is_input asked Trace)
  pub refusal : (bytes : Role → List ℕ) → refusal_of asked bytes ≡ trace_refusal (capture_of (bytes Trace))
  pub earlier : (bytes : Role → List ℕ) → earlier_refusal asked Trace bytes ≡ None

pub update_reads : (p : PublishedAsked) (schedule : Schedule) → ReadsCapture (asks_published p schedule)
update_reads p schedule =
    record { one = one_capture (asks_published p schedule) p.trace (λ role. refl); named = refl; refusal = λ bytes. refl; earlier = λ bytes. refl }

pub sharing_reads : (s : StrongAsked) (schedule : Schedule) → ReadsCapture (asks_strong s schedule)
sharing_reads s schedule =
    record { one = one_capture (asks_strong s schedule) s.trace (λ role. refl); named = refl; refusal = λ bytes. refl; earlier = λ bytes. refl }

-- what reading the capture answers
abbrev pub AnswersCapture : (old new : Role → Meaning) → Result Captured TraceFault → Type 0
AnswersCapture old new r = (bytes : List ℕ) → (old Trace).left ≡ Some bytes → AnswersTrace (capture_of bytes) (new Trace).left r

module _ (asked : Asked) (reads : ReadsCapture asked) (old new : Role → Meaning) (bound : IsBound asked old) (alone : ReadAlone Trace old new) where
  pub only_capture : OnlyRead old new
  only_capture = one_read Trace old new refl alone

  -- nothing is read before it
  first : (bytes : Role → List ℕ) → HasEarlier asked Trace old bytes → EarlierAreSound asked Trace bytes new
  first bytes told = record { read = none; sound = reads.earlier bytes }
    where
      none : (other : Role) → IsTrue (is_input asked other && is_read_before other Trace) → (new other).left ≡ Some []
      none Script is =
          let file = (and_parts (is_input asked Script) true is).0 in
          let no_file : is_some (file_for asked Script) ≡ false = ap is_some (reads.one Script (λ same. cc)) in absurd (cc)
      none other is = absurd (not_before (is_input asked other) is)

  refuses : (e : TraceFault) (status : Status) → trace_refusal (Err e) ≡ Some status
      → ((bytes : Role → List ℕ) → HasInput asked old bytes → capture_of (bytes Trace) ≡ Err e) → IsRefusedCommand asked old new status
  refuses e status is due = refused old new only_capture asked status bound (λ bytes told. reads.refusal bytes ∙ ap trace_refusal (due bytes told) ∙ is)

  -- a fault of the capture
  pub capture_row : (e : TraceFault) → AnswersCapture old new (Err e) → HasReadCause {A = Captured} (old Trace).faults (new Trace).faults (Err e)
      → RowOf asked old new (record { status = trace_status e; choices = [] })
  capture_row fault.Read answers cause = (read_fault old new only_capture asked Trace bound reads.named (cause.read refl) first, refl)
  capture_row fault.NoMemory answers cause = (silent old new only_capture, refl)
  capture_row e answers cause = (refuses e _ refl (λ bytes told. answers (bytes Trace) (told Trace reads.named)), refl)

  -- the capture was read, and these choices and this report were made of it
  pub capture_report : (captured : Captured) → AnswersCapture old new (Ok captured) → (made : Made)
      → ((bytes : Role → List ℕ) → capture_of (bytes Trace) ≡ Ok captured → AreResults asked bytes (reports made))
      → ForResults asked old new (GivesReport made.choices made.report)
  capture_report captured answers made are bytes told =
      let read = answers (bytes Trace) (told Trace reads.named) in
      record {
        read = λ role input. subst (λ (r : Role). (new r).left ≡ Some []) (sym (input_alone asked Trace reads.one role input)) read.1;
        sound = reads.refusal bytes ∙ ap trace_refusal read.0;
        made = reports made;
        are = are bytes read.0;
        wrote = record { is_made = refl; report = refl };
      }
