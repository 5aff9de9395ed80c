-- What a run of the network is given, or why it is given nothing: a script where the words name one, and then a capture.
use Rattle.std.proofs.Common.{◌≡◌, ℕ, List, [], true, false, Option, None, Some, is_some, is_none, Ok, Err, Result, refl, ap, ◌∙◌, subst}
use Rattle.std.specs.Prelude.{MatchResult, option_map}
use Rattle.std.specs.Borrow.{Bor}
use Rattle.flow_filter.specs.declared.site.Site.{Site}
use Rattle.flow_filter.specs.Reading.{prefix_numbers}
use Rattle.nf_io.specs.declared.outside.Role.{Role}
use Rattle.nf_io.specs.declared.outside.Role.TheVariants.{Trace, Script, JournalIn}
use Rattle.nf_io.specs.Meaning.{Meaning, Rose}
use Rattle.trace_reader.specs.declared.trace.Trace.{Trace as Captured}
use Rattle.trace_reader.specs.declared.fault.TraceFault.{TraceFault}
use Rattle.trace_reader.specs.declared.fault.TraceFault.TheVariants as fault
use Rattle.trace_reader.specs.Answers.{AnswersTrace, HasReadCause}
use Rattle.trace_reader.specs.Records.{capture_of}
use Rattle.op_script.specs.declared.script.Script.{Script as TheScript}
use Rattle.op_script.specs.Reading.{script_of}
use Rattle.command_words.specs.Requests.{NetworkAsked}
use Rattle.command_words.specs.Values.{names_of}
use Rattle.call_files.specs.declared.status.Status.{Status}
use Rattle.call_files.specs.declared.status.Status.TheVariants.{BadScript, ReadFault, NoMemory}
use Rattle.call_files.specs.Refusals.{first_refusal, inputs_refusal, script_refusal, trace_refusal}
use Rattle.call_files.specs.Scenarios.{given_script}
use Rattle.call_files.specs.Phases.{HasInputs, HasScript, InputsFail, ReadAlone, RefusesInputs, ScriptFails, ScriptRead, TellsInputs, TellsScript}
use Rattle.call_files.specs.Status.{trace_status}

-- a file that is named is there
pub is_named : (file : Option (Bor (List ℕ))) → is_none file ≡ false → is_some (option_map (λ t. t.now) file) ≡ true
is_named None none = absurd (cc)
is_named (Some name) none = refl

pub still_named : (file : Option (Bor (List ℕ))) → is_some file ≡ true → is_some (option_map (λ t. t.now) file) ≡ true
still_named None there = absurd (cc)
still_named (Some name) there = refl

pub named_script : (s : NetworkAsked) (bytes : List ℕ) → is_some s.script ≡ true → given_script s bytes ≡ script_of s.kind (names_of s.instances) bytes
named_script s bytes named = rw named refl

-- what reading it answers
pub script_said : (s : NetworkAsked) → is_some s.script ≡ true → (old new : Role → Meaning) (r : Result TheScript Status)
    → MatchResult r (ScriptRead (script_of s.kind (names_of s.instances)) old new) (ScriptFails (script_of s.kind (names_of s.instances)) old new)
    → MatchResult r (HasScript s old new) (InputsFail s old new)
script_said s named old new (Ok script) said = record {
  said = λ bytes told. named_script s (bytes Script) named ∙ (said (bytes Script) (told.script named)).0;
  read = λ bytes told there. (said (bytes Script) (told.script named)).1;
}
script_said s named old new (Err (ReadFault Script)) rose = (named, rose, tt)
script_said s named old new (Err NoMemory) said = tt
script_said s named old new (Err (BadScript line kind)) said = λ bytes told.
    ap (λ read. first_refusal (script_refusal read) (trace_refusal (capture_of (bytes Trace))))
    (named_script s (bytes Script) named ∙ said (bytes Script) (told.script named))
script_said s named old new (Err status) said = absurd said

-- a script has been read
module _ (s : NetworkAsked) (old mid : Role → Meaning) (script : TheScript) (first : ReadAlone Script old mid) (has : HasScript s old mid script) where
  script_told : (bytes : Role → List ℕ) → TellsInputs s old bytes → TellsScript s old bytes
  script_told bytes told = record { script = told.script }

  -- the capture is read after it
  module _ (new : Role → Meaning) (second : ReadAlone Trace mid new) where
    -- then the capture alone refuses
    refusal : (bytes : Role → List ℕ) → TellsInputs s old bytes → inputs_refusal s bytes ≡ trace_refusal (capture_of (bytes Trace))
    refusal bytes told =
        ap (λ said. first_refusal (script_refusal said) (trace_refusal (capture_of (bytes Trace)))) (has.said bytes (script_told bytes told))

    still_read : (bytes : Role → List ℕ) → TellsScript s old bytes → is_some s.script ≡ true → (new Script).left ≡ Some []
    still_read bytes told named = ap (λ (m : Meaning). m.left) (second.others Script (λ same. cc)) ∙ has.read bytes told named

    same_trace : mid Trace ≡ old Trace
    same_trace = first.others Trace (λ same. cc)

    told_trace : (bytes : Role → List ℕ) → TellsInputs s old bytes → (mid Trace).left ≡ Some (bytes Trace)
    told_trace bytes told = ap (λ (m : Meaning). m.left) same_trace ∙ told.trace

    -- a fault of the capture
    module _ (e : TraceFault) (answers : (bytes : List ℕ) → (mid Trace).left ≡ Some bytes → AnswersTrace (capture_of bytes) (new Trace).left (Err e)) where
      bad : (status : Status) → trace_refusal (Err e) ≡ Some status
          → ((bytes : List ℕ) → AnswersTrace (capture_of bytes) (new Trace).left (Err e) → capture_of bytes ≡ Err e) → RefusesInputs s old status
      bad status is due bytes told =
          refusal bytes told ∙ ap trace_refusal (due (bytes Trace) (answers (bytes Trace) (told_trace bytes told))) ∙ is

    pub trace_fails : (e : TraceFault) → ((bytes : List ℕ) → (mid Trace).left ≡ Some bytes → AnswersTrace (capture_of bytes) (new Trace).left (Err e))
        → HasReadCause {A = Captured} (mid Trace).faults (new Trace).faults (Err e) → InputsFail s old new (trace_status e)
    trace_fails fault.Read answers cause = (
      refl,
      subst (λ (m : Meaning). Rose m.faults (new Trace).faults) same_trace (cause.read refl),
      record { read = still_read; sound = λ bytes told. ap script_refusal (has.said bytes told) },
    )
    trace_fails fault.NoMemory answers cause = tt
    trace_fails e answers cause = bad e answers _ refl (λ bytes due. due)

    -- the capture was read
    pub both_read : (site : Site) → prefix_numbers site.inside ≡ s.inside → site.outside ≡ s.outside → (captured : Captured)
        → ((bytes : List ℕ) → (mid Trace).left ≡ Some bytes → AnswersTrace (capture_of bytes) (new Trace).left (Ok captured))
        → HasInputs s old new (record { site = site; captured = captured; script = script })
    both_read site inside outside captured answers = record {
      is_scenario = λ bytes told. record {
        read = (answers (bytes Trace) (told_trace bytes told)).0;
        said = has.said bytes (script_told bytes told);
        inside = inside;
        outside = outside;
      };
      sound = λ bytes told. refusal bytes told ∙ ap trace_refusal (answers (bytes Trace) (told_trace bytes told)).0;
      read = λ bytes told. record {
        trace = (answers (bytes Trace) (told_trace bytes told)).1;
        script = still_read bytes (script_told bytes told);
      };
      journal = second.others JournalIn (λ same. cc) ∙ first.others JournalIn (λ same. cc);
    }
