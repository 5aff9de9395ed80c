-- The rows of a command that reads a script, a capture and then a journal.
use Rattle.opennf_calls.proofs.Words.{◌≡◌, ℕ, List, [], ◌&&◌, true, length, Option, None, Some, is_some, Result, Ok, Err, refl, ap, sym, ◌∙◌, subst, and_parts}
use Rattle.opennf_calls.proofs.Words.{Role, Trace, Script, JournalIn, Meaning, Rose, is_read, Choice, journal_of, Asked, NetworkAsked, Status, file_for}
use Rattle.opennf_calls.proofs.Words.{is_input, is_read_before, with_journal, Scenario, EarlierAreSound, HasEarlier, IsRefusedCommand, RowOf, HasInput}
use Rattle.opennf_calls.proofs.Words.{IsBound, earlier_refusal, first_refusal, inputs_refusal, journal_read, journal_refusal, refusal_of, HasInputs, OnlyRead}
use Rattle.opennf_calls.proofs.Words.{ReadAlone, ReadToEnd, TellsInputs, one_read}
use Rattle.std.proofs.Common.{drop}
use Rattle.std.specs.Prelude.{IsTrue}
use Rattle.journal_file.specs.declared.fault.JournalFault.{JournalFault}
use Rattle.journal_file.specs.declared.fault.JournalFault.TheVariants as fault
use Rattle.journal_file.specs.Reading.{GivesFrom, HasReadCause, count_of, looked_at}
use Rattle.call_files.specs.Scenarios.{IsScenario}
use Rattle.call_files.specs.Files.{IsRead}
use Rattle.call_files.specs.Status.{journal_status}
use Rattle.call_files.proofs.ReadRoles.{more_read}
use Rattle.opennf_calls.proofs.RowLemmas.{not_before, read_fault, refused, silent}
use Rattle.opennf_calls.proofs.RunRows.{Reads, journal_read_too, tells}

-- what reading a journal of so many instances answers
abbrev pub AnswersJournal : (s : NetworkAsked) (count : ℕ) (mid new : Role → Meaning) → Result (List Choice) JournalFault → Type 0
AnswersJournal s count mid new r = (bytes : List ℕ) → (mid JournalIn).left ≡ Some bytes
    → GivesFrom (journal_of s.kind count bytes) (drop (looked_at (count_of s.kind count bytes)) bytes) (new JournalIn).left r

-- the count that is read for is that of the words
pub counted : (s : NetworkAsked) (mid new : Role → Meaning) (r : Result (List Choice) JournalFault) (count : ℕ) → AnswersJournal s count mid new r
    → count ≡ length s.instances → AnswersJournal s (length s.instances) mid new r
counted s mid new r count answers is = subst (λ (n : ℕ). AnswersJournal s n mid new r) is answers

-- the command reads a script, a capture and a journal, in this order, and what refuses these refuses it
pub record ReadsJournal (s : NetworkAsked) (asked : Asked) : Type 0 where
  pub reads : Reads s asked
  pub named : is_some s.journal ≡ true
  pub files : (role : Role) → file_for asked role ≡ with_journal s JournalIn role
  pub refusal : (bytes : Role → List ℕ) → refusal_of asked bytes ≡ first_refusal (inputs_refusal s bytes) (journal_refusal (journal_read s bytes))
  pub earlier : (bytes : Role → List ℕ) → earlier_refusal asked JournalIn bytes ≡ inputs_refusal s bytes

-- what the inputs of such a command say: the words, the scenario, and the journal's choices
pub record ToldRun : Type 0 where
  pub words : NetworkAsked
  pub scenario : Scenario
  pub choices : List Choice

-- the inputs were read to their end, nothing refuses them, and this is what they say
pub record JournalTold (asked : Asked) (told : ToldRun) (bytes : Role → List ℕ) (new : Role → Meaning) : Type 0 where
  pub read : IsRead asked new
  pub sound : refusal_of asked bytes ≡ None
  pub choices : journal_read told.words bytes ≡ Ok told.choices
  pub is_scenario : IsScenario told.words bytes told.scenario

-- the script and the capture were read, and then the journal
module _ (s : NetworkAsked) (asked : Asked) (reads : ReadsJournal s asked) (scenario : Scenario) (old mid new : Role → Meaning)
    (bound : IsBound asked old) (first : OnlyRead old mid) (has : HasInputs s old mid scenario) (second : ReadAlone JournalIn mid new) where
  pub only : OnlyRead old new
  only = more_read old mid new first (one_read JournalIn mid new refl second)

  told : (bytes : Role → List ℕ) → HasInput asked old bytes → TellsInputs s old bytes
  told bytes is = tells s asked reads.reads old bytes is

  -- the journal alone refuses
  refusal : (bytes : Role → List ℕ) → HasInput asked old bytes → refusal_of asked bytes ≡ journal_refusal (journal_read s bytes)
  refusal bytes is =
      reads.refusal bytes ∙ ap (λ (o : Option Status). first_refusal o (journal_refusal (journal_read s bytes))) (has.sound bytes (told bytes is))

  -- a file is an input exactly where the words give it
  input_is : (role : Role) → is_input asked role ≡ (is_read role && is_some (with_journal s JournalIn role))
  input_is role = ap (λ (file : Option (List ℕ)). is_read role && is_some file) (reads.files role)

  journal_named : IsTrue (is_input asked JournalIn)
  journal_named = input_is JournalIn ∙ reads.named

  told_journal : (bytes : Role → List ℕ) → HasInput asked old bytes → (mid JournalIn).left ≡ Some (bytes JournalIn)
  told_journal bytes is = ap (λ (m : Meaning). m.left) has.journal ∙ is JournalIn journal_named

  still_read : ReadToEnd s mid → ReadToEnd s new
  still_read read = record {
    trace = ap (λ (m : Meaning). m.left) (second.others Trace (λ same. cc)) ∙ read.trace;
    script = λ there. ap (λ (m : Meaning). m.left) (second.others Script (λ same. cc)) ∙ read.script there;
  }

  -- what stands before the journal was right
  inputs_sound : (bytes : Role → List ℕ) → HasEarlier asked JournalIn old bytes → EarlierAreSound asked JournalIn bytes new
  inputs_sound bytes told_before = record { read = before; sound = reads.earlier bytes ∙ has.sound bytes tells_both }
    where
      tells_both : TellsInputs s old bytes
      tells_both = record {
        trace = told_before Trace (ap (λ b. b && true) (input_is Trace));
        script = λ there. told_before Script (ap (λ b. b && true) (input_is Script ∙ there));
      }

      before : (other : Role) → IsTrue (is_input asked other && is_read_before other JournalIn) → (new other).left ≡ Some []
      before Trace is = (still_read (has.read bytes tells_both)).trace
      before Script is = (still_read (has.read bytes tells_both)).script (sym (input_is Script) ∙ (and_parts (is_input asked Script) true is).0)
      before other is = absurd (not_before (is_input asked other) is)

  -- a fault of the journal
  module _ (e : JournalFault) (answers : AnswersJournal s (length s.instances) mid new (Err e)) where
    bad : (status : Status) → journal_refusal (Err e) ≡ Some status
        → ((bytes : Role → List ℕ) → HasInput asked old bytes → journal_read s bytes ≡ Err e)
        → IsRefusedCommand asked old new status
    bad status is due = refused old new only asked status bound (λ bytes holds.
        refusal bytes holds ∙ ap journal_refusal (due bytes holds) ∙ is)

  due : (e : JournalFault) → AnswersJournal s (length s.instances) mid new (Err e) → (bytes : Role → List ℕ) → HasInput asked old bytes
      → GivesFrom {X = List Choice} (journal_read s bytes) (drop (looked_at (count_of s.kind (length s.instances) (bytes JournalIn))) (bytes JournalIn))
      (new JournalIn).left (Err e)
  due e answers bytes is = answers (bytes JournalIn) (told_journal bytes is)

  pub journal_row : (e : JournalFault) → AnswersJournal s (length s.instances) mid new (Err e)
      → HasReadCause {A = List Choice} (mid JournalIn).faults (new JournalIn).faults (Err e)
      → RowOf asked old new (record { status = journal_status e; choices = [] })
  journal_row fault.Read answers cause = (
    read_fault old new only asked JournalIn bound journal_named
        (subst (λ (m : Meaning). Rose m.faults (new JournalIn).faults) has.journal (cause.read refl)) inputs_sound,
    refl,
  )
  journal_row fault.NoMemory answers cause = (silent old new only, refl)
  journal_row e answers cause = (bad e answers _ refl (λ bytes is. (due e answers bytes is).0), refl)

  -- the journal was read
  module _ (choices : List Choice) (answers : AnswersJournal s (length s.instances) mid new (Ok choices)) where
    told_choices : (bytes : Role → List ℕ) → HasInput asked old bytes → journal_read s bytes ≡ Ok choices
    told_choices bytes is = (answers (bytes JournalIn) (told_journal bytes is)).0

    all_inputs : ReadToEnd s new → (new JournalIn).left ≡ Some [] → IsRead asked new
    all_inputs read journal role input = journal_read_too s new read journal role (sym (input_is role) ∙ input)

    pub journal_told : (bytes : Role → List ℕ) → HasInput asked old bytes
        → JournalTold asked (record { words = s; scenario = scenario; choices = choices }) bytes new
    journal_told bytes is = record {
      read = all_inputs (still_read (has.read bytes (told bytes is))) (answers (bytes JournalIn) (told_journal bytes is)).1;
      sound = refusal bytes is ∙ ap journal_refusal (told_choices bytes is);
      choices = told_choices bytes is;
      is_scenario = has.is_scenario bytes (told bytes is);
    }
