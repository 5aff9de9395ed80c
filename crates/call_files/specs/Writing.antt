-- Steps between code and definition, which nobody has to believe: what writing to one role does. This project's own.
use Rattle.std.specs.Prelude.{◌≡◌, ◌≤◌, ℕ, List, [], length, None, is_some, IsTrue, Result, Ok, Err}
use Rattle.std.specs.Io.KnownBytes.{Appends}
use Rattle.nf_io.specs.declared.outside.Role.{Role}
use Rattle.nf_io.specs.declared.outside.Role.TheVariants.{Report, JournalOut}
use Rattle.nf_io.specs.Meaning.{Meaning, Rose, AppendsFront, OthersStay}
use Rattle.journal_file.specs.Format.{journal_bytes}
use Rattle.command_words.specs.Requests.{NetworkAsked}
use Rattle.call_files.specs.declared.status.Status.{Status}
use Rattle.call_files.specs.declared.status.Status.TheVariants.{Ok as Done, WriteFault, NoMemory}
use Rattle.call_files.specs.declared.outcome.Outcome.{Outcome}
use Rattle.call_files.specs.declared.results.Made.{Made}

-- a text that was written whole, or one of which a front was written
pub data Written : Type 0 where
  all_of : List ℕ → Written
  front_of : List ℕ → Written

-- what the answer of writing a text says of it
abbrev pub written : {E : Type 0} → List ℕ → Result (Unit {0}) E → Written
written text (Ok done) = all_of text
written text (Err failed) = front_of text

-- a role gained these bytes; a front alone only where its count of faults rose
abbrev pub Gains : Written → (old new : Meaning) → Type 0
Gains (all_of text) old new = Appends old.written new.written text
Gains (front_of text) old new = AppendsFront old.written new.written text × Rose old.faults new.faults

-- a text was written to a role, and nothing else changed
pub record Wrote (role : Role) (old new : Role → Meaning) (text : Written) : Type 0 where
  pub gains : Gains text (old role) (new role)
  pub later : (old role).faults ≤ (new role).faults
  pub left : (new role).left ≡ (old role).left
  pub name : (new role).name ≡ (old role).name
  pub others : OthersStay role old new

-- what writing a report ends with
abbrev pub report_end : Written → Status
report_end (all_of text) = Done
report_end (front_of text) = WriteFault Report

-- a text or a front of it
abbrev pub is_part : Written → List ℕ → Type 0
is_part (all_of written) text = written ≡ text
is_part (front_of written) text = written ≡ text

-- the report of a run was written, whole or in part
pub record WroteReport (made : Made) (old new : Role → Meaning) (outcome : Outcome) : Type 0 where
  pub part : Written
  pub is : is_part part made.report
  pub wrote : Wrote Report old new part
  pub status : outcome.status ≡ report_end part
  pub choices : outcome.choices ≡ made.choices

-- what the words ask for, and what was made of it
pub record MadeRun : Type 0 where
  pub asked : NetworkAsked
  pub made : Made

-- the bytes of its journal
abbrev pub journal_of_run : MadeRun → List ℕ
journal_of_run run = journal_bytes run.asked.kind (length run.asked.instances) run.made.choices

-- the journal was written, and then the report
pub record WroteBoth (run : MadeRun) (old new : Role → Meaning) (outcome : Outcome) : Type 0 where
  pub mid : Role → Meaning
  pub journal : Wrote JournalOut old mid (all_of (journal_of_run run))
  pub report : WroteReport run.made mid new outcome

-- a front of the journal was written
pub record WroteFront (run : MadeRun) (old new : Role → Meaning) (outcome : Outcome) : Type 0 where
  pub journal : Wrote JournalOut old new (front_of (journal_of_run run))
  pub status : outcome.status ≡ WriteFault JournalOut
  pub choices : outcome.choices ≡ run.made.choices

-- what comes of a run was written
pub data WroteRun (run : MadeRun) (old new : Role → Meaning) (outcome : Outcome) : Type 0 where
  Report_alone : run.asked.journal ≡ None → WroteReport run.made old new outcome → WroteRun run old new outcome
  Both : IsTrue (is_some run.asked.journal) → WroteBoth run old new outcome → WroteRun run old new outcome
  Front_alone : IsTrue (is_some run.asked.journal) → WroteFront run old new outcome → WroteRun run old new outcome
  Nothing : old ≡ new → outcome ≡ record { status = NoMemory; choices = [] } → WroteRun run old new outcome
