-- What a run of the program reads, writes and answers: one table of statuses for all commands. A further command is a further case
-- of `file_for` and of what it can be refused for and gives: `refusal_of`, `earlier_refusal` and `FailsAt` where it reads inputs, and
-- `AreResults`. The table stays as it is. This project's own.
use Rattle.std.specs.Prelude.{◌≡◌, ℕ, ◌++◌, List, [], codes, decimal, Option, None}
use Rattle.std.specs.Prelude.{Some, ◌&&◌, Ok, IsTrue, ◌⊎◌}
use Rattle.std.specs.Io.KnownBytes.{Appends}
use Rattle.nf_io.specs.declared.outside.Role.{Role}
use Rattle.nf_io.specs.declared.outside.Role.TheVariants.{Script, Report, TraceOut, Errors}
use Rattle.nf_io.specs.Meaning.{Meaning, Rose, AppendsFront}
use Rattle.trace_reader.specs.Generated.{capture}
use Rattle.op_script.specs.declared.script.Script.{Script as TheScript}
use Rattle.op_script.specs.Reading.{script_of, script_view}
use Rattle.op_script.specs.Printing.{script_text}
use Rattle.actor_net.specs.declared.choice.Choice.{Choice}
use Rattle.actor_net.specs.declared.schedule.Schedule.{Schedule}
use Rattle.command_words.specs.Requests.{Asked, NetworkAsked, FailAsked, CheckAsked, GenAsked, asks_sim, asks_run}
use Rattle.command_words.specs.Requests.{asks_audit, asks_fail, asks_check, asks_gen, asks_published, asks_strong}
use Rattle.command_words.specs.Values.{names_of}
use Rattle.call_files.specs.declared.status.Status.{Status}
use Rattle.call_files.specs.declared.status.Status.TheVariants.{Ok as Done, Usage, BadScript, BadTrace, BadJournal, NotARun, ReadFault, WriteFault, NoMemory}
use Rattle.call_files.specs.declared.outcome.Outcome.{Outcome}
use Rattle.call_files.specs.Command.{is_input, is_read_before, is_result, comes_before}
use Rattle.network_calls.specs.FailRuns.{HasFailover, HasNoFailover}
use Rattle.call_files.specs.Scenarios.{RunResults}
use Rattle.network_calls.specs.NetworkRuns.{HasRun, HasNoRun}
use Rattle.call_files.specs.Status.{line_of}
use Rattle.network_calls.specs.StrongRuns.{IsShared}
use Rattle.network_calls.specs.UpdateRuns.{IsUpdated}
use Rattle.call_files.specs.Files.{Gained, HasInput, IsBound, IsRead, MayBind, Unwritten, WroteNothing, WroteResultsAlone}
use Rattle.call_files.specs.Refusals.{earlier_refusal, journal_read, refusal_of}
use Rattle.call_files.specs.Scenarios.{OfScenario}

-- a complete run of the network, by a schedule if there is one, with its report and its journal
abbrev pub IsCompletedRun : NetworkAsked → (Role → List ℕ) → Option Schedule → RunResults → Type 0
IsCompletedRun s bytes by made = OfScenario s bytes (λ scenario. HasRun s scenario by made)

-- the run that a journal tells
pub record IsAudited (s : NetworkAsked) (bytes : Role → List ℕ) (made : RunResults) : Type 0 where
  pub told : journal_read s bytes ≡ Ok made.choices
  pub run : IsCompletedRun s bytes None made

-- the failover in the run that a journal tells
pub record IsFailedOver (f : FailAsked) (bytes : Role → List ℕ) (made : RunResults) : Type 0 where
  pub choices : List Choice
  pub told : journal_read f.network bytes ≡ Ok choices
  pub failover : OfScenario f.network bytes (λ scenario. HasFailover f scenario choices made)

-- the canonical text of the script that the bytes are read as
pub record IsCheckText (c : CheckAsked) (bytes text : List ℕ) : Type 0 where
  pub script : TheScript
  pub read : script_of c.kind (names_of c.instances) bytes ≡ Ok (script_view script)
  pub canonical : text ≡ script_text (names_of c.instances) script

-- `gen number NUMBER packets N hosts H`
unfoldable pub gen_line : GenAsked → List ℕ
gen_line g =
    codes "gen number " ++ decimal g.number ++ codes " packets " ++ decimal g.packets ++ codes " hosts " ++ decimal g.hosts ++ codes "\n"

-- the capture of these numbers, and the line that repeats them
pub record AreGenTexts (g : GenAsked) (written reported : List ℕ) : Type 0 where
  pub made : written ≡ capture g.number g.packets g.hosts
  pub line : reported ≡ gen_line g

-- the choices of a journal aren't a complete run, which shows at this step
pub record TellsNoRun (s : NetworkAsked) (bytes : Role → List ℕ) (step : ℕ) : Type 0 where
  pub choices : List Choice
  pub told : journal_read s bytes ≡ Ok choices
  pub no_run : OfScenario s bytes (λ scenario. HasNoRun s scenario choices step)

-- so many choices of a journal aren't there, or aren't a run, which shows at this step
pub record TellsNoFailover (f : FailAsked) (bytes : Role → List ℕ) (step : ℕ) : Type 0 where
  pub choices : List Choice
  pub told : journal_read f.network bytes ≡ Ok choices
  pub no_failover : OfScenario f.network bytes (λ scenario. HasNoFailover f scenario choices step)

abbrev pub FailsAt : Asked → (Role → List ℕ) → ℕ → Type 0
FailsAt (asks_audit s) bytes step = TellsNoRun s bytes step
FailsAt (asks_fail f) bytes step = TellsNoFailover f bytes step
FailsAt asked bytes step = ⊥

-- what a command gives for these input bytes: the choices of a run, and a text for each result
abbrev pub AreResults : Asked → (Role → List ℕ) → RunResults → Type 0
AreResults (asks_sim s schedule) bytes made = IsCompletedRun s bytes (Some schedule) made
AreResults (asks_run s) bytes made = IsCompletedRun s bytes None made
AreResults (asks_audit s) bytes made = IsAudited s bytes made
AreResults (asks_fail f) bytes made = IsFailedOver f bytes made
AreResults (asks_check c) bytes made = (made.choices ≡ []) × IsCheckText c (bytes Script) (made.texts Report)
AreResults (asks_gen g) bytes made = (made.choices ≡ []) × AreGenTexts g (made.texts TraceOut) (made.texts Report)
AreResults (asks_published p schedule) bytes made = IsUpdated p bytes schedule made
AreResults (asks_strong s schedule) bytes made = IsShared s bytes schedule made

-- the inputs were read to their end, nothing refuses them, and `P` holds of what the command gives for them
pub record HasResults (asked : Asked) (bytes : Role → List ℕ) (new : Role → Meaning) (P : RunResults → Type 0) : Type 0 where
  pub read : IsRead asked new
  pub sound : refusal_of asked bytes ≡ None
  pub made : RunResults
  pub are : AreResults asked bytes made
  pub wrote : P made

-- the same, wherever the outside tells the inputs
abbrev pub ForResults : Asked → (old new : Role → Meaning) → (RunResults → Type 0) → Type 0
ForResults asked old new P = (bytes : Role → List ℕ) → HasInput asked old bytes → HasResults asked bytes new P

-- Ok: every result has its text, and the choices are those of the run
pub record IsDone (asked : Asked) (old new : Role → Meaning) (choices : List Choice) : Type 0 where
  pub bound : IsBound asked new
  pub others : WroteResultsAlone asked old new
  pub results : ForResults asked old new (λ made. (made.choices ≡ choices) × Gained (is_result asked) made.texts old new)

-- where a write fails: the result, and the choices that were made
pub record BrokenResult : Type 0 where
  pub role : Role
  pub choices : List Choice

-- a write fault at a result: it has a front of its text, the results before it have theirs, and those after it have nothing
pub record IsWriteFault (asked : Asked) (old new : Role → Meaning) (at : BrokenResult) : Type 0 where
  pub result : IsTrue (is_result asked at.role)
  pub rose : Rose (old at.role).faults (new at.role).faults
  pub bound : IsBound asked new
  pub others : WroteResultsAlone asked old new
  pub after : Unwritten (λ other. is_result asked other && comes_before at.role other) old new
  pub results : ForResults asked old new (λ made. (made.choices ≡ at.choices) × AppendsFront (old at.role).written (new at.role).written (made.texts at.role)
      × Gained (λ other. is_result asked other && comes_before other at.role) made.texts old new)

-- the inputs that a command reads before this one hold these bytes, as the outside tells
abbrev pub HasEarlier : Asked → Role → (Role → Meaning) → (Role → List ℕ) → Type 0
HasEarlier asked role old bytes = (other : Role) → IsTrue (is_input asked other && is_read_before other role) → (old other).left ≡ Some (bytes other)

-- they were read to their end, and nothing refuses them
pub record EarlierAreSound (asked : Asked) (role : Role) (bytes : Role → List ℕ) (new : Role → Meaning) : Type 0 where
  pub read : (other : Role) → IsTrue (is_input asked other && is_read_before other role) → (new other).left ≡ Some []
  pub sound : earlier_refusal asked role bytes ≡ None

-- a read fault at an input: nothing was written, and what stands before it was right, wherever the outside tells it
pub record IsReadFault (asked : Asked) (old new : Role → Meaning) (role : Role) : Type 0 where
  pub input : IsTrue (is_input asked role)
  pub rose : Rose (old role).faults (new role).faults
  pub bound : IsBound asked new
  pub silent : WroteNothing old new
  pub earlier : (bytes : Role → List ℕ) → HasEarlier asked role old bytes → EarlierAreSound asked role bytes new

-- the inputs, where the outside tells them, are refused with this status: nothing was written
pub record IsRefusedCommand (asked : Asked) (old new : Role → Meaning) (status : Status) : Type 0 where
  pub bound : IsBound asked new
  pub silent : WroteNothing old new
  pub refusal : (bytes : Role → List ℕ) → HasInput asked old bytes → refusal_of asked bytes ≡ Some status

-- the inputs were read to their end and nothing refuses them, but the journal's choices aren't a run as the command asks
pub record Failed (asked : Asked) (bytes : Role → List ℕ) (new : Role → Meaning) (step : ℕ) : Type 0 where
  pub read : IsRead asked new
  pub sound : refusal_of asked bytes ≡ None
  pub fails : FailsAt asked bytes step

-- the same, wherever the outside tells the inputs: nothing was written
pub record IsNotARun (asked : Asked) (old new : Role → Meaning) (step : ℕ) : Type 0 where
  pub bound : IsBound asked new
  pub silent : WroteNothing old new
  pub failed : (bytes : Role → List ℕ) → HasInput asked old bytes → Failed asked bytes new step

-- the table: what was bound, read and written where a command ends with a status and choices, and why the status comes. There
-- are choices where something was made alone
abbrev pub RowOf : Asked → (old new : Role → Meaning) → Outcome → Type 0
RowOf asked old new outcome = row outcome.status
  where
    row : Status → Type 0
    row Done = IsDone asked old new outcome.choices
    row (WriteFault role) = IsWriteFault asked old new (record { role = role; choices = outcome.choices })
    row (ReadFault role) = IsReadFault asked old new role × (outcome.choices ≡ [])
    row (BadScript line kind) = IsRefusedCommand asked old new (BadScript line kind) × (outcome.choices ≡ [])
    row (BadTrace offset kind) = IsRefusedCommand asked old new (BadTrace offset kind) × (outcome.choices ≡ [])
    row (BadJournal kind) = IsRefusedCommand asked old new (BadJournal kind) × (outcome.choices ≡ [])
    row (NotARun step) = IsNotARun asked old new step × (outcome.choices ≡ [])
    row NoMemory = WroteNothing old new × (outcome.choices ≡ [])
    row Usage = ⊥

-- the statuses of words that aren't a command
abbrev pub RefusesWords : Status → Type 0
RefusesWords status = (status ≡ Usage) ⊎ (status ≡ NoMemory)

-- why a status comes: the words aren't a command, or its row
abbrev pub CauseOf : Option Asked → (old new : Role → Meaning) → Outcome → Type 0
CauseOf None old new outcome = RefusesWords outcome.status × WroteNothing old new × (outcome.choices ≡ [])
CauseOf (Some asked) old new outcome = RowOf asked old new outcome

-- a line went to the standard error, or a front of it where its count of faults rose
abbrev pub PutsLine : List ℕ → (old new : Meaning) → Type 0
PutsLine line old new =
    Appends old.written new.written line ⊎ (Rose old.faults new.faults × AppendsFront old.written new.written line)

-- what good input ends with where nothing fails: Ok or out of memory; a command that reads a journal also where its choices aren't a run as
-- it asks
pub data IsGoodEnd (asked : Asked) (bytes : Role → List ℕ) (status : Status) : Type 0 where
  Is_done : status ≡ Done → IsGoodEnd asked bytes status
  Is_memory : status ≡ NoMemory → IsGoodEnd asked bytes status
  Is_no_run : (step : ℕ) → status ≡ NotARun step → FailsAt asked bytes step → IsGoodEnd asked bytes status

abbrev pub IsComplete : Option Asked → (old new : Role → Meaning) → Status → Type 0
IsComplete request old new status =
    (asked : Asked) → request ≡ Some asked → (bytes : Role → List ℕ) → HasInput asked old bytes → refusal_of asked bytes ≡ None
    → ((role : Role) → Rose (old role).faults (new role).faults → ⊥) → IsGoodEnd asked bytes status

-- all that a call of the program promises
pub record HasOutcome (request : Option Asked) (old new : Role → Meaning) (outcome : Outcome) : Type 0 where
  pub cause : CauseOf request old new outcome
  pub names : MayBind request new
  pub errors : PutsLine (line_of outcome.status) (old Errors) (new Errors)
  pub complete : IsComplete request old new outcome.status
