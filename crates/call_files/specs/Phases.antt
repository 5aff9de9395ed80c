-- Steps between code and definition, which nobody has to believe: what binding files and reading inputs leave of the outside, and what a command gives.
use Rattle.std.specs.Prelude.{◌≡◌, ◌≤◌, ℕ, true, false, All, List, [], Option, None, Some, is_some, Ok, Err, Result, length, IsTrue}
use Rattle.std.specs.Option.{ForSome}
use Rattle.nf_io.specs.declared.outside.Role.{Role}
use Rattle.nf_io.specs.declared.outside.Role.TheVariants.{JournalIn, JournalOut, Report, Script as ScriptRole, Trace as TraceRole}
use Rattle.nf_io.specs.Roles.{is_read}
use Rattle.nf_io.specs.Meaning.{Meaning, OthersStay, Rose, Shown, with_bytes}
use Rattle.flow_filter.specs.declared.site.Site.{Site}
use Rattle.flow_filter.specs.Limits.{most_packets}
use Rattle.trace_reader.specs.Records.{AreNumbered}
use Rattle.trace_reader.specs.Steered.{is_steered_proto}
use Rattle.op_script.specs.declared.script.Script.{Script}
use Rattle.op_script.specs.Printing.{IsScript, SplitsNone}
use Rattle.op_script.specs.Reading.{ScriptView, script_view}
use Rattle.op_script.specs.declared.fault.ScriptKind.{ScriptKind}
use Rattle.journal_file.specs.Format.{journal_bytes}
use Rattle.actor_net.specs.declared.choice.Choice.{Choice}
use Rattle.command_words.specs.Requests.{NetworkAsked}
use Rattle.command_words.specs.Values.{names_of}
use Rattle.call_files.specs.declared.status.Status.{Status}
use Rattle.call_files.specs.declared.status.Status.TheVariants.{BadScript, BadTrace, NoMemory, ReadFault}
use Rattle.call_files.specs.Command.{run_file}
use Rattle.call_files.specs.Scenarios.{IsScenario, Scenario, RunResults, given_script}
use Rattle.call_files.specs.Refusals.{inputs_refusal, script_refusal}
use Rattle.call_files.specs.declared.inputs.Inputs.{Inputs}
use Rattle.call_files.specs.declared.results.Made.{Made}

-- a role has this name now, and the others are as before
pub record Named (role : Role) (name : Option (List ℕ)) (old new : Role → Meaning) : Type 0 where
  pub here : (new role).name ≡ name
  pub others : OthersStay role old new

-- a role is as before, or it got a name, and the bytes that its file shows
pub data KeptOrBound (shown : List ℕ → Shown) (old new : Meaning) : Type 0 where
  Is_kept : new ≡ old → KeptOrBound shown old new
  Is_bound : (name : List ℕ) → old.name ≡ None → new ≡ record (with_bytes (shown name) old) { name = Some name } → KeptOrBound shown old new

-- files were bound, and nothing else changed
abbrev pub Binds : (Role → List ℕ → Shown) → (old new : Role → Meaning) → Type 0
Binds shown old new = (role : Role) → KeptOrBound (shown role) (old role) (new role)

-- nothing but names changed
pub record SameContents (old new : Role → Meaning) : Type 0 where
  pub left : (role : Role) → (new role).left ≡ (old role).left
  pub written : (role : Role) → (new role).written ≡ (old role).written
  pub faults : (role : Role) → (new role).faults ≡ (old role).faults

-- no name changed
abbrev pub SameNames : (old new : Role → Meaning) → Type 0
SameNames old new = (role : Role) → (new role).name ≡ (old role).name

-- a role was read, and nothing but what is left of it and its count of faults changed
pub record ReadAlone (role : Role) (old new : Role → Meaning) : Type 0 where
  pub written : (new role).written ≡ (old role).written
  pub name : (new role).name ≡ (old role).name
  pub others : OthersStay role old new

-- inputs were read, and nothing but what is left of the roles that are read and their counts of faults changed
pub record OnlyRead (old new : Role → Meaning) : Type 0 where
  pub written : (role : Role) → (new role).written ≡ (old role).written
  pub names : SameNames old new
  pub others : (role : Role) → is_read role ≡ false → new role ≡ old role

-- the words' script and capture hold these bytes
pub record TellsInputs (s : NetworkAsked) (old : Role → Meaning) (bytes : Role → List ℕ) : Type 0 where
  pub trace : (old TraceRole).left ≡ Some (bytes TraceRole)
  pub script : IsTrue (is_some s.script) → (old ScriptRole).left ≡ Some (bytes ScriptRole)

-- the words' script holds these bytes
pub record TellsScript (s : NetworkAsked) (old : Role → Meaning) (bytes : Role → List ℕ) : Type 0 where
  pub script : IsTrue (is_some s.script) → (old ScriptRole).left ≡ Some (bytes ScriptRole)

-- they were read to their end
pub record ReadToEnd (s : NetworkAsked) (new : Role → Meaning) : Type 0 where
  pub trace : (new TraceRole).left ≡ Some []
  pub script : IsTrue (is_some s.script) → (new ScriptRole).left ≡ Some []

-- the capture and the script have the names of the words
pub record InputsBound (s : NetworkAsked) (old : Role → Meaning) : Type 0 where
  pub trace : (old TraceRole).name ≡ Some s.trace
  pub script : (old ScriptRole).name ≡ s.script

-- the script was read where the words name one
pub record HasScript (s : NetworkAsked) (old new : Role → Meaning) (script : Script) : Type 0 where
  pub said : (bytes : Role → List ℕ) → TellsScript s old bytes → given_script s (bytes ScriptRole) ≡ Ok (script_view script)
  pub read : (bytes : Role → List ℕ) → TellsScript s old bytes → IsTrue (is_some s.script) → (new ScriptRole).left ≡ Some []

-- a script was read to its end, as its bytes are read
abbrev pub ScriptRead : (List ℕ → Result ScriptView (ℕ × ScriptKind)) → (old new : Role → Meaning) → Script → Type 0
ScriptRead read old new script = ForSome (old ScriptRole).left (λ bytes. (read bytes ≡ Ok (script_view script)) × ((new ScriptRole).left ≡ Some []))

-- why it gives nothing
abbrev pub ScriptFails : (List ℕ → Result ScriptView (ℕ × ScriptKind)) → (old new : Role → Meaning) → Status → Type 0
ScriptFails read old new (ReadFault ScriptRole) = Rose (old ScriptRole).faults (new ScriptRole).faults
ScriptFails read old new NoMemory = Unit {0}
ScriptFails read old new (BadScript line kind) = ForSome (old ScriptRole).left (λ bytes. read bytes ≡ Err (line, kind))
ScriptFails read old new status = ⊥

-- the script was read to its end, and isn't refused
pub record ScriptIsSound (s : NetworkAsked) (old new : Role → Meaning) : Type 0 where
  pub read : (bytes : Role → List ℕ) → TellsScript s old bytes → IsTrue (is_some s.script) → (new ScriptRole).left ≡ Some []
  pub sound : (bytes : Role → List ℕ) → TellsScript s old bytes → script_refusal (given_script s (bytes ScriptRole)) ≡ None

-- the script and the capture were read; a journal wasn't touched
pub record HasInputs (s : NetworkAsked) (old new : Role → Meaning) (scenario : Scenario) : Type 0 where
  pub is_scenario : (bytes : Role → List ℕ) → TellsInputs s old bytes → IsScenario s bytes scenario
  pub sound : (bytes : Role → List ℕ) → TellsInputs s old bytes → inputs_refusal s bytes ≡ None
  pub read : (bytes : Role → List ℕ) → TellsInputs s old bytes → ReadToEnd s new
  pub journal : new JournalIn ≡ old JournalIn

-- the script and the capture, where the outside tells them, are refused with this status
abbrev pub RefusesInputs : NetworkAsked → (Role → Meaning) → Status → Type 0
RefusesInputs s old status = (bytes : Role → List ℕ) → TellsInputs s old bytes → inputs_refusal s bytes ≡ Some status

-- before the capture the script was read
abbrev pub IsSoundBefore : NetworkAsked → Role → (old new : Role → Meaning) → Type 0
IsSoundBefore s TraceRole old new = ScriptIsSound s old new
IsSoundBefore s role old new = Unit {0}

-- why the script and the capture give no run
abbrev pub InputsFail : NetworkAsked → (old new : Role → Meaning) → Status → Type 0
InputsFail s old new (ReadFault role) = IsTrue (is_some (run_file s role)) × Rose (old role).faults (new role).faults × IsSoundBefore s role old new
InputsFail s old new NoMemory = Unit {0}
InputsFail s old new (BadScript line kind) = RefusesInputs s old (BadScript line kind)
InputsFail s old new (BadTrace offset kind) = RefusesInputs s old (BadTrace offset kind)
InputsFail s old new status = ⊥

-- what a run's inputs are read as, at a site
abbrev pub scenario_of : Site → Inputs → Scenario
scenario_of site inputs = record { site = site; captured = inputs.trace; script = inputs.script }

-- a script whose filters split no unit, and packets in the order of their numbers, no more than are read
pub record CanBegin (s : NetworkAsked) (scenario : Scenario) : Type 0 where
  pub right : IsScript (names_of s.instances) (script_view scenario.script)
  pub whole : SplitsNone s.kind (script_view scenario.script)
  pub numbers : AreNumbered 1 scenario.captured.packets
  pub steered : All (λ packet. is_steered_proto packet.proto ≡ true) scenario.captured.packets
  pub few : length scenario.captured.packets ≤ most_packets

-- what a run gives, by role
abbrev pub result_texts : (journal report : List ℕ) → Role → List ℕ
result_texts journal report JournalOut = journal
result_texts journal report role = report

abbrev pub gives : NetworkAsked → Made → RunResults
gives s made = record { choices = made.choices; texts = result_texts (journal_bytes s.kind (length s.instances) made.choices) made.report }

-- what a command gives that writes a report alone
abbrev pub reports : Made → RunResults
reports made = record { choices = made.choices; texts = λ role. made.report }

-- the choices and the report that a command gives
pub record GivesReport (choices : List Choice) (text : List ℕ) (made : RunResults) : Type 0 where
  pub is_made : made.choices ≡ choices
  pub report : made.texts Report ≡ text
