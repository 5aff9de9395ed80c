-- Which status refuses the inputs of a command: the first, in the order in which they are read. This project's own.
use Rattle.std.specs.Prelude.{ℕ, List, length, Option, None}
use Rattle.std.specs.Prelude.{Some, Result, Ok, Err}
use Rattle.nf_io.specs.declared.outside.Role.{Role}
use Rattle.nf_io.specs.declared.outside.Role.TheVariants.{Trace, Script, JournalIn}
use Rattle.trace_reader.specs.declared.trace.Trace.{Trace as Captured}
use Rattle.trace_reader.specs.declared.fault.TraceFault.{TraceFault}
use Rattle.trace_reader.specs.Records.{capture_of}
use Rattle.op_script.specs.declared.fault.ScriptKind.{ScriptKind}
use Rattle.op_script.specs.Reading.{ScriptView, script_of}
use Rattle.journal_file.specs.declared.fault.JournalFault.{JournalFault}
use Rattle.journal_file.specs.Reading.{journal_of}
use Rattle.actor_net.specs.declared.choice.Choice.{Choice}
use Rattle.command_words.specs.Requests.{Asked, NetworkAsked, asks_sim, asks_run}
use Rattle.command_words.specs.Requests.{asks_audit, asks_fail, asks_check, asks_gen, asks_published, asks_strong}
use Rattle.command_words.specs.Values.{names_of}
use Rattle.call_files.specs.declared.status.Status.{Status}
use Rattle.call_files.specs.declared.status.Status.TheVariants.{BadScript}
use Rattle.call_files.specs.Scenarios.{given_script}
use Rattle.call_files.specs.Status.{trace_status, journal_status}

-- what the bytes of a journal are read as
abbrev pub journal_read : NetworkAsked → (Role → List ℕ) → Result (List Choice) JournalFault
journal_read s bytes = journal_of s.kind (length s.instances) (bytes JournalIn)

-- the status that refuses a capture
abbrev pub trace_refusal : Result Captured TraceFault → Option Status
trace_refusal (Ok trace) = None
trace_refusal (Err fault) = Some (trace_status fault)

-- the status that refuses a script
abbrev pub script_refusal : Result ScriptView (ℕ × ScriptKind) → Option Status
script_refusal (Ok script) = None
script_refusal (Err fault) = Some (BadScript fault.0 fault.1)

-- the status that refuses a journal
abbrev pub journal_refusal : Result (List Choice) JournalFault → Option Status
journal_refusal (Ok choices) = None
journal_refusal (Err fault) = Some (journal_status fault)

-- the first of two refusals
abbrev pub first_refusal : Option Status → Option Status → Option Status
first_refusal None next = next
first_refusal (Some status) next = Some status

-- a run's script comes before its capture
abbrev pub inputs_refusal : NetworkAsked → (Role → List ℕ) → Option Status
inputs_refusal s bytes = first_refusal (script_refusal (given_script s (bytes Script))) (trace_refusal (capture_of (bytes Trace)))

-- the first refusal for these input bytes, if there is one: a journal comes last
abbrev pub refusal_of : Asked → (Role → List ℕ) → Option Status
refusal_of (asks_sim s schedule) bytes = inputs_refusal s bytes
refusal_of (asks_run s) bytes = inputs_refusal s bytes
refusal_of (asks_audit s) bytes = first_refusal (inputs_refusal s bytes) (journal_refusal (journal_read s bytes))
refusal_of (asks_fail f) bytes = first_refusal (inputs_refusal f.network bytes) (journal_refusal (journal_read f.network bytes))
refusal_of (asks_check c) bytes = script_refusal (script_of c.kind (names_of c.instances) (bytes Script))
refusal_of (asks_gen g) bytes = None
refusal_of (asks_published p schedule) bytes = trace_refusal (capture_of (bytes Trace))
refusal_of (asks_strong s schedule) bytes = trace_refusal (capture_of (bytes Trace))

-- the first refusal for what a command reads before this input, if there is one
abbrev pub earlier_refusal : Asked → Role → (Role → List ℕ) → Option Status
earlier_refusal (asks_sim s schedule) Trace bytes = script_refusal (given_script s (bytes Script))
earlier_refusal (asks_run s) Trace bytes = script_refusal (given_script s (bytes Script))
earlier_refusal (asks_audit s) Trace bytes = script_refusal (given_script s (bytes Script))
earlier_refusal (asks_audit s) JournalIn bytes = inputs_refusal s bytes
earlier_refusal (asks_fail f) Trace bytes = script_refusal (given_script f.network (bytes Script))
earlier_refusal (asks_fail f) JournalIn bytes = inputs_refusal f.network bytes
earlier_refusal asked role bytes = None
