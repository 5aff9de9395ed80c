-- Which files each command names, which roles it reads, and to which it writes results. This project's own.
use Rattle.std.specs.Prelude.{ℕ, List, Option, None, Some, Bool, true, false, not, ◌&&◌, if◌then◌else◌, is_some}
use Rattle.nf_io.specs.declared.outside.Role.{Role}
use Rattle.nf_io.specs.declared.outside.Role.TheVariants.{Trace, Script, JournalIn, Report, JournalOut, TraceOut, Errors}
use Rattle.nf_io.specs.Roles.{is_read, same_role}
use Rattle.command_words.specs.Requests.{Asked, NetworkAsked, asks_sim, asks_run, asks_audit, asks_fail, asks_check, asks_gen, asks_published, asks_strong}

-- the capture and the script of a run of the network
abbrev pub run_file : NetworkAsked → Role → Option (List ℕ)
run_file s Trace = Some s.trace
run_file s Script = s.script
run_file s role = None

-- a capture alone
abbrev pub trace_file : List ℕ → Role → Option (List ℕ)
trace_file trace Trace = Some trace
trace_file trace role = None

-- the roles of journals
abbrev pub is_journal : Role → Bool
is_journal JournalIn = true
is_journal JournalOut = true
is_journal role = false

-- with its journal, at the role for it
abbrev pub with_journal : NetworkAsked → Role → Role → Option (List ℕ)
with_journal s journal role = if same_role role journal then s.journal else run_file s role

-- the file that the words give to a role: a journal is written by `sim` and `run`, and read by `audit` and `fail`
abbrev pub file_for : Asked → Role → Option (List ℕ)
file_for (asks_sim s schedule) role = with_journal s JournalOut role
file_for (asks_run s) role = with_journal s JournalOut role
file_for (asks_audit s) role = with_journal s JournalIn role
file_for (asks_fail f) role = with_journal f.network JournalIn role
file_for (asks_check c) Script = Some c.script
file_for (asks_gen g) TraceOut = Some g.trace
file_for (asks_published p schedule) role = trace_file p.trace role
file_for (asks_strong s schedule) role = trace_file s.trace role
file_for asked role = None

-- an input of the command: a role that is read, and has a file
abbrev pub is_input : Asked → Role → Bool
is_input asked role = is_read role && is_some (file_for asked role)

-- whether one input is read before another: the script, then the capture, then a journal
abbrev pub is_read_before : Role → Role → Bool
is_read_before Script Trace = true
is_read_before Script JournalIn = true
is_read_before Trace JournalIn = true
is_read_before first second = false

-- a result of the command: the report, and each other role that is written and has a file
abbrev pub is_result : Asked → Role → Bool
is_result asked Report = true
is_result asked Errors = false
is_result asked role = not (is_read role) && is_some (file_for asked role)

-- whether one result is written before another: the report is the last
abbrev pub comes_before : Role → Role → Bool
comes_before first second = not (same_role first Report) && same_role second Report
