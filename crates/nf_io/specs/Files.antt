-- What an outside over files tells of each role: its count of faults, its name, and the bytes of its own file or stream where the system tells them.
-- This project's own.
use Rattle.std.specs.Prelude.{ℕ, List, Option, None, if◌then◌else◌, option_map, option_and_then, slice_index}
use Rattle.nf_io.specs.declared.outside.Role.{Role}
use Rattle.nf_io.specs.declared.outside.Role.TheVariants.{Trace, Script, JournalIn, Report, JournalOut, TraceOut, Errors}
use Rattle.nf_io.specs.declared.stream.Stream.{Stream}
use Rattle.nf_io.specs.declared.named.NamedFiles.{NamedFiles}
use Rattle.nf_io.specs.Roles.{is_read, role_place}
use Rattle.nf_io.specs.Meaning.{Meaning, Shown}
use Rattle.nf_io.specs.System.{SystemBytes}
use Rattle.nf_io.specs.Streams.{FileBytes, file_ahead, stream_name, stream_left, stream_written}

-- the named file of a role, if it has one
abbrev pub stream_in : {F : Type 0} → NamedFiles F → Role → Option (Stream F)
stream_in files Trace = files.trace
stream_in files Script = files.script
stream_in files JournalIn = files.journal_in
stream_in files Report = None
stream_in files JournalOut = files.journal_out
stream_in files TraceOut = files.trace_out
stream_in files Errors = None

-- the name of a role, if it has one
abbrev pub name_in : {F : Type 0} → NamedFiles F → Role → Option (List ℕ)
name_in files role = option_map stream_name (stream_in files role)

-- the bytes that a file has left, and those that it holds
abbrev pub views : {F : Type 0} → (F → Option (List ℕ)) → (F → Option (List ℕ)) → FileBytes F
views left written = record { left = left; written = written }

-- the bytes of a role's file at hand
abbrev pub ahead_in : {F : Type 0} → NamedFiles F → Role → List ℕ
ahead_in files role = file_ahead (stream_in files role)

-- what a role's file shows before its first use, by the name that the role has got
abbrev pub begun : SystemBytes → Role → List ℕ → Option (List ℕ)
begun told Report name = told.output
begun told Errors name = told.errors
begun told role name = if is_read role then told.opened name else told.created name

-- the bytes that a role has left where it is read, and those that were written to it where it is written: each role those of its own file or stream
abbrev pub told_in : {F : Type 0} → FileBytes F → SystemBytes → NamedFiles F → Role → Option (List ℕ)
told_in view told files Report = told.output
told_in view told files Errors = told.errors
told_in view told files role =
    option_and_then (if is_read role then stream_left view.left told else stream_written view.written told) (stream_in files role)

-- the bytes of a role are those left where it is read, and those written where it is written
abbrev pub of_role : Role → Option (List ℕ) → Shown
of_role role bytes = record { left = if is_read role then bytes else None; written = if is_read role then None else bytes }

-- what a role's file shows under a name
abbrev pub shown_of : SystemBytes → Role → List ℕ → Shown
shown_of told role name = of_role role (begun told role name)

-- what the trait's callers are told of a role, given the bytes of each
abbrev pub seen_of : {F : Type 0} → (Role → Option (List ℕ)) → List ℕ → NamedFiles F → Role → Meaning
seen_of told faults files role = record {
  left = (of_role role (told role)).left;
  written = (of_role role (told role)).written;
  faults = slice_index faults (role_place role);
  name = name_in files role;
}

-- no file is open, no role has a name and no call failed: the two streams alone have bytes
abbrev pub untouched_streams : SystemBytes → Role → Meaning
untouched_streams told Report = record { left = None; written = told.output; faults = 0; name = None }
untouched_streams told Errors = record { left = None; written = told.errors; faults = 0; name = None }
untouched_streams told role = record { left = None; written = None; faults = 0; name = None }
