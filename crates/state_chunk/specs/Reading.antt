-- How a chunk is read: from the front, and the first part that is missing or wrong decides. This project's own format.
use Rattle.std.specs.Prelude.{◌≡◌, ℕ, ◌==◌, ◌&&◌, ◌||◌, nat_lt, Bool, true, false, if◌then◌else◌}
use Rattle.std.specs.Prelude.{List, [], ◌∷◌, length, take, drop, Option, None, Some, Result, Ok, Err}
use Rattle.basics.specs.Options.{◌>>=◌}
use Rattle.nf_function.specs.declared.kind.Kind.{Kind}
use Rattle.nf_function.specs.declared.kind.Scope.{Scope}
use Rattle.nf_function.specs.declared.kind.Scope.TheVariants.{AllFlows}
use Rattle.nf_function.specs.declared.unit.Unit as units
use Rattle.nf_function.specs.declared.unit.Unit.TheVariants.{Flow as OfFlow, Host as OfHost}
use Rattle.nf_function.specs.Stored.{first_byte, first_number, first_items, plain_version, timed_version}
use Rattle.nf_function.specs.Stored as stored
use Rattle.nf_function.specs.Units.{has_hosts, has_times, is_transport}
use Rattle.nf_function.specs.Semantics.{Semantics, record_in}
use Rattle.nf_function.specs.declared.function.BodyFault.{BodyFault}
use Rattle.nf_function.specs.declared.function.BodyFault.TheVariants.{Body, NoMemory}
use Rattle.state_chunk.specs.declared.fault.ChunkFault.{ChunkFault}
use Rattle.state_chunk.specs.declared.fault.ChunkFault.TheVariants as fault
use Rattle.state_chunk.specs.Format.{kind_number, scope_number, version_number, record_scope}
use Rattle.flow_filter.specs.Limits.{most_instances}

abbrev pub Read : Type 0 → Type 0
Read X = Result X ChunkFault

-- go on with what was read
abbrev pub then_read : {X Y : Type 0} → Read X → (X → Read Y) → Read Y
then_read (Ok x) next = next x
then_read (Err e) next = Err e

-- a part that must be there
abbrev pub part : {X : Type 0} → Option X → Read X
part None = Err fault.Short
part (Some x) = Ok x

-- a test that must hold
abbrev pub checked : {X : Type 0} → Bool → ChunkFault → Read X → Read X
checked true e next = next
checked false e next = Err e

-- the first n bytes, and those after them
abbrev pub first_bytes : ℕ → List ℕ → Option (List ℕ × List ℕ)
first_bytes n bytes = if nat_lt (length bytes) n then None else Some (take n bytes, drop n bytes)

-- a flow's key, and the bytes after it
unfoldable pub first_flow : List ℕ → Option (units.Unit × List ℕ)
first_flow bytes = do
  proto ← first_byte bytes
  local ← first_number 4 proto.1
  lport ← first_number 2 local.1
  remote ← first_number 4 lport.1
  rport ← first_number 2 remote.1
  Some (OfFlow (record { local = local.0; remote = remote.0; lport = lport.0; rport = rport.0; proto = proto.0 }), rport.1)

-- a host's key, and the bytes after it
unfoldable pub first_host : List ℕ → Option (units.Unit × List ℕ)
first_host bytes = do
  host ← first_number 4 bytes
  Some (OfHost host.0, host.1)

-- the key of a unit of the function, and the bytes after it
abbrev pub first_key : Kind → List ℕ → Option (units.Unit × List ℕ)
first_key kind bytes = if has_hosts kind then first_host bytes else first_flow bytes

-- a key names TCP or UDP, or a host
abbrev pub is_known : units.Unit → Bool
is_known (OfFlow flow) = is_transport flow.proto
is_known (OfHost host) = true

-- the version with times is for the records of functions with times
abbrev pub may_have : ℕ → Bool → Bool
may_have version timed = version == plain_version || timed

-- version, kind and scope, which must be those that are asked for: the version, and the bytes after them
unfoldable pub header_of : Kind → Scope → Bool → List ℕ → Read (ℕ × List ℕ)
header_of kind scope timed bytes =
    then_read (part (first_byte bytes)) λ version.
    checked (version.0 == plain_version || version.0 == timed_version) (fault.Version version.0) (
    then_read (part (first_byte version.1)) λ kind_byte.
    checked (kind_byte.0 == kind_number kind && may_have version.0 (has_times kind)) fault.Kind (
    then_read (part (first_byte kind_byte.1)) λ scope_byte.
    checked (scope_byte.0 == scope_number scope && may_have version.0 timed) fault.Kind (
    Ok (version.0, scope_byte.1))))

-- the length of the body and the body, and the bytes after it
unfoldable pub body_in : List ℕ → Read (List ℕ × List ℕ)
body_in bytes =
    then_read (part (first_number 2 bytes)) λ size.
    part (first_bytes size.0 size.1)

-- the record that a body spells, where the version is the one that it needs
abbrev pub record_of_version : {R : Type 0} → Semantics R → ℕ → Option R → Read R
record_of_version f version None = Err fault.Body
record_of_version f version (Some r) = checked (version_number (f.is_timed r) == version) fault.Body (Ok r)

-- nothing comes after the body
abbrev pub at_end : {X : Type 0} → List ℕ → X → Read X
at_end [] x = Ok x
at_end (byte ∷ more) x = Err fault.Extra

-- the unit and the record of a chunk
unfoldable pub record_read : {R : Type 0} → Semantics R → List ℕ → Read (units.Unit × R)
record_read f bytes =
    then_read (header_of f.kind (record_scope f.kind) (has_times f.kind) bytes) λ header.
    then_read (part (first_key f.kind header.1)) λ key.
    checked (is_known key.0) fault.Key (
    then_read (body_in key.1) λ body.
    then_read (record_of_version f header.0 (record_in f key.0 body.0)) λ r.
    at_end body.1 (key.0, r))

-- numbers of 8 bytes, as many as are wanted and no more
abbrev pub numbers_in : ℕ → List ℕ → Option (List ℕ)
numbers_in n bytes = first_items (first_number 8) n bytes >>= stored.at_end

abbrev pub slots_of : Option (List ℕ) → Read (List ℕ)
slots_of None = Err fault.Body
slots_of (Some slots) = Ok slots

-- the slots of a tally's chunk
unfoldable pub tally_read : Kind → List ℕ → Read (List ℕ)
tally_read kind bytes =
    then_read (header_of kind AllFlows false bytes) λ header.
    then_read (body_in header.1) λ body.
    then_read (slots_of (numbers_in most_instances body.0)) λ slots.
    at_end body.1 slots

-- a body's fault as one of the chunk
abbrev pub chunk_fault : BodyFault → ChunkFault
chunk_fault Body = fault.Body
chunk_fault NoMemory = fault.NoMemory

-- what a call gave is what reading gives; out of memory is free
abbrev pub DecodesTo : {X Y : Type 0} → (X → Y) → Result X ChunkFault → Read Y → Type 0
DecodesTo view (Ok x) read = read ≡ Ok (view x)
DecodesTo view (Err fault.NoMemory) read = Unit {0}
DecodesTo view (Err e) read = read ≡ Err e
