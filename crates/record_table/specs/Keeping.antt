-- Steps between code and definition, which nobody has to believe: which record is kept where one is held and one comes, which
-- records are listed, and why chunks give no records.
use Rattle.std.specs.Prelude.{◌≡◌, ℕ, ◌+◌, ◌*◌, ◌^◌, ◌<◌, Bool, true, if◌then◌else◌, List, map, Option, None, Some}
use Rattle.std.specs.List.{filter_map}
use Rattle.std.specs.Ordering.{is_lt}
use Rattle.std.specs.FinMap as finite
use Rattle.std.specs.Borrow.{Bor}
use Rattle.flow_filter.specs.declared.filter.Filter.{Filter}
use Rattle.flow_filter.specs.declared.flow.Flow.{Flow}
use Rattle.nf_function.specs.declared.chunk.Chunk.{Chunk}
use Rattle.nf_function.specs.declared.unit.Unit as units
use Rattle.nf_function.specs.declared.unit.Unit.TheVariants.{Flow as OfFlow, Host as OfHost}
use Rattle.nf_function.specs.Units.{takes, unit_cmp}
use Rattle.nf_function.specs.Records.{newest}
use Rattle.nf_function.specs.Semantics.{Semantics}
use Rattle.unit_map.specs.Entries.{Entries}
use Rattle.record_table.specs.declared.ordered.Found.{Found}
use Rattle.record_table.specs.declared.reading.ReadFault.{ReadFault}
use Rattle.record_table.specs.declared.reading.ReadFault.TheVariants.{Bad, NoMemory}
use Rattle.record_table.specs.declared.refusal.ImportFault.{ImportFault}
use Rattle.record_table.specs.declared.refusal.ImportFault.TheVariants as fault
use Rattle.record_table.specs.declared.record_map.Keep.{Keep}
use Rattle.record_table.specs.declared.record_map.Keep.TheVariants.{Newest, Coming}
use Rattle.record_table.specs.Table.{Records}
use Rattle.record_table.specs.Chunks.{IsFirstBad}

abbrev pub choice : {R : Type 0} → Semantics R → Keep → R → R → R
choice f Newest held coming = newest f held coming
choice f Coming held coming = coming

-- the filter, if there is one, takes the unit
abbrev pub is_taken : Option Filter → units.Unit → Bool
is_taken None unit = true
is_taken (Some filter) unit = takes filter unit

-- the records of such units
abbrev pub records_taken : {R : Type 0} → Option Filter → Records R → Records R
records_taken filter records = finite.retain_keys records (is_taken filter)

-- the record of an entry, where it has one and its unit is such a unit
abbrev pub record_found : {R : Type 0} → Option Filter → units.Unit × Option R → Option (units.Unit × R)
record_found filter (unit, None) = None
record_found filter (unit, Some r) = if is_taken filter unit then Some (unit, r) else None

abbrev pub all_found : {R : Type 0} → Option Filter → Entries units.Unit R → List (units.Unit × R)
all_found filter entries = filter_map (record_found filter) entries

-- each field of the flow is within its type
pub record AreWithin (flow : Flow) : Type 0 where
  pub local : flow.local < 2 ^ 32
  pub remote : flow.remote < 2 ^ 32
  pub lport : flow.lport < 2 ^ 16
  pub rport : flow.rport < 2 ^ 16
  pub proto : flow.proto < 2 ^ 8

abbrev pub IsWithin : units.Unit → Type 0
IsWithin (OfFlow flow) = AreWithin flow
IsWithin (OfHost host) = host < 2 ^ 32

-- a flow as one number: its protocol, and then its local and its remote end
abbrev pub flow_number : Flow → ℕ
flow_number flow = ((flow.proto * 2 ^ 32 + flow.local) * 2 ^ 16 + flow.lport) * 2 ^ 64 + (flow.remote * 2 ^ 16 + flow.rport)

-- a unit as one number
abbrev pub unit_number : units.Unit → ℕ
unit_number (OfFlow flow) = flow_number flow
unit_number (OfHost host) = (2 ^ 56 + host) * 2 ^ 64

-- what was found has the number of its unit
pub record IsNumbered {R : Type 0} (record_found : Found R) : Type 0 where
  pub number : record_found.number ≡ unit_number record_found.unit.now
  pub within : IsWithin record_found.unit.now

-- the units and their records, without the numbers
abbrev pub pairs_of : {R : Type 0} → List (Found R) → List (units.Unit × Bor R)
pairs_of record_found = map (λ e. (e.unit.now, e.record)) record_found

-- the unit comes after the last one, if there is one
abbrev pub comes_after : Option units.Unit → units.Unit → Bool
comes_after None unit = true
comes_after (Some last) unit = is_lt (unit_cmp last unit)

abbrev pub IsChunkFault : {R : Type 0} → Semantics R → List Chunk → ReadFault → Type 0
IsChunkFault f chunks (Bad place) = IsFirstBad f chunks place
IsChunkFault f chunks NoMemory = Unit {0}

abbrev pub fault_with : ReadFault → List Chunk → ImportFault
fault_with (Bad place) chunks = fault.Bad place chunks
fault_with NoMemory chunks = fault.NoMemory chunks
