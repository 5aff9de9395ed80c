-- What a network function is: its table, its texts, and the bodies that its records are stored as. This project's own.
use Rattle.std.specs.Prelude.{ℕ, ◌+◌, ◌-◌, ◌^◌, min, Bool, true, if◌then◌else◌, List, Option, None, Some}
use Rattle.basics.specs.Options.{◌>>=◌}
use Rattle.flow_filter.specs.declared.packet.Packet.{Packet}
use Rattle.flow_filter.specs.declared.site.Site.{Site}
use Rattle.flow_filter.specs.Flow.{flow_of}
use Rattle.nf_function.specs.declared.kind.Kind.{Kind}
use Rattle.nf_function.specs.declared.output.Output.{Output}
use Rattle.nf_function.specs.declared.unit.Unit as units
use Rattle.nf_function.specs.Units.{unit_of, is_transport}

-- what a packet leaves of its unit, and what the function answers
pub record Step (R : Type 0) : Type 0 where
  pub kept : R
  pub output : Output

-- a function whose records are `R`
pub record Semantics (R : Type 0) : Type 0 where
  pub kind : Kind
  -- its table: the step of a packet at a site, where this record of the packet's unit is kept, or none
  pub stepped : Site → Option R → Packet → Step R
  -- how many packets a record has counted
  pub packets_of : R → ℕ
  -- the record is one that packets of the unit can have left, and each of its numbers is within its type
  pub is_valid : units.Unit → R → Bool
  -- the bytes that a record is stored as
  pub body_of : R → List ℕ
  -- the record that such bytes spell, if any
  pub spelled : List ℕ → Option R
  -- a step may take memory: where it takes none, it never answers that there is none
  pub takes_memory : Bool
  -- the record holds a time
  pub is_timed : R → Bool
  -- the texts of an output and of a record
  pub output_text : Output → List ℕ
  pub record_text : R → List ℕ

-- a count stays at its greatest number
abbrev pub count : ℕ → ℕ → ℕ
count a b = min (a + b) (2 ^ 64 - 1)

-- the unit of a packet
abbrev pub unit_at : Kind → Site → Packet → units.Unit
unit_at kind site p = unit_of kind (flow_of site p).0

-- what is kept of a packet's unit after the packet. A packet that is neither of TCP nor of UDP leaves it as it is; no capture has one.
abbrev pub kept_after : {R : Type 0} → Semantics R → Site → Option R → Packet → Option R
kept_after f site kept p = if is_transport p.proto then Some (f.stepped site kept p).kept else kept

-- the function's answer to a packet
abbrev pub output_for : {R : Type 0} → Semantics R → Site → Option R → Packet → Output
output_for f site kept p = (f.stepped site kept p).output

-- the record of the unit that bytes spell: one that is valid for it
abbrev pub record_in : {R : Type 0} → Semantics R → units.Unit → List ℕ → Option R
record_in f unit bytes = f.spelled bytes >>= λ r. if f.is_valid unit r then Some r else None

-- nothing is kept of the unit, or a record that is valid for it
abbrev pub is_sound : {R : Type 0} → Semantics R → units.Unit → Option R → Bool
is_sound f unit None = true
is_sound f unit (Some r) = f.is_valid unit r

-- how many packets what is kept has counted
abbrev pub packets_in : {R : Type 0} → Semantics R → Option R → ℕ
packets_in f None = 0
packets_in f (Some r) = f.packets_of r
