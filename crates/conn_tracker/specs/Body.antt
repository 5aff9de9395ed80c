-- The bytes that a tracker's record is stored as. This project's own format, a body in few numbers: state (1 byte), opener (1: 0 out, 1 in),
-- packets (8), bytes (8), and then seen (8) where it isn't 0.
use Rattle.std.specs.Prelude.{ℕ, ◌^◌, ◌&&◌, nat_le, nat_lt, Bool, false, not, if◌then◌else◌, List, [], ◌∷◌, slice_get, Option, None, Some}
use Rattle.basics.specs.Options.{◌>>=◌}
use Rattle.flow_filter.specs.declared.flow.Direction.{Direction}
use Rattle.flow_filter.specs.declared.flow.Direction.TheVariants.{Out, In}
use Rattle.nf_function.specs.declared.unit.Unit as units
use Rattle.nf_function.specs.declared.unit.Unit.TheVariants.{Flow as OfFlow, Host as OfHost}
use Rattle.nf_function.specs.declared.short.ShortBody.{ShortBody}
use Rattle.nf_function.specs.Short.{short_bytes, short_in}
use Rattle.nf_function.specs.Units.{is_tcp, is_transport_flow}
use Rattle.conn_tracker.specs.declared.record.TrackRecord.{TrackRecord}
use Rattle.conn_tracker.specs.declared.state.State.{State}
use Rattle.conn_tracker.specs.Table.{state_number, is_udp_state}
use Rattle.conn_tracker.specs.States.{state_of}

-- the directions by their numbers
abbrev pub direction_number : Direction → ℕ
direction_number Out = 0
direction_number In = 1

abbrev pub direction_of : ℕ → Option Direction
direction_of number = slice_get (Out ∷ In ∷ []) number

-- a state that packets of the protocol can leave
abbrev pub suits : ℕ → State → Bool
suits proto state = if is_tcp proto then not (is_udp_state state) else is_udp_state state

-- each number of a record is within its type
abbrev pub is_within : TrackRecord → Bool
is_within r = nat_lt r.packets (2 ^ 64) && nat_lt r.bytes (2 ^ 64) && nat_lt r.seen (2 ^ 64)

-- a record of the flow: it has counted a packet, and its state is one of the flow's protocol
abbrev pub is_valid : units.Unit → TrackRecord → Bool
is_valid (OfFlow flow) r = is_transport_flow flow && nat_le 1 r.packets && suits flow.proto r.state && is_within r
is_valid (OfHost host) r = false

-- a record as the numbers that it is stored as
abbrev pub numbers_of : TrackRecord → ShortBody
numbers_of r = record { third = r.packets; fourth = r.bytes; last = r.seen; first = state_number r.state; second = direction_number r.opener }

unfoldable pub body_of : TrackRecord → List ℕ
body_of r = short_bytes (numbers_of r)

-- the record that numbers name
abbrev pub record_named : ShortBody → Option TrackRecord
record_named b = do
  state ← state_of b.first
  opener ← direction_of b.second
  Some (record { packets = b.third; bytes = b.fourth; seen = b.last; state = state; opener = opener })

-- the record that numbers name, where it is valid for the unit
abbrev pub valid_named : units.Unit → ShortBody → Option TrackRecord
valid_named unit b = record_named b >>= λ r. if is_valid unit r then Some r else None

-- the record that bytes spell
abbrev pub spelled : List ℕ → Option TrackRecord
spelled body = short_in body >>= record_named
