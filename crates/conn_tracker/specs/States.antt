-- Steps between code and definition, which nobody has to believe: the states by their numbers, and what the first packet of a flow shows.
use Rattle.std.specs.Prelude.{ℕ, ◌-◌, ◌*◌, ◌^◌, ◌&&◌, nat_le, nat_lt, Bool, if◌then◌else◌, List, [], ◌∷◌, slice_get, Option}
use Rattle.std.specs.List.{slice_index_or}
use Rattle.nf_function.specs.declared.output.Output.{Output}
use Rattle.conn_tracker.specs.declared.record.TrackRecord.{TrackRecord}
use Rattle.flow_filter.specs.declared.packet.Packet.{Packet}
use Rattle.flow_filter.specs.declared.flow.Direction.{Direction}
use Rattle.flow_filter.specs.declared.flow.Direction.TheVariants.{Out, In}
use Rattle.nf_function.specs.Units.{is_tcp}
use Rattle.conn_tracker.specs.declared.class.Class.{Class}
use Rattle.conn_tracker.specs.declared.class.Class.TheVariants.{Rst, SynAck, Syn, Fin, Other}
use Rattle.conn_tracker.specs.declared.state.State.{State}
use Rattle.conn_tracker.specs.declared.state.State.TheVariants.{Opening, Answered, Established, FinFwd, FinRev, Closed, Reset, Loose, Single, Both}
use Rattle.conn_tracker.specs.Table.{state_names, state_number, class_of, is_same_direction, next_tcp, next_udp, restarts}

-- all states, in the order of their numbers
abbrev pub all_states : List State
all_states = Opening ∷ Answered ∷ Established ∷ FinFwd ∷ FinRev ∷ Closed ∷ Reset ∷ Loose ∷ Single ∷ Both ∷ []

-- the states by their numbers
abbrev pub state_of : ℕ → Option State
state_of number = slice_get all_states number

-- the state of a TCP connection whose first packet has this class
abbrev pub state_of_first : Class → State
state_of_first Rst = Reset
state_of_first SynAck = Answered
state_of_first Syn = Opening
state_of_first Fin = FinFwd
state_of_first Other = Loose

-- a SYN with an ACK answers an opener that wasn't seen
abbrev pub first_opener : Class → Direction → Direction
first_opener SynAck Out = In
first_opener SynAck In = Out
first_opener class direction = direction

-- the state of a flow whose first packet this is
abbrev pub first_state : Packet → State
first_state p = if is_tcp p.proto then state_of_first (class_of p.flags) else Single

-- the opener of a flow whose first packet this is, which goes in `direction`
abbrev pub opener_of_first : Packet → Direction → Direction
opener_of_first p direction = if is_tcp p.proto then first_opener (class_of p.flags) direction else direction

-- the output of a packet: the number of the state that it left
abbrev pub output_of : TrackRecord → Output
output_of r = record { code = state_number r.state; a = 0; b = 0 }

abbrev pub name_of : State → List ℕ
name_of state = slice_index_or state_names (state_number state) []

-- the packet comes so long after the record's last that its flow begins anew: more than 300 seconds. A time of 0 means that none is known.
abbrev pub is_idle : TrackRecord → Packet → Bool
is_idle r p = nat_le 1 r.seen && nat_lt (300 * 10 ^ 9) (p.nanos - r.seen)

-- the state that a further packet leaves, which goes in `direction`
abbrev pub next_state : TrackRecord → Packet → Direction → State
next_state r p direction =
    let forward = is_same_direction direction r.opener in
    if is_tcp p.proto then next_tcp r.state (class_of p.flags) forward else next_udp r.state forward

-- the opener after a further packet, which goes in `direction`
abbrev pub next_opener : TrackRecord → Packet → Direction → Direction
next_opener r p direction = if is_tcp p.proto && restarts r.state (class_of p.flags) then direction else r.opener
