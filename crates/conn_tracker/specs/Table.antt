-- The connection tracker's table. The flags are those of RFC 9293; the states are this project's own.
use Rattle.std.specs.Prelude.{ℕ, ◌-◌, ◌*◌, ◌^◌, ◌≡◌, ◌≤◌, ◌&&◌, nat_le, nat_lt, Bool, true, false}
use Rattle.std.specs.Prelude.{not, max, if◌then◌else◌, List, [], ◌∷◌, codes, Option, None, Some}
use Rattle.flow_filter.specs.declared.packet.Packet.{Packet}
use Rattle.flow_filter.specs.declared.site.Site.{Site}
use Rattle.flow_filter.specs.declared.flow.Direction.{Direction}
use Rattle.flow_filter.specs.declared.flow.Direction.TheVariants.{Out, In}
use Rattle.flow_filter.specs.Flow.{flow_of}
use Rattle.nf_function.specs.Semantics.{count}
use Rattle.nf_function.specs.Units.{is_tcp}
use Rattle.conn_tracker.specs.declared.state.State.{State}
use Rattle.conn_tracker.specs.declared.state.State.TheVariants.{Opening, Answered, Established, FinFwd, FinRev, Closed, Reset, Loose, Single, Both}
use Rattle.conn_tracker.specs.declared.class.Class.{Class}
use Rattle.conn_tracker.specs.declared.class.Class.TheVariants.{Rst, SynAck, Syn, Fin, Other}
use Rattle.conn_tracker.specs.declared.record.TrackRecord.{TrackRecord}
use Rattle.flow_filter.specs.Packet.{fin, syn, rst, ack, has_flag}

-- the class of a TCP packet, by its flags: the first that holds
abbrev pub class_of : ℕ → Class
class_of flags =
    if has_flag flags rst then Rst
    else if has_flag flags syn && has_flag flags ack then SynAck
    else if has_flag flags syn then Syn
    else if has_flag flags fin then Fin
    else Other

-- the table of TCP: the state after a packet, which goes in the opener's direction where `forward` is true. The first row that applies counts. The states
-- of UDP don't meet a TCP packet, and stay.
abbrev pub next_tcp : State → Class → (forward : Bool) → State
next_tcp Single class forward = Single
next_tcp Both class forward = Both
next_tcp Closed Syn forward = Opening
next_tcp Reset Syn forward = Opening
next_tcp Closed class forward = Closed
next_tcp Reset class forward = Reset
next_tcp state Rst forward = Reset
next_tcp Opening SynAck false = Answered
next_tcp Answered Other true = Established
next_tcp Loose Other false = Established
next_tcp FinFwd Fin false = Closed
next_tcp FinRev Fin true = Closed
next_tcp FinFwd class forward = FinFwd
next_tcp FinRev class forward = FinRev
next_tcp state Fin true = FinFwd
next_tcp state Fin false = FinRev
next_tcp state class forward = state

-- the table of UDP: one direction, and then both ways. The states of TCP don't meet a UDP packet, and stay.
abbrev pub next_udp : State → (forward : Bool) → State
next_udp Single false = Both
next_udp state forward = state

-- a SYN begins anew after a connection that has ended
abbrev pub restarts : State → Class → Bool
restarts Closed Syn = true
restarts Reset Syn = true
restarts state class = false

-- the state of a TCP connection whose first packet has this class and goes in `direction`, and the direction of its opener: a SYN with an ACK answers
-- an opener that wasn't seen
abbrev pub first_tcp : Class → Direction → State × Direction
first_tcp Rst direction = (Reset, direction)
first_tcp SynAck direction = (Answered, elim direction [ Out ↦ In | In ↦ Out ])
first_tcp Syn direction = (Opening, direction)
first_tcp Fin direction = (FinFwd, direction)
first_tcp Other direction = (Loose, direction)

-- both directions are the same
abbrev pub is_same_direction : Direction → Direction → Bool
is_same_direction Out Out = true
is_same_direction In In = true
is_same_direction a b = false

-- the record of a flow's first packet, which goes in `direction`
abbrev pub first_record : Packet → Direction → TrackRecord
first_record p direction =
    let first : State × Direction = if is_tcp p.proto then first_tcp (class_of p.flags) direction else (Single, direction) in
    record { state = first.0; opener = first.1; packets = 1; bytes = p.length; seen = p.nanos }

-- the record after a further packet, which goes in `direction`. Where the record is idle, as the packet comes more than 300 seconds after the last,
-- the flow begins anew, and the counts go on. A time of 0 means that none is known.
abbrev pub next_record : TrackRecord → Packet → Direction → TrackRecord
next_record r p direction =
    let begun = first_record p direction in
    let idle = nat_le 1 r.seen && nat_lt (300 * 10 ^ 9) (p.nanos - r.seen) in
    let forward = is_same_direction direction r.opener in
    let next = if is_tcp p.proto then next_tcp r.state (class_of p.flags) forward else next_udp r.state forward in
    record {
      state = if idle then begun.state else next;
      opener = if idle then begun.opener else if is_tcp p.proto && restarts r.state (class_of p.flags) then direction else r.opener;
      packets = count r.packets 1;
      bytes = count r.bytes p.length;
      seen = max r.seen p.nanos;
    }

-- the record after a packet
unfoldable pub step_of : Site → Option TrackRecord → Packet → TrackRecord
step_of site None p = first_record p (flow_of site p).1
step_of site (Some r) p = next_record r p (flow_of site p).1

-- the numbers that outputs and stored records use for the states
abbrev pub state_number : State → ℕ
state_number = elim [ Opening ↦ 0 | Answered ↦ 1 | Established ↦ 2 | FinFwd ↦ 3 | FinRev ↦ 4 | Closed ↦ 5 | Reset ↦ 6 | Loose ↦ 7 | Single ↦ 8 | Both ↦ 9 ]

-- the names of the states, in the order of these numbers
abbrev pub state_names : List (List ℕ)
state_names =
    codes "opening" ∷ codes "answered" ∷ codes "established" ∷ codes "finfwd" ∷ codes "finrev" ∷ codes "closed" ∷ codes "reset" ∷ codes "loose"
    ∷ codes "single" ∷ codes "both" ∷ []

abbrev pub is_udp_state : State → Bool
is_udp_state Single = true
is_udp_state Both = true
is_udp_state state = false

-- a record that packets of this protocol can have left
pub record IsTrackRecord (proto : ℕ) (r : TrackRecord) : Type 0 where
  pub counted : 1 ≤ r.packets
  pub fits : is_udp_state r.state ≡ not (is_tcp proto)
