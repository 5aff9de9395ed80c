-- The switch: what it holds, and what it does with each message. This project's own.
use Rattle.std.specs.Prelude.{ℕ, zero, suc, ◌+◌, ◌-◌, ◌^◌, ◌==◌, ◌&&◌, ◌||◌, Bool, true, not, nat_lt, min, List, [], ◌∷◌, ◌++◌, unwrap_or, if◌then◌else◌}
use Rattle.flow_filter.specs.declared.packet.Packet.{Packet}
use Rattle.flow_filter.specs.declared.site.Site.{Site}
use Rattle.flow_filter.specs.declared.filter.Filter.{Filter}
use Rattle.flow_filter.specs.Flow.{flow_of}
use Rattle.event_filter.specs.declared.mark.Mark.TheVariants.{Plain}
use Rattle.switch_rules.specs.declared.target.Target.{Target}
use Rattle.switch_rules.specs.declared.target.Target.TheVariants.{Instance, Controller}
use Rattle.switch_rules.specs.Rules.{Rule, first_match, rules_redirected}
use Rattle.packet_pool.specs.Pool.{PoolState, FullCell, one_less, one_more}
use Rattle.nf_msgs.specs.declared.command.Command.{Command}
use Rattle.nf_msgs.specs.declared.msg.Msg.{Msg}
use Rattle.nf_msgs.specs.declared.msg.Msg.TheVariants.{InPacket, InCommand, InSettle, InEnd, Asked, Diverted, End, Forward}
use Rattle.nf_msgs.specs.declared.msg.Msg.TheVariants.{Install, FenceTo, Answered, Finish, Carry, Fence, Stop, Credit}
use Rattle.nf_msgs.specs.declared.note.Note.{Note}
use Rattle.nf_msgs.specs.declared.note.Note.TheVariants.{Arrived, Installed}
use Rattle.nf_msgs.specs.Nodes.{controller_node, instance_node}
use Rattle.actor_net.specs.Network.{Stepped}
use Rattle.switch_node.specs.declared.switch.TheConstants.{MOST_WAITING}

-- what the switch holds: how many packets are under way, how many commands wait for their answer, and whether all is done
pub record SwitchState : Type 0 where
  pub rules : List Rule
  pub pool : PoolState
  pub site : Site
  pub instances : ℕ
  pub flying : ℕ
  pub waiting : ℕ
  pub closed : Bool

-- a step of the switch
abbrev pub Step : Type 0
Step = Stepped SwitchState Msg Note

-- the switch stays as it is, and sends nothing
abbrev pub still : SwitchState → Step
still s = record { node = s; sends = []; notes = [] }

-- the switch stays as it is, and sends a message to a node
abbrev pub sends_on : SwitchState → ℕ → Msg → Step
sends_on s to message = record { node = s; sends = (to, message) ∷ []; notes = [] }

-- the same to an instance, if it is there
abbrev pub sends_to_instance : SwitchState → ℕ → Msg → Step
sends_to_instance s i message = if nat_lt i s.instances then sends_on s (instance_node i) message else still s

-- the target of a packet, by its flow
abbrev pub target_of : SwitchState → Packet → Target
target_of s packet = unwrap_or (first_match s.rules (flow_of s.site packet).0) (Instance 0)

-- a packet takes a cell and arrives; it is sent on in this message
abbrev pub arrival_step : SwitchState → Packet → ℕ → (FullCell → Msg) → Step
arrival_step s packet to message = record {
  node = record s { pool = one_less s.pool; flying = s.flying + 1 };
  sends = (to, message (record { pool = s.pool.name; packet = packet })) ∷ [];
  notes = Arrived packet.number ∷ [];
}

-- a packet goes to its target
abbrev pub goes_to : SwitchState → Packet → Target → Step
goes_to s packet Controller = arrival_step s packet controller_node Diverted
goes_to s packet (Instance i) = if nat_lt i s.instances then arrival_step s packet (instance_node i) (Carry Plain) else still s

-- whether one packet more may be under way
abbrev pub has_room : SwitchState → Bool
has_room s = nat_lt s.flying s.pool.cells

-- a packet of the input
abbrev pub on_packet : SwitchState → Packet → Step
on_packet s packet = if has_room s then goes_to s packet (target_of s packet) else still s

-- a command of the input: it waits for its answer
abbrev pub on_command : SwitchState → Command → Step
on_command s command = record {
  node = record s { waiting = min (s.waiting + 1) (2 ^ 32 - 1) };
  sends = (controller_node, Asked command) ∷ [];
  notes = [];
}

-- whether a target is there
abbrev pub is_there : SwitchState → Target → Bool
is_there s Controller = true
is_there s (Instance i) = nat_lt i s.instances

-- a change of the rules, with a fence after the packets of the old ones
abbrev pub on_install : SwitchState → ℕ → Filter → ℕ → Target → Step
on_install s op filter from to =
    if nat_lt from s.instances && is_there s to
    then record {
      node = record s { rules = rules_redirected (record { filter = filter; from = Instance from; to = to }) s.rules };
      sends = (instance_node from, Fence op) ∷ [];
      notes = Installed op ∷ [];
    }
    else still s

-- a stop to each of the first instances, in order
abbrev pub stop_messages : ℕ → List (ℕ × Msg)
stop_messages zero = []
stop_messages (suc i) = stop_messages i ++ (instance_node i, Stop) ∷ []

-- a cell comes home, if it is one of the pool's
abbrev pub on_credit : SwitchState → FullCell → Step
on_credit s cell =
    if (s.flying == 0) || not (cell.pool == s.pool.name) then still s
    else record { node = record s { pool = one_more s.pool; flying = s.flying - 1 }; sends = []; notes = [] }

-- the table of the switch. What it doesn't name comes in no run
abbrev pub switch_step : SwitchState → Msg → Step
switch_step s (InPacket packet) = on_packet s packet
switch_step s (InCommand command) = on_command s command
switch_step s InEnd = sends_on s controller_node End
switch_step s (Forward to mark parcel) = sends_to_instance s to (Carry mark parcel)
switch_step s (Install op filter from to) = on_install s op filter from to
switch_step s (FenceTo op to) = sends_to_instance s to (Fence op)
switch_step s (Answered op) = record { node = record s { waiting = s.waiting - 1 }; sends = []; notes = [] }
switch_step s Finish = record { node = record s { closed = true }; sends = stop_messages s.instances; notes = [] }
switch_step s (Credit cell) = on_credit s cell
switch_step s message = still s

-- whether the switch takes an item of the input now
abbrev pub takes_in : SwitchState → Msg → Bool
takes_in s (InPacket packet) = has_room s
takes_in s (InCommand command) = nat_lt s.waiting MOST_WAITING
takes_in s InSettle = s.waiting == 0
takes_in s message = true

-- whether the switch has nothing left to do
abbrev pub has_closed : SwitchState → Bool
has_closed s = s.closed && (s.flying == 0)
