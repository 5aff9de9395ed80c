-- What each node of a two-phase update does with each message. The switch is node 0, the controller node 1, the source node 2 and the
-- destination node 3. This project's own, after the published two-phase update.
use Rattle.std.specs.Prelude.{ℕ, ◌==◌, ◌&&◌, not, nat_lt, Bool, true, false, if◌then◌else◌, List, [], ◌∷◌, ◌++◌, map, Option, None, Some, unwrap_or}
use Rattle.flow_filter.specs.declared.packet.Packet.{Packet}
use Rattle.flow_filter.specs.Flow.{flow_of}
use Rattle.nf_function.specs.declared.chunk.Chunk.{Chunk}
use Rattle.nf_function.specs.Semantics.{Semantics}
use Rattle.event_filter.specs.declared.action.Action.TheVariants as action
use Rattle.event_filter.specs.declared.mark.Mark.TheVariants.{Plain, Pass}
use Rattle.switch_rules.specs.declared.target.Target.{Target}
use Rattle.switch_rules.specs.declared.target.Target.TheVariants.{Instance as ToInstance, Controller as ToController}
use Rattle.switch_rules.specs.Rules.{first_match, rules_redirected}
use Rattle.packet_pool.specs.Pool.{FullCell}
use Rattle.packet_window.specs.Window.{has_room, has_ended, cell_for, with_one, with_home, with_end}
use Rattle.nf_msgs.specs.declared.msg.Msg.{Msg}
use Rattle.nf_msgs.specs.declared.msg.Msg.TheVariants.{Carry, Stop, Enable, Get, Delete, Restore, Fence, Enabled}
use Rattle.nf_msgs.specs.declared.msg.Msg.TheVariants.{Chunks, Deleted, Restored, Event, Seen, Fenced, Final, Credit}
use Rattle.nf_msgs.specs.declared.note.Note.{Note}
use Rattle.nf_msgs.specs.declared.note.Note.TheVariants.{Arrived}
use Rattle.nf_msgs.specs.Exports.{units_in}
use Rattle.nf_msgs.specs.Nodes.{switch_node, controller_node, instance_node}
use Rattle.instance_worker.specs.declared.instance.Instance.{Instance as InstanceState}
use Rattle.instance_worker.specs.Instance.{instance_step}
use Rattle.actor_net.specs.Network.{Stepped}
use Rattle.net_world.specs.Nodes.{as_node}
use Rattle.two_phase.specs.declared.phase.Phase.{Phase}
use Rattle.two_phase.specs.declared.phase.Phase.TheVariants.{Idle, Freezing, Getting, Deleting, Putting, Holding}
use Rattle.two_phase.specs.declared.phase.Phase.TheVariants.{Laying, Waiting, Turning, Settling, Ending, Over}
use Rattle.two_phase.specs.declared.msg.TwoMsg.{TwoMsg}
use Rattle.two_phase.specs.declared.msg.TwoMsg.TheVariants.{InPacket, InStart, InEnd, Start, End, Copied, Laid, Forward, Lay, Finish, Inner}
use Rattle.two_phase.specs.declared.note.TwoNote.{TwoNote}
use Rattle.two_phase.specs.declared.note.TwoNote.TheVariants.{Low, High, Done, NoPacket}
use Rattle.two_phase.specs.declared.note.TwoNote.TheVariants as note
use Rattle.two_phase.specs.declared.node.TwoNode.{TwoNode}
use Rattle.two_phase.specs.declared.node.TwoNode.TheVariants.{Switch, Ctrl as Controller, Instance}
use Rattle.two_phase.specs.Parts.{SwitchState, ControllerState}

-- the number of the one operation: the update
abbrev pub the_update : ℕ
the_update = 1

-- the source and the destination among the instances, and their nodes
abbrev pub source : ℕ
source = 0

abbrev pub destination : ℕ
destination = 1

abbrev pub source_node : ℕ
source_node = instance_node source

abbrev pub destination_node : ℕ
destination_node = instance_node destination

-- a step of a part of the network
abbrev pub Step : Type 0 → Type 0
Step A = Stepped A TwoMsg TwoNote

abbrev pub still : {A : Type 0} → A → Step A
still a = record { node = a; sends = []; notes = [] }

abbrev pub tell_step : {A : Type 0} → A → ℕ → TwoMsg → Step A
tell_step a to message = record { node = a; sends = (to, message) ∷ []; notes = [] }

-- one step and then another
abbrev pub and_then : {A : Type 0} → Step A → (A → Step A) → Step A
and_then one next = record {
  node = (next one.node).node;
  sends = one.sends ++ (next one.node).sends;
  notes = one.notes ++ (next one.node).notes;
}

-- the switch

-- the target of a packet, by its flow
abbrev pub target_of : SwitchState → Packet → Target
target_of s packet = unwrap_or (first_match s.rules (flow_of s.site packet).0) (ToInstance source)

-- a packet takes a cell, arrives and goes to an instance; then these messages are sent
abbrev pub arrival_step : SwitchState → Packet → ℕ → List (ℕ × TwoMsg) → Step SwitchState
arrival_step s packet i more = record {
  node = record s { window = with_one s.window };
  sends = (instance_node i, Inner (Carry Plain (cell_for s.window packet))) ∷ more;
  notes = note.Inner (Arrived packet.number) ∷ [];
}

-- it goes to its target; where that is the controller, to the source, and a copy of it to the controller
abbrev pub goes_to : SwitchState → Packet → Target → Step SwitchState
goes_to s packet ToController = arrival_step s packet source ((controller_node, Copied packet) ∷ [])
goes_to s packet (ToInstance i) = if nat_lt i 2 then arrival_step s packet i [] else still s

abbrev pub on_packet : SwitchState → Packet → Step SwitchState
on_packet s packet = if has_room s.window then goes_to s packet (target_of s packet) else still s

-- the low rule: from the source to the controller. The high one: from the controller to the destination
abbrev pub with_rule : Bool → SwitchState → SwitchState
with_rule false s = record s { rules = rules_redirected (record { filter = s.filter; from = ToInstance source; to = ToController }) s.rules }
with_rule true s = record s { rules = rules_redirected (record { filter = s.filter; from = ToController; to = ToInstance destination }) s.rules }

abbrev pub on_lay : Bool → SwitchState → Step SwitchState
on_lay high s = record { node = with_rule high s; sends = (controller_node, Laid high) ∷ []; notes = (if high then High else Low) ∷ [] }

-- an instance is to stop; after the destination all is done
abbrev pub on_finish : SwitchState → ℕ → Step SwitchState
on_finish s to =
    if nat_lt to 2
    then tell_step (record s { window = if to == destination then with_end s.window else s.window }) (instance_node to) (Inner Stop)
    else still s

-- the table of the switch. What it doesn't name comes in no run
abbrev pub switch_step : SwitchState → TwoMsg → Step SwitchState
switch_step s (InPacket packet) = on_packet s packet
switch_step s InStart = tell_step s controller_node Start
switch_step s InEnd = tell_step s controller_node End
switch_step s (Forward cell) = tell_step s destination_node (Inner (Carry (Pass the_update) cell))
switch_step s (Lay high) = on_lay high s
switch_step s (Finish to) = on_finish s to
switch_step s (Inner (Credit cell)) = still (record s { window = with_home s.window cell })
switch_step s message = still s

-- whether the switch takes an item of the input now, and whether it has nothing left to do
abbrev pub takes_in : SwitchState → TwoMsg → Bool
takes_in s (InPacket packet) = has_room s.window
takes_in s message = true

abbrev pub has_closed : SwitchState → Bool
has_closed s = has_ended s.window

-- the controller

abbrev pub in_phase : ControllerState → Phase → ControllerState
in_phase c phase = record c { phase = phase }

-- the update begins: the source is to hand out the filter's packets
abbrev pub on_start : Phase → ControllerState → Step ControllerState
on_start Idle c = tell_step (in_phase c Freezing) source_node (Inner (Enable the_update c.filter action.Drop))
on_start phase c = still c

-- what is stored goes on to the destination, in order, and then the low rule is to be laid
abbrev pub forward_messages : List FullCell → List (ℕ × TwoMsg)
forward_messages cells = map (λ cell. (switch_node, Forward cell)) cells

abbrev pub low_asked : ControllerState → Step ControllerState
low_asked c = record { node = record c { phase = Laying; store = [] }; sends = forward_messages c.store ++ (switch_node, Lay false) ∷ []; notes = [] }

-- the source hands out, or the destination holds
abbrev pub on_enabled : Phase → ControllerState → Step ControllerState
on_enabled Freezing c = tell_step (in_phase c Getting) source_node (Inner (Get the_update c.filter))
on_enabled Holding c = low_asked c
on_enabled phase c = still c

abbrev pub on_chunks : Phase → ControllerState → List Chunk → Step ControllerState
on_chunks Getting c chunks = tell_step (record c { phase = Deleting; kept = chunks }) source_node (Inner (Delete the_update (units_in chunks)))
on_chunks phase c chunks = still c

abbrev pub on_deleted : Phase → ControllerState → Step ControllerState
on_deleted Deleting c = tell_step (record c { phase = Putting; kept = [] }) destination_node (Inner (Restore the_update c.kept))
on_deleted phase c = still c

abbrev pub on_restored : Phase → ControllerState → Step ControllerState
on_restored Putting c = tell_step (in_phase c Holding) destination_node (Inner (Enable the_update c.filter action.Buffer))
on_restored phase c = still c

-- a packet that was handed out is stored as long as its unit's record is on its way; afterwards it goes on at once
abbrev pub is_storing : Phase → Bool
is_storing Idle = true
is_storing Freezing = true
is_storing Getting = true
is_storing Deleting = true
is_storing Putting = true
is_storing Holding = true
is_storing phase = false

abbrev pub on_event : ControllerState → FullCell → Step ControllerState
on_event c cell =
    if is_storing c.phase then still (record c { store = c.store ++ cell ∷ [] })
    else tell_step c switch_node (Forward cell)

abbrev pub on_laid : Phase → Bool → ControllerState → Step ControllerState
on_laid Laying false c = still (in_phase c Waiting)
on_laid Turning true c = still (in_phase c Settling)
on_laid phase high c = still c

-- the first packet that is copied asks for the high rule
abbrev pub on_copied : Phase → ControllerState → ℕ → Step ControllerState
on_copied Waiting c number = tell_step (record c { phase = Turning; last = Some number }) switch_node (Lay true)
on_copied Turning c number = still (record c { last = Some number })
on_copied phase c number = still c

-- the destination has processed what it held
abbrev pub on_fenced : Phase → ControllerState → Step ControllerState
on_fenced Ending c = record { node = in_phase c Over; sends = []; notes = Done ∷ [] }
on_fenced phase c = still c

abbrev pub fenced_from : ℕ → ControllerState → Step ControllerState
fenced_from port c = if port == destination_node then on_fenced c.phase c else still c

-- the source has stopped, and so is the destination to; or that has
abbrev pub on_final : ControllerState → ℕ → Step ControllerState
on_final c port =
    if port == source_node then tell_step c switch_node (Finish destination)
    else if port == destination_node then still (record c { stopped = true })
    else still c

-- the row of a message
abbrev pub controller_row : ControllerState → ℕ → TwoMsg → Step ControllerState
controller_row c port Start = on_start c.phase c
controller_row c port End = still (record c { ended = true })
controller_row c port (Copied packet) = on_copied c.phase c packet.number
controller_row c port (Laid high) = on_laid c.phase high c
controller_row c port (Inner (Enabled op)) = on_enabled c.phase c
controller_row c port (Inner (Chunks op chunks)) = on_chunks c.phase c chunks
controller_row c port (Inner (Deleted op)) = on_deleted c.phase c
controller_row c port (Inner (Restored op)) = on_restored c.phase c
controller_row c port (Inner (Event op cell)) = on_event c cell
controller_row c port (Inner (Seen op packet)) = still (record c { seen = Some packet.number })
controller_row c port (Inner (Fenced op)) = fenced_from port c
controller_row c port (Inner Final) = on_final c port
controller_row c port message = still c

-- whether the last packet that was copied is the latest that was seen
abbrev pub are_same : Option ℕ → Option ℕ → Bool
are_same (Some x) (Some y) = x == y
are_same x y = false

-- what is done as soon as it may: the fence once the last packet that was copied is seen, and the verdict once the input has ended
abbrev pub soon : Phase → ControllerState → Step ControllerState
soon Settling c = if are_same c.seen c.last then tell_step (in_phase c Ending) destination_node (Inner (Fence the_update)) else still c
soon Waiting c = if c.ended then record { node = in_phase c Over; sends = []; notes = NoPacket ∷ [] } else still c
soon phase c = still c

-- and the end, once: the source is to stop
abbrev pub is_over : Phase → Bool
is_over Over = true
is_over phase = false

abbrev pub finish_step : ControllerState → Step ControllerState
finish_step c =
    if is_over c.phase && (c.ended && not c.finished) then tell_step (record c { finished = true }) switch_node (Finish source)
    else still c

-- the table of the controller: the row, and then what may be done
abbrev pub controller_step : ControllerState → ℕ → TwoMsg → Step ControllerState
controller_step c port message = and_then (controller_row c port message) (λ d. and_then (soon d.phase d) finish_step)

-- the instances

-- what an instance sends, as a message of the update
abbrev pub sent_inside : ℕ × Msg → ℕ × TwoMsg
sent_inside sent = (sent.0, Inner sent.1)

-- the packet that a message takes past the rules, and that the controller is told
abbrev pub passed : Msg → Option Packet
passed (Carry (Pass op) cell) = Some cell.packet
passed message = None

abbrev pub told_of : Option Packet → List (ℕ × TwoMsg)
told_of (Some packet) = (controller_node, Inner (Seen the_update packet)) ∷ []
told_of None = []

module _ {F R : Type 0} where
  -- an instance does as in the network, and tells the controller besides which packet it took past its rules
  abbrev pub wrapped_step : Stepped (InstanceState F R) Msg Note → Step (InstanceState F R)
  wrapped_step did = record { node = did.node; sends = map sent_inside did.sends; notes = map note.Inner did.notes }

  abbrev pub with_told : Option Packet → Step (InstanceState F R) → Step (InstanceState F R)
  with_told packet did = record did { sends = did.sends ++ told_of packet }

  abbrev pub inner_step : Semantics R → InstanceState F R → TwoMsg → Step (InstanceState F R)
  inner_step f i (Inner message) = with_told (passed message) (wrapped_step (instance_step f i message))
  inner_step f i message = still i

  -- what a node does: its row of the tables
  abbrev pub node_step : Semantics R → TwoNode F R → ℕ → TwoMsg → Step (TwoNode F R)
  node_step f (Switch s) port message = as_node Switch (switch_step s message)
  node_step f (Controller c) port message = as_node Controller (controller_step c port message)
  node_step f (Instance i) port message = as_node Instance (inner_step f i message)

  -- the switch takes a packet of the input where it has room
  abbrev pub node_ready : TwoNode F R → TwoMsg → Bool
  node_ready (Switch s) message = takes_in s message
  node_ready node message = true

  abbrev pub node_ended : TwoNode F R → Bool
  node_ended (Switch s) = has_closed s
  node_ended (Controller c) = c.stopped
  node_ended (Instance i) = i.ended
