-- Strong sharing: what each node does with each message. This project's own, after the strongly consistent sharing of OpenNF.
use Rattle.std.specs.Prelude.{ℕ, suc, ◌+◌, ◌-◌, ◌%◌, ◌==◌, ◌&&◌, Bool, true, false, not, nat_lt, List}
use Rattle.std.specs.Prelude.{[], ◌∷◌, ◌++◌, map, filter, length, if◌then◌else◌, Option, Some, None}
use Rattle.std.specs.List.{range_with_len}
use Rattle.flow_filter.specs.declared.packet.Packet.{Packet}
use Rattle.flow_filter.specs.Filter.{matches}
use Rattle.flow_filter.specs.Flow.{flow_of}
use Rattle.nf_function.specs.declared.chunk.Chunk.{Chunk}
use Rattle.nf_function.specs.Semantics.{Semantics}
use Rattle.event_filter.specs.declared.mark.Mark.TheVariants as mark
use Rattle.packet_pool.specs.Pool.{FullCell}
use Rattle.packet_window.specs.Window.{has_room, has_ended, cell_for, with_one, with_home, with_end}
use Rattle.nf_msgs.specs.declared.msg.Msg.{Msg}
use Rattle.nf_msgs.specs.declared.msg.Msg.TheVariants.{InPacket, InEnd, End, Finish, Carry, Sync, Event, Shared, Synced, Final, Credit}
use Rattle.nf_msgs.specs.declared.note.Note.{Note}
use Rattle.nf_msgs.specs.declared.note.Note.TheVariants.{Arrived}
use Rattle.nf_msgs.specs.Nodes.{switch_node, controller_node, instance_node}
use Rattle.actor_net.specs.Network.{Stepped}
use Rattle.switch_node.specs.Switch.{stop_messages}
use Rattle.instance_worker.specs.Instance.{instance_step}
use Rattle.net_world.specs.Nodes.{as_node}
use Rattle.strong_share.specs.declared.note.StrongNote.{StrongNote}
use Rattle.strong_share.specs.declared.note.StrongNote.TheVariants.{Inner, Queued}
use Rattle.strong_share.specs.Parts.{SwitchState, ControllerState}
use Rattle.strong_share.specs.declared.serving.Serving.{Serving}
use Rattle.strong_share.specs.declared.serving.Serving.TheVariants.{Idle, Out, Syncing}
use Rattle.strong_share.specs.declared.queued_packet.QueuedPacket.{QueuedPacket}
use Rattle.strong_share.specs.declared.node.StrongNode.{StrongNode}
use Rattle.strong_share.specs.declared.node.StrongNode.TheVariants.{Switch, Ctrl as Controller, Instance}

-- the number of the one operation: the share
abbrev pub the_share : ℕ
the_share = 1

-- the first member is the share's home: its records are live
abbrev pub is_home : ℕ → Bool
is_home i = i == 0

-- the switch

abbrev pub SwitchStep : Type 0
SwitchStep = Stepped SwitchState Msg StrongNote

abbrev pub switch_still : SwitchState → SwitchStep
switch_still s = record { node = s; sends = []; notes = [] }

-- the member to which a packet goes: those that the filter matches in turn by their numbers, all others to the first
abbrev pub member_for : SwitchState → Packet → ℕ
member_for s p = if matches s.filter (flow_of s.site p).0 then (p.number - 1) % s.members else 0

-- a packet takes a cell, arrives and goes to its member
abbrev pub on_packet : SwitchState → Packet → SwitchStep
on_packet s p = if has_room s.window then record {
  node = record s { window = with_one s.window };
  sends = (instance_node (member_for s p), Carry mark.Plain (cell_for s.window p)) ∷ [];
  notes = Inner (Arrived p.number) ∷ [];
} else switch_still s

-- the table of the switch. What it doesn't name comes in no run
abbrev pub switch_step : SwitchState → Msg → SwitchStep
switch_step s (InPacket p) = on_packet s p
switch_step s InEnd = record { node = s; sends = (controller_node, End) ∷ []; notes = [] }
switch_step s Finish = record { node = record s { window = with_end s.window }; sends = stop_messages s.members; notes = [] }
switch_step s (Credit cell) = switch_still (record s { window = with_home s.window cell })
switch_step s message = switch_still s

-- whether the switch takes an item of the input now
abbrev pub takes_in : SwitchState → Msg → Bool
takes_in s (InPacket p) = has_room s.window
takes_in s message = true

-- whether the switch has nothing left to do
abbrev pub has_closed : SwitchState → Bool
has_closed s = has_ended s.window

-- the controller

abbrev pub ControllerStep : Type 0
ControllerStep = Stepped ControllerState Msg StrongNote

abbrev pub controller_still : ControllerState → ControllerStep
controller_still c = record { node = c; sends = []; notes = [] }

-- the member that a port is the link from
abbrev pub member_at : ControllerState → ℕ → Option ℕ
member_at c (suc (suc i)) = if nat_lt i c.members then Some i else None
member_at c port = None

-- where no packet is out, the front of the queue goes to the member that raised it, straight
abbrev pub serve_row : ControllerState → Serving → List QueuedPacket → ControllerStep
serve_row c Idle (r ∷ rest) = record {
  node = record c { queue = rest; serving = Out r.member };
  sends = (instance_node r.member, Carry (mark.Shared the_share (is_home r.member)) r.cell) ∷ [];
  notes = [];
}
serve_row c serving queue = controller_still c

abbrev pub serve_step : ControllerState → ControllerStep
serve_step c = serve_row c c.serving c.queue

-- a packet that a member raised goes behind the queue
abbrev pub with_event : ControllerState → ℕ → FullCell → ControllerState
with_event c i cell = record c { queue = c.queue ++ (record { cell = cell; member = i }) ∷ [] }

abbrev pub on_event : ControllerState → ℕ → FullCell → ControllerStep
on_event c i cell = record (serve_step (with_event c i cell)) { notes = Queued cell.packet.number i ∷ [] }

-- so many members but for one
abbrev pub others : ℕ → ℕ → List ℕ
others members one = filter (λ i. not (i == one)) (range_with_len 0 members)

-- the chunk goes to each member but for one, in order
abbrev pub sync_to : Chunk → ℕ → ℕ × Msg
sync_to chunk i = (instance_node i, Sync (is_home i) the_share (chunk ∷ []))

abbrev pub syncs : ℕ → ℕ → Chunk → List (ℕ × Msg)
syncs members one chunk = map (sync_to chunk) (others members one)

-- the packet that is out is processed: each other member is to have its unit's record
abbrev pub shared_row : ControllerState → Serving → ℕ → Chunk → ControllerStep
shared_row c (Out m) i chunk =
    if m == i then record {
      node = record c { serving = Syncing (c.members - 1) };
      sends = syncs c.members i chunk;
      notes = [];
    } else controller_still c
shared_row c serving i chunk = controller_still c

-- a member has the record; where all have it, the next packet is served
abbrev pub synced_row : ControllerState → Serving → ControllerStep
synced_row c (Syncing left) =
    if nat_lt 1 left then controller_still (record c { serving = Syncing (left - 1) })
    else serve_step (record c { serving = Idle })
synced_row c serving = controller_still c

-- a member has stopped
abbrev pub on_final : ControllerState → ControllerStep
on_final c = if nat_lt c.finals c.members then controller_still (record c { finals = c.finals + 1 }) else controller_still c

-- what comes from a member
abbrev pub row_of_member : ControllerState → ℕ → Msg → ControllerStep
row_of_member c i (Event op cell) = on_event c i cell
row_of_member c i (Shared op chunk) = shared_row c c.serving i chunk
row_of_member c i (Synced op) = synced_row c c.serving
row_of_member c i Final = on_final c
row_of_member c i message = controller_still c

-- what comes from the switch: at the end of the input all members are to stop
abbrev pub row_of_switch : ControllerState → Msg → ControllerStep
row_of_switch c End = record { node = c; sends = (switch_node, Finish) ∷ []; notes = [] }
row_of_switch c message = controller_still c

abbrev pub row_of_port : ControllerState → Option ℕ → Msg → ControllerStep
row_of_port c (Some i) message = row_of_member c i message
row_of_port c None message = row_of_switch c message

-- the table of the controller
abbrev pub controller_step : ControllerState → ℕ → Msg → ControllerStep
controller_step c port message = row_of_port c (member_at c port) message

-- it has ended where each member has stopped, nothing is queued and no packet is out
abbrev pub is_idle : Serving → Bool
is_idle Idle = true
is_idle serving = false

abbrev pub all_stopped : ControllerState → Bool
all_stopped c = (c.finals == c.members) && ((length c.queue == 0) && is_idle c.serving)

-- the nodes

-- the step of an instance, as that of a node: what it notes stands among the share's notes
abbrev pub as_member : {A B M : Type 0} → (A → B) → Stepped A M Note → Stepped B M StrongNote
as_member make did = record { node = make did.node; sends = did.sends; notes = map Inner did.notes }

module _ {F R : Type 0} where
  -- what a node does: its row of the tables
  abbrev pub node_step : Semantics R → StrongNode F R → ℕ → Msg → Stepped (StrongNode F R) Msg StrongNote
  node_step f (Switch s) port message = as_node Switch (switch_step s message)
  node_step f (Controller c) port message = as_node Controller (controller_step c port message)
  node_step f (Instance i) port message = as_member Instance (instance_step f i message)

  -- the switch takes a packet of the input where it has room
  abbrev pub node_ready : StrongNode F R → Msg → Bool
  node_ready (Switch s) message = takes_in s message
  node_ready node message = true

  abbrev pub node_ended : StrongNode F R → Bool
  node_ended (Switch s) = has_closed s
  node_ended (Controller c) = all_stopped c
  node_ended (Instance i) = i.ended
