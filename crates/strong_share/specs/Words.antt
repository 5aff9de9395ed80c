-- The words in which strong sharing makes its promises: what is read off a log and a world. Packets go by their numbers.
-- This project's own.
use Rattle.std.specs.Prelude.{ℕ, ◌+◌, ◌-◌, ◌*◌, ◌%◌, ◌==◌, ◌&&◌, Bool, if◌then◌else◌, List, map, filter}
use Rattle.std.specs.Prelude.{filter_map, find, scan, length, Option, None, Some, unwrap_or, slice_get}
use Rattle.std.specs.List as lists
use Rattle.std.specs.FinMap as finite
use Rattle.flow_filter.specs.declared.packet.Packet.{Packet}
use Rattle.flow_filter.specs.Filter.{matches}
use Rattle.flow_filter.specs.Flow.{flow_of}
use Rattle.nf_function.specs.declared.output.Output.{Output}
use Rattle.nf_function.specs.declared.unit.Unit as units
use Rattle.nf_function.specs.Semantics.{Semantics, unit_at, kept_after, output_for}
use Rattle.record_table.specs.Table.{same_unit}
use Rattle.nf_msgs.specs.declared.msg.Msg.{Msg}
use Rattle.nf_msgs.specs.declared.note.Note.{Note}
use Rattle.nf_msgs.specs.Nodes.{switch_node, instance_node}
use Rattle.actor_net.specs.Network.{Network}
use Rattle.net_world.specs.Input.{no_packet}
use Rattle.net_world.specs.Log as log
use Rattle.strong_share.specs.declared.note.StrongNote.{StrongNote}
use Rattle.strong_share.specs.declared.note.StrongNote.TheVariants.{Inner, Queued}
use Rattle.strong_share.specs.declared.node.StrongNode.{StrongNode}
use Rattle.strong_share.specs.declared.node.StrongNode.TheVariants.{Switch, Instance}
use Rattle.strong_share.specs.Start.{StrongJob, numbers_of}

-- the notes of the network in a log
abbrev pub inner_note : StrongNote → Option Note
inner_note (Inner note) = Some note
inner_note (Queued number member) = None

abbrev pub inner_notes : List StrongNote → List Note
inner_notes notes = filter_map inner_note notes

-- what was queued, in order: a packet's number, and the member that raised it
abbrev pub entry_in : StrongNote → Option (ℕ × ℕ)
entry_in (Inner note) = None
entry_in (Queued number member) = Some (number, member)

abbrev pub entries : List StrongNote → List (ℕ × ℕ)
entries notes = filter_map entry_in notes

-- the packets in the order in which they were queued, and those among them that a member raised
abbrev pub queue_order : List StrongNote → List ℕ
queue_order notes = map (λ e. e.0) (entries notes)

abbrev pub events_of : ℕ → List StrongNote → List ℕ
events_of k notes = map (λ e. e.0) (filter (λ e. e.1 == k) (entries notes))

-- the packets that the switch took in, what was processed, and the packets that were
abbrev pub arrivals_in : List StrongNote → List ℕ
arrivals_in notes = log.arrivals_in (inner_notes notes)

abbrev pub dones_in : List StrongNote → List log.Done
dones_in notes = log.dones_in (inner_notes notes)

abbrev pub done_numbers : List StrongNote → List ℕ
done_numbers notes = map (λ d. d.number) (dones_in notes)

module _ (job : StrongJob) where
  -- the packet with a number
  abbrev pub packet_numbered : ℕ → Packet
  packet_numbered number = unwrap_or (find (λ p. p.number == number) job.packets) no_packet

  -- whether the filter matches a packet's flow, and the member to which the switch gives it
  abbrev pub is_taken : ℕ → Bool
  is_taken p = matches job.filter (flow_of job.site (packet_numbered p)).0

  abbrev pub member_of : ℕ → ℕ
  member_of p = if is_taken p then (p - 1) % job.members else 0

  -- a packet that the filter matches and that the switch gives this member
  abbrev pub is_taken_at : ℕ → ℕ → Bool
  is_taken_at k p = is_taken p && (member_of p == k)

module _ {R : Type 0} (f : Semantics R) (job : StrongJob) where
  -- one instance that nothing moves: what is kept of a unit after these packets, and the outputs to them
  abbrev pub fold : Option R → List ℕ → Option R
  fold kept ps = lists.fold (λ now p. kept_after f job.site now (packet_numbered job p)) kept ps

  abbrev pub outputs : Option R → List ℕ → List Output
  outputs kept ps =
      scan (λ now p. kept_after f job.site now (packet_numbered job p)) (λ now p. output_for f job.site now (packet_numbered job p)) kept ps

  -- whether a packet is one of the unit
  abbrev pub is_of : units.Unit → ℕ → Bool
  is_of unit p = same_unit (unit_at f.kind job.site (packet_numbered job p)) unit

  -- the packets of a unit: all, those that were processed, and those that were queued
  abbrev pub numbers_in : units.Unit → List ℕ
  numbers_in unit = filter (is_of unit) (numbers_of job)

  abbrev pub processed_of : units.Unit → List StrongNote → List ℕ
  processed_of unit notes = filter (is_of unit) (done_numbers notes)

  abbrev pub queue_of : units.Unit → List StrongNote → List ℕ
  queue_of unit notes = filter (is_of unit) (queue_order notes)

  -- the outputs to those that were processed
  abbrev pub outputs_of : units.Unit → List StrongNote → List Output
  outputs_of unit notes = map (λ d. d.output) (filter (λ d. is_of unit d.number) (dones_in notes))

module _ {F R : Type 0} where
  -- the record of a unit that is live at a member of a world, or stands by there
  abbrev pub live_in : units.Unit → Option (StrongNode F R) → Option R
  live_in unit (Some (Instance i)) = finite.get i.table.live unit
  live_in unit other = None

  abbrev pub standby_in : units.Unit → Option (StrongNode F R) → Option R
  standby_in unit (Some (Instance i)) = finite.get i.table.standby unit
  standby_in unit other = None

  abbrev pub live_at : Network (StrongNode F R) Msg StrongNote → ℕ → units.Unit → Option R
  live_at w i unit = live_in unit (slice_get w.nodes (instance_node i))

  abbrev pub standby_at : Network (StrongNode F R) Msg StrongNote → ℕ → units.Unit → Option R
  standby_at w i unit = standby_in unit (slice_get w.nodes (instance_node i))

  -- how many cells of the switch's pool are home
  abbrev pub home_in : Option (StrongNode F R) → Option ℕ
  home_in (Some (Switch s)) = Some s.window.pool.home
  home_in other = None

  abbrev pub cells_at_home : Network (StrongNode F R) Msg StrongNote → Option ℕ
  cells_at_home w = home_in (slice_get w.nodes switch_node)

-- the most choices of a run: of n members and P packets, (2n + 4) P + 2n + 3
abbrev pub most_choices : StrongJob → ℕ
most_choices job = (2 * job.members + 4) * length job.packets + 2 * job.members + 3
