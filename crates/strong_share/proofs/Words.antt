-- The words that most proofs of this crate share, each with the place that it comes from: lists and numbers, units and records, messages and nodes, and
-- the words of strong sharing.
pub use Rattle.std.proofs.Common.{◌≡◌, ◌++◌, ℕ, List, ap, ◌∙◌, [], true, refl, ◌∷◌, false, sym, ◌<◌, ◌+◌, arith, Bool, subst, map, append-nil, None, length}
pub use Rattle.std.proofs.Common.{◌≤◌, suc, Option, Some, append_assoc, zero, drop, ◌-◌, get_or, rules, ◌*◌, filter_map, inl, inr, length-append, ◌%◌, ◌≢◌}
pub use Rattle.std.proofs.Math.Bool.{and-false}
pub use Rattle.std.proofs.lemmas.Bool.Decides.{Decides-eqb, nat_tests, Decides-ltb}
pub use Rattle.std.proofs.lemmas.List.{map-append}
pub use Rattle.std.proofs.lemmas.List.Concat.{flat_map-append}
pub use Rattle.std.proofs.lemmas.List.Elements.{filter-append}
pub use Rattle.std.proofs.lemmas.List.FromFn.{map-range_with_len_more}
pub use Rattle.std.proofs.lemmas.Option.{slice_get-get_or}
pub use Rattle.std.specs.Prelude.{if◌then◌else◌, ◌==◌, filter, not, flat_map, ◌&&◌, nat_lt, slice_get}
pub use Rattle.std.specs.declared.alloc.Global.{Global}
pub use Rattle.actor_net.proofs.EnabledChoices.{at}
pub use Rattle.actor_net.proofs.RunInduction.{NextChoice, run_induction}
pub use Rattle.actor_net.proofs.WeightLaws.{Each, weigh, each-append, weigh-append, sent_weight}
pub use Rattle.actor_net.specs.Histories.{sent_for}
pub use Rattle.actor_net.specs.Network.{Network, IsRun, is_done, queue_at, run, world_next, IsWorld, Stepped, reaches}
pub use Rattle.actor_net.specs.Schedules.{StopsShort}
pub use Rattle.actor_net.specs.declared.choice.Choice.{Choice}
pub use Rattle.actor_net.specs.declared.schedule.Schedule.{Schedule}
pub use Rattle.flow_filter.specs.Filter.{matches}
pub use Rattle.flow_filter.specs.Flow.{flow_of}
pub use Rattle.flow_filter.specs.Limits.{most_packets}
pub use Rattle.flow_filter.specs.declared.packet.Packet.{Packet}
pub use Rattle.instance_worker.specs.Instance.{instance_step, Step, keep_note, process_step as instance_processed, tell_step}
pub use Rattle.instance_worker.specs.declared.instance.Instance.{Instance as InstanceState}
pub use Rattle.net_world.proofs.FoundPackets.{one_by_one}
pub use Rattle.nf_function.specs.Records.{Laws}
pub use Rattle.nf_function.specs.Semantics.{Semantics, kept_after, output_for, unit_at}
pub use Rattle.nf_function.specs.Units.{takes}
pub use Rattle.nf_function.specs.declared.chunk.Chunk.{Chunk}
pub use Rattle.nf_function.specs.declared.output.Output.{Output}
pub use Rattle.nf_msgs.specs.Nodes.{instance_node}
pub use Rattle.nf_msgs.specs.declared.msg.Msg.{Msg}
pub use Rattle.nf_msgs.specs.declared.msg.Msg.TheVariants.{Carry, Credit, Event, InPacket, Shared, Sync, Synced, End, Finish, Stop, Final, InEnd}
pub use Rattle.nf_msgs.specs.declared.note.Note.{Note}
pub use Rattle.nf_msgs.specs.declared.note.Note.TheVariants.{Processed}
pub use Rattle.packet_pool.specs.Pool.{FullCell}
pub use Rattle.record_table.proofs.UnitOrder.{same_unit-true, same_unit_equiv}
pub use Rattle.record_table.specs.Table.{part, same_unit, TableView}
pub use Rattle.report_lines.specs.Seen.{processed_in}
pub use Rattle.state_chunk.specs.Format.{record_chunk}
pub use Rattle.switch_node.specs.Switch.{stop_messages}
pub use Rattle.strong_share.specs.Parts.{ControllerState, SwitchState}
pub use Rattle.strong_share.specs.Promises.{StrongCompleted, StrongEnds, StrongPromises}
pub use Rattle.strong_share.specs.Report.{named_members}
pub use Rattle.strong_share.specs.Runs.{choices_of}
pub use Rattle.strong_share.specs.Start.{StrongJob, IsStrongJob, first_member, first_members, job_of, first_controller, first_switch, strong_start, input_of}
pub use Rattle.strong_share.specs.Tables.{is_home, the_share, switch_step, controller_step, node_ready, node_step, row_of_member, syncs, node_ended}
pub use Rattle.strong_share.specs.Tables.{serve_step, takes_in, controller_still, sync_to, with_event, ControllerStep, SwitchStep, is_idle, serve_row}
pub use Rattle.strong_share.specs.Tables.{switch_still}
pub use Rattle.strong_share.specs.Words.{is_taken, arrivals_in, events_of, is_taken_at, done_numbers, entries, is_of, member_of, packet_numbered, outputs}
pub use Rattle.strong_share.specs.Words.{processed_of, outputs_of, fold, queue_order, dones_in, inner_notes}
pub use Rattle.strong_share.specs.declared.node.StrongNode.{StrongNode}
pub use Rattle.strong_share.specs.declared.node.StrongNode.TheVariants.{Instance, Switch, Ctrl as Controller, Ctrl}
pub use Rattle.strong_share.specs.declared.note.StrongNote.{StrongNote}
pub use Rattle.strong_share.specs.declared.note.StrongNote.TheVariants.{Inner, Queued}
pub use Rattle.strong_share.specs.declared.queued_packet.QueuedPacket.{QueuedPacket}
pub use Rattle.strong_share.specs.declared.serving.Serving.{Serving}
pub use Rattle.strong_share.specs.declared.serving.Serving.TheVariants.{Idle, Syncing, Out}
