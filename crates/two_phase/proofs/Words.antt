-- The words that most proofs of this crate share, each with the place that it comes from: lists and numbers, units and records, messages and nodes, and
-- the words of an update.
pub use Rattle.std.proofs.Common.{◌≡◌, ◌++◌, ap, ◌∙◌, List, ℕ, [], ◌∷◌, drop, Some, refl, map, sym, arith, subst, true, Bool, false, length, suc, None, Option}
pub use Rattle.std.proofs.Common.{take, ◌+◌, zero, ◌-◌, ◌<◌, Err, Ok, Result, append_assoc, filter_map, inl, inr, ◌*◌, ◌≤◌, ◌⊎◌}
pub use Rattle.std.proofs.lemmas.Bool.{false≢true}
pub use Rattle.std.proofs.lemmas.Bool.Decides.{nat_tests}
pub use Rattle.std.specs.List.{list_all}
pub use Rattle.std.specs.Prelude.{if◌then◌else◌, slice_get, ◌&&◌, ◌==◌, nat_lt, ◌||◌, OnOk, is_some, not, slice_index_or, slice_set, unwrap_or}
pub use Rattle.std.specs.declared.alloc.Global.{Global}
pub use Rattle.actor_net.proofs.WeightLaws.{Each}
pub use Rattle.actor_net.specs.Network.{is_enabled, Network, is_done, IsRun, queue_at, run, world_next}
pub use Rattle.actor_net.specs.declared.choice.Choice.{Choice}
pub use Rattle.event_filter.specs.declared.action.Action.{Action}
pub use Rattle.event_filter.specs.declared.mark.Mark.TheVariants.{Pass, Plain}
pub use Rattle.event_filter.specs.declared.rule.Rule.{Rule as EventRule}
pub use Rattle.flow_filter.specs.Filter.{matches, IsFilter, IsFlow}
pub use Rattle.flow_filter.specs.Flow.{flow_of}
pub use Rattle.flow_filter.specs.declared.filter.Filter.{Filter}
pub use Rattle.flow_filter.specs.declared.flow.Flow.{Flow}
pub use Rattle.flow_filter.specs.declared.packet.Packet.{Packet}
pub use Rattle.flow_filter.specs.declared.site.Site.{Site}
pub use Rattle.instance_worker.specs.declared.instance.Instance.{Instance as InstanceState}
pub use Rattle.net_world.specs.Input.{packet_numbered}
pub use Rattle.nf_function.specs.Records.{Laws as FunctionLaws, Fits}
pub use Rattle.nf_function.specs.Semantics.{Semantics, output_for, kept_after, unit_at}
pub use Rattle.nf_function.specs.declared.chunk.Chunk.{Chunk}
pub use Rattle.nf_function.specs.declared.output.Output.{Output}
pub use Rattle.nf_msgs.specs.Exports.{units_in}
pub use Rattle.packet_pool.specs.Pool.{FullCell}
pub use Rattle.packet_window.specs.Window.{WindowState}
pub use Rattle.record_table.proofs.MadeChunks.{table_read}
pub use Rattle.record_table.specs.Chunks.{records_of}
pub use Rattle.record_table.specs.Table.{newest_of, without}
pub use Rattle.report_lines.specs.Seen.{texts_seen, processed_in}
pub use Rattle.switch_rules.specs.Rules.{first_match}
pub use Rattle.switch_rules.specs.declared.target.Target.{Target}
pub use Rattle.switch_rules.specs.declared.target.Target.TheVariants.{Instance as ToInstance, Controller as ToController}
pub use Rattle.two_machine.proofs.Machine.{Buffers, Drops, Free, Rule, To_a, To_b, To_both}
pub use Rattle.two_machine.proofs.Stages.{Rises}
pub use Rattle.std.proofs.lemmas.List.Concat.{flat_map-append}
pub use Rattle.two_machine.proofs.View.{read}
pub use Rattle.two_phase.specs.Parts.{SwitchState, ControllerState}
pub use Rattle.two_phase.specs.Promises.{Published, inner_notes, switch_in}
pub use Rattle.two_phase.specs.Report.{named_instances}
pub use Rattle.two_phase.specs.Start.{UpdateJob, IsUpdateJob, items_of, two_start}
pub use Rattle.two_phase.specs.Tables.{Step, node_ready, still, forward_messages, node_ended, node_step, the_update, controller_row, sent_inside}
pub use Rattle.two_phase.specs.declared.msg.TwoMsg.{TwoMsg}
pub use Rattle.two_phase.specs.declared.msg.TwoMsg.TheVariants.{InPacket}
pub use Rattle.two_phase.specs.declared.node.TwoNode.{TwoNode}
pub use Rattle.two_phase.specs.declared.node.TwoNode.TheVariants.{Ctrl as Controller, Instance, Switch}
pub use Rattle.two_phase.specs.declared.note.TwoNote.{TwoNote}
