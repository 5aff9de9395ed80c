-- The names that most proofs of what reports say cite, passed on from one place. Declares nothing.
pub use Rattle.std.proofs.Common.{◌≡◌, List, ℕ, true, ◌∙◌, ap, [], sym, false, refl, ◌∷◌, arith, Bool, map, Some, ◌++◌, None, length, Option, subst, ◌+◌, suc}
pub use Rattle.std.proofs.Common.{◌<◌, ◌≤◌, cond, ◌||◌, zero, not, ◌&&◌, get_or, slice_index, ◌≢◌, append-nil, take, drop, ◌-◌}
pub use Rattle.std.proofs.Math.Bool.{or-true, and-false, and-true, or-false}
pub use Rattle.std.proofs.Math.Facts.{and_yes}
pub use Rattle.std.proofs.lemmas.Bool.{and_parts, or_parts, true≢false}
pub use Rattle.std.proofs.lemmas.Bool.Decides.{nat_tests, Decides-eqb, Decides-ltb}
pub use Rattle.std.proofs.lemmas.Cmp.{nat_cmp_total}
pub use Rattle.std.proofs.lemmas.List.{append_assoc, length-map, map-append}
pub use Rattle.std.proofs.lemmas.List.Elements.{filter-append}
pub use Rattle.std.proofs.lemmas.List.Quantifiers.{position-Some}
pub use Rattle.std.specs.FinMap.{is_sorted, entries_sorted}
pub use Rattle.std.specs.FinMap.Entries.{below_all}
pub use Rattle.std.specs.List.{AllByRecursion, flat_map, list_any, count_by, position_or_len, sum_by}
pub use Rattle.std.specs.Option.{option_map_or}
pub use Rattle.std.specs.Ordering.{is_lt, nat_cmp}
pub use Rattle.std.specs.Prelude.{◌==◌, if◌then◌else◌, filter, filter_map, option_to_list, zip, find, codes, fold, is_some, option_map, slice_get, nat_lt, T}
pub use Rattle.std.specs.Prelude.{min, scan, IsPermutation, slice_index_or, unwrap_or}
pub use Rattle.std.specs.Str.{bytes_eq}
pub use Rattle.std.specs.declared.alloc.Global.{Global}
pub use Rattle.std.specs.declared.cmp.Ordering.{Ordering}
pub use Rattle.std.specs.declared.cmp.Ordering.TheVariants.{Equal, Greater, Less}
pub use Rattle.actor_net.proofs.EnabledChoices.{at}
pub use Rattle.actor_net.proofs.RunInduction.{run_induction, Taking, run_world}
pub use Rattle.actor_net.proofs.StepOutcome.{taken_outcome, Takes}
pub use Rattle.actor_net.proofs.WeightLaws.{Each}
pub use Rattle.actor_net.specs.Network.{Network, run, world_next, IsRun, Stepped}
pub use Rattle.actor_net.specs.declared.choice.Choice.{Choice}
pub use Rattle.ctrl_node.specs.Controller.{controller_step, ControllerState, unknown_in}
pub use Rattle.ctrl_node.specs.declared.operation.Operation.{Operation}
pub use Rattle.flow_filter.specs.Filter.{matches}
pub use Rattle.flow_filter.specs.Flow.{flow_of}
pub use Rattle.flow_filter.specs.Name.{place_of, has_twice}
pub use Rattle.flow_filter.specs.declared.filter.Filter.{Filter}
pub use Rattle.flow_filter.specs.declared.packet.Packet.{Packet}
pub use Rattle.instance_worker.specs.Instance.{Step, instance_step}
pub use Rattle.instance_worker.specs.declared.instance.Instance.{Instance as InstanceState}
pub use Rattle.net_world.proofs.NumberCounts.{numbered_times, times_filter, none_in, times-append}
pub use Rattle.net_world.specs.Commands.{is_begun, answers_of, before_command, Answers, has_answered, is_of_command}
pub use Rattle.net_world.specs.Fold.{times}
pub use Rattle.net_world.specs.Input.{order_numbered, packets, IsRising, commands, packet_numbered, IsProper, no_packet}
pub use Rattle.net_world.specs.Jobs.{job_of, course_of}
pub use Rattle.net_world.specs.Log.{dones_in, answer_in, arrivals_in, done_where, installs_in}
pub use Rattle.net_world.specs.Nodes.{node_step, node_ready}
pub use Rattle.net_world.specs.Places.{is_loose, owner, first_owner, is_home, owner_after_order, unit_in}
pub use Rattle.net_world.specs.Records.{live_at}
pub use Rattle.net_world.specs.Standby.{StandsBy, standby_at, standby_in}
pub use Rattle.net_world.specs.Start.{started_with}
pub use Rattle.net_world.specs.Tables.{table_at}
pub use Rattle.net_world.specs.Verdicts.{is_refusal}
pub use Rattle.net_world.specs.declared.config.Config.{Config}
pub use Rattle.net_world.specs.declared.node.Node.{Node}
pub use Rattle.net_world.specs.declared.node.Node.TheVariants.{Instance}
pub use Rattle.nf_function.specs.Records.{Laws as FunctionLaws, Laws}
pub use Rattle.nf_function.specs.Semantics.{Semantics, kept_after, unit_at, output_for}
pub use Rattle.nf_function.specs.UnitOrder.{units_total}
pub use Rattle.nf_function.specs.Units.{takes, unit_cmp}
pub use Rattle.nf_function.specs.declared.chunk.Chunk.{Chunk}
pub use Rattle.nf_function.specs.declared.output.Output.{Output}
pub use Rattle.nf_msgs.specs.Nodes.{instance_node}
pub use Rattle.nf_msgs.specs.declared.answer.Answer.{Answer}
pub use Rattle.nf_msgs.specs.declared.command.Command.{Command}
pub use Rattle.nf_msgs.specs.declared.command.Order.{Order}
pub use Rattle.nf_msgs.specs.declared.command.Order.TheVariants.{Copy, Move, Share}
pub use Rattle.nf_msgs.specs.declared.msg.Msg.{Msg}
pub use Rattle.nf_msgs.specs.declared.note.Note.{Note}
pub use Rattle.packet_pool.specs.Pool.{FullCell}
pub use Rattle.record_table.proofs.UnitOrder.{same_unit-true, same_unit_equiv}
pub use Rattle.record_table.specs.Table.{part, same_unit, TableView, is_among}
pub use Rattle.report_lines.proofs.SortLemmas.{IsUp, less}
pub use Rattle.report_lines.specs.Lines.{NamedInstance, by_number, by_unit, named_records, NamedRecord, output_in, named_line, done_lines, out_lines}
pub use Rattle.report_lines.specs.Lines.{state_lines, tail_lines, standby_lines}
pub use Rattle.report_lines.specs.Sorting.{sorted_by, put_in}
pub use Rattle.report_lines.specs.declared.heads.Head.{Head}
pub use Rattle.run_report.specs.Lines.{instance_under, named_instances}
pub use Rattle.run_report.specs.nf_net.proofs.answers.BusyLemmas.{is_noted}
pub use Rattle.run_report.specs.nf_net.proofs.answers.BusyRuns.{Busy}
pub use Rattle.run_report.specs.proof_machines.proofs.share.Share.{has}
pub use Rattle.run_report.specs.proof_outlines.proofs.joined.Given.{Given}
pub use Rattle.run_report.specs.proof_outlines.proofs.joined.Joined.{Joined, node_of, Label}
pub use Rattle.run_report.specs.proof_outlines.proofs.joined.RunsJoined.{start_world, Runs, run_beside, runs_at_start, runs_next}
pub use Rattle.run_report.specs.proof_outlines.proofs.joined.Setting.{Setting, setting_of, IsCourse, start, world_of}
pub use Rattle.run_report.specs.proof_outlines.proofs.joined.StartJoined.{count_at_start, given, all_fit}
pub use Rattle.run_report.specs.proof_outlines.proofs.outline.FiltersApart.{unit_fits}
pub use Rattle.standby_failover.proofs.ListLemmas.{those_filter, filter_same, in_filter, same_number}
pub use Rattle.standby_failover.specs.Failover.{Failover, IsLeft, is_affected, is_in, is_lost, is_open, lost_packets, open_packets, reflected_by, standing}
pub use Rattle.standby_failover.specs.Lines.{promoted_line}
pub use Rattle.strong_share.proofs.Holding.{IsRight}
pub use Rattle.strong_share.proofs.Lists.{filter_few}
pub use Rattle.strong_share.specs.Promises.{StrongCompleted, StrongPromises}
pub use Rattle.strong_share.specs.Report.{member_under, named_members}
pub use Rattle.strong_share.specs.Start.{StrongJob}
pub use Rattle.strong_share.specs.Words.{entries, inner_notes, processed_of}
pub use Rattle.strong_share.specs.declared.node.StrongNode.{StrongNode}
pub use Rattle.strong_share.specs.declared.note.StrongNote.{StrongNote}
pub use Rattle.switch_node.specs.Switch.{switch_step}
pub use Rattle.two_phase.specs.Promises.{after_low, has_come, trace}
pub use Rattle.two_phase.specs.Report.{verdict_line}
pub use Rattle.two_phase.specs.Start.{UpdateJob, items_of}
pub use Rattle.two_phase.specs.declared.msg.TwoMsg.{TwoMsg}
pub use Rattle.two_phase.specs.declared.node.TwoNode.{TwoNode}
pub use Rattle.two_phase.specs.declared.note.TwoNote.{TwoNote}
pub use Rattle.run_headline.specs.Causes.{is_answered, is_done}
pub use Rattle.run_headline.specs.Failover.{numbered_in}
pub use Rattle.run_headline.specs.Headline.{packets_of, record_after, is_of, is_covered, outputs_to, moves, Headline, ReportLines, outs_of, records_of}
pub use Rattle.run_headline.specs.Instances.{records_under, IsAsNew}
pub use Rattle.run_headline.specs.Law.{done_in, subject, IsCompleted, lines}
pub use Rattle.run_headline.specs.Published.{verdict_text}
pub use Rattle.run_headline.specs.PublishedLaw.{two_subject}
pub use Rattle.run_headline.specs.Strong.{in_turn, under_each}
pub use Rattle.run_headline.specs.StrongLaw.{IsStrongRun, strong_subject}
pub use Rattle.run_headline.specs.Subject.{Subject}
