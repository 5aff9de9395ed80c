-- The names that most proofs of runs of the networks cite, passed on from one place. Declares nothing.
pub use Rattle.std.proofs.Common.{refl, subst, sym, ◌≡◌, ap, ◌∙◌, List, ℕ, arith, length, Err, None, true, Ok, Result, Some, [], map, ◌∷◌, false, ◌+◌, ◌≤◌}
pub use Rattle.std.proofs.Common.{Bool, Option, rules, ◌++◌, ◌<◌, ◌==◌}
pub use Rattle.std.proofs.lemmas.Bool.Decides.{nat_tests}
pub use Rattle.std.proofs.lemmas.Result.{IfOk-weaker}
pub use Rattle.std.specs.List.{cons_option}
pub use Rattle.std.specs.Prelude.{All, MatchResult, filter_map, find, if◌then◌else◌, option_map}
pub use Rattle.std.specs.declared.alloc.Global.{Global}
pub use Rattle.actor_net.proofs.ScheduleLaws.{scheduled_is_run}
pub use Rattle.actor_net.specs.Network.{Network, run}
pub use Rattle.actor_net.specs.declared.choice.Choice.{Choice}
pub use Rattle.actor_net.specs.declared.schedule.Schedule.{Schedule}
pub use Rattle.actor_net.specs.declared.schedule.TheConstants.{MOST_CHOICES}
pub use Rattle.call_files.specs.Phases.{scenario_of, gives, reports}
pub use Rattle.call_files.specs.Scenarios.{Scenario, given_script}
pub use Rattle.call_files.specs.declared.results.Made.{Made}
pub use Rattle.call_files.specs.declared.status.Status.{Status}
pub use Rattle.call_files.specs.run_input.proofs.SaidCommands.{packets_in}
pub use Rattle.call_files.specs.run_input.proofs.ScriptedOrders.{in_order}
pub use Rattle.call_files.specs.run_input.proofs.SteeredPackets.{are_steered}
pub use Rattle.command_words.specs.RequestViews.{network_view, published_view, strong_view}
pub use Rattle.command_words.specs.Requests.{NetworkAsked, FailAsked}
pub use Rattle.flow_filter.specs.declared.packet.Packet.{Packet}
pub use Rattle.function_kinds.proofs.FunctionLemmas.{ok_of_kind}
pub use Rattle.function_kinds.specs.Functions.{OfKind}
pub use Rattle.net_world.specs.Input.{IsInput, packets, commands}
pub use Rattle.net_world.specs.Jobs.{job_of}
pub use Rattle.net_world.specs.Log.{answer_in}
pub use Rattle.net_world.specs.Nodes.{node_ended, node_step}
pub use Rattle.net_world.specs.Runs.{LeadsTo, choices_of}
pub use Rattle.net_world.specs.Start.{started_with}
pub use Rattle.net_world.specs.declared.config.Config.{Config}
pub use Rattle.net_world.specs.declared.node.Node.{Node}
pub use Rattle.nf_function.specs.Records.{Laws as FunctionLaws}
pub use Rattle.nf_function.specs.Semantics.{Semantics}
pub use Rattle.nf_function.specs.declared.kind.Kind.{Kind}
pub use Rattle.nf_msgs.specs.declared.msg.Msg.{Msg}
pub use Rattle.nf_msgs.specs.declared.note.Note.{Note}
pub use Rattle.op_script.specs.Items.{items}
pub use Rattle.op_script.specs.Reading.{script_view}
pub use Rattle.op_script.specs.declared.script.Line.{Line}
pub use Rattle.op_script.specs.declared.script.What.{What}
pub use Rattle.op_script.specs.declared.script.What.TheVariants.{Command, Settle}
pub use Rattle.report_lines.specs.Lines.{by_number, output_in}
pub use Rattle.report_lines.specs.declared.heads.Head.{Head}
pub use Rattle.run_headline.specs.Law.{subject}
pub use Rattle.run_headline.specs.Subject.{Subject}
pub use Rattle.run_headline.specs.nf_net.proofs.length.ShortRuns.{short_runs}
pub use Rattle.run_headline.specs.nf_net.specs.Promises.{Completed, Promises}
pub use Rattle.run_headline.specs.nf_net.specs.declared.course.AuditFault.{AuditFault}
pub use Rattle.run_headline.specs.nf_net.specs.proof_outlines.proofs.joined.Setting.{setting_of}
pub use Rattle.run_headline.specs.run_report.specs.Lines.{report_text}
pub use Rattle.run_headline.specs.standby_failover.specs.Causes.{first_of, world_after}
pub use Rattle.trace_reader.specs.Records.{AreNumbered}
pub use Rattle.two_phase.specs.Start.{IsUpdateJob}
pub use Rattle.network_calls.specs.NetworkRuns.{run_given, IsRunOf, HasRun, command_said, config_for, head_for, items_for, subject_for}
pub use Rattle.network_calls.specs.RunSteps.{made_with, audit_status}
pub use Rattle.network_calls.specs.StrongRuns.{sharing_scene, IsSharingOf, sharing_for}
pub use Rattle.network_calls.specs.UpdateRuns.{scene_of, IsUpdateOf, update_for}
