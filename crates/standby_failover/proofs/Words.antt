-- The names that most proofs of failovers cite, passed on from one place. Declares nothing.
pub use Rattle.std.proofs.Common.{◌≡◌, ◌∙◌, ap, ℕ, sym, true, List, ◌++◌, take, [], drop, refl, ◌∷◌, false, length, Some, ◌+◌, Option, arith, subst, Bool}
pub use Rattle.std.proofs.Common.{filter, ◌<◌, ◌≤◌, None, map, rules, suc, zero, get_or, append-nil, append_assoc, inr, ◌-◌}
pub use Rattle.std.proofs.Math.Bool.{or-true}
pub use Rattle.std.proofs.lemmas.Bool.{true≢false, and_parts}
pub use Rattle.std.proofs.lemmas.Bool.Decides.{Decides-eqb, nat_tests}
pub use Rattle.std.proofs.lemmas.List.{take-append-drop, take_all, map-append, take_at, take_more}
pub use Rattle.std.proofs.lemmas.List.Elements.{filter-append}
pub use Rattle.std.proofs.lemmas.Option.{slice_get-get_or}
pub use Rattle.std.proofs.lemmas.Result.{on_ok_weaker}
pub use Rattle.std.specs.FinMap.{get-empty}
pub use Rattle.std.specs.List.{flat_map}
pub use Rattle.std.specs.Prelude.{if◌then◌else◌, ◌&&◌, ◌==◌, is_some, slice_get, ◌||◌, not, IsSome, find, All}
pub use Rattle.actor_net.specs.Network.{Network}
pub use Rattle.actor_net.specs.declared.choice.Choice.{Choice}
pub use Rattle.flow_filter.specs.declared.packet.Packet.{Packet}
pub use Rattle.net_world.proofs.NumberCounts.{times_filter}
pub use Rattle.net_world.specs.Fold.{is_of, fold, IsFront, arrived_of}
pub use Rattle.net_world.specs.Input.{packets, packet_numbered}
pub use Rattle.net_world.specs.Jobs.{job_of}
pub use Rattle.net_world.specs.Log.{arrivals_in, dones_in}
pub use Rattle.net_world.specs.Nodes.{node_ready, node_step}
pub use Rattle.net_world.specs.Places.{unit_in}
pub use Rattle.net_world.specs.Records.{live_at}
pub use Rattle.net_world.specs.Runs.{LeadsTo}
pub use Rattle.net_world.specs.Start.{started_with}
pub use Rattle.net_world.specs.Tables.{is_instance, table_at}
pub use Rattle.net_world.specs.declared.node.Node.{Node}
pub use Rattle.net_world.specs.declared.node.Node.TheVariants.{Instance}
pub use Rattle.nf_function.specs.Records.{Laws as FunctionLaws}
pub use Rattle.nf_function.specs.Semantics.{Semantics, kept_after, packets_in, unit_at}
pub use Rattle.nf_function.specs.Units.{unit_cmp}
pub use Rattle.nf_function.specs.declared.output.Output.{Output}
pub use Rattle.nf_msgs.specs.Nodes.{instance_node}
pub use Rattle.nf_msgs.specs.declared.msg.Msg.{Msg}
pub use Rattle.nf_msgs.specs.declared.note.Note.{Note}
pub use Rattle.nf_net.proofs.PacketCounts.{done_times}
pub use Rattle.nf_net.specs.Promises.{Promises}
pub use Rattle.nf_net.specs.proof_outlines.proofs.joined.Setting.{IsCourse, Setting, setting_of, world_of}
pub use Rattle.nf_net.specs.proof_outlines.proofs.joined.StartJoined.{input_fits}
pub use Rattle.record_table.proofs.UnitOrder.{same_unit_equiv, same_unit-true}
pub use Rattle.record_table.specs.Table.{Records, same_unit, TableView}
pub use Rattle.standby_failover.specs.Causes.{FirstChoices, first_of, taken_among}
pub use Rattle.standby_failover.specs.Failover.{is_in, numbers_done, Failover, IsLeft, is_affected, is_open, standing, is_lost, lost_in_order, processed_of}
pub use Rattle.standby_failover.specs.Failover.{reflected_by, IsPromoted, record_kept, failover_of, open_packets}
pub use Rattle.standby_failover.specs.Scenes.{failover_in, is_marked, Stopped, IsSceneOf, has_seen_more, affects}
pub use Rattle.standby_failover.specs.Stepping.{after_packets, packet_among}
pub use Rattle.standby_failover.specs.declared.promoted.Promoted.{Promoted}
