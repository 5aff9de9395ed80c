-- The names that most proofs of the real tables cite, passed on from one place. Declares nothing.
pub use Rattle.std.proofs.Common.{◌≡◌, ℕ, ◌+◌, ◌<◌, false, List, [], ◌∷◌, length, refl, ◌∙◌, subst, arith, ◌&&◌, ◌==◌, Bool, true, Some, None, ◌++◌, sym, ap}
pub use Rattle.std.proofs.Common.{if◌then◌else◌, suc, ◌≤◌, not, Option, nat_lt, is_some, option_map, ◌≢◌, cond, append-nil, find, map, zero, ◌-◌, nat_le, inl}
pub use Rattle.std.proofs.Common.{inr, ◌⊎◌, ◌||◌, Result, Ok, Err, option_to_list, get_or, ◌^◌, add-one, take, drop, append_assoc, true≢false, lit<, eqb}
pub use Rattle.std.proofs.Common.{slice_set, max, All, T, ◌%◌, slice_index}
pub use Rattle.std.proofs.Math.Bool.{or-true, and-false, and_comm, or_assoc, or-false}
pub use Rattle.std.proofs.lemmas.Bool.{and_parts, not-true, false_from_ne_true, or_parts}
pub use Rattle.std.proofs.lemmas.Bool.Decides.{nat_tests, Decides-ltb, Decides-eqb}
pub use Rattle.std.proofs.lemmas.List.{length-map, length-drop, map-append, get_or_append_left}
pub use Rattle.std.proofs.lemmas.List.Elements.{All-cons, All-nil, filter-append, All-head, All-tail}
pub use Rattle.std.proofs.lemmas.Map.Keys.{IsDistinct-head, IsDistinct-tail}
pub use Rattle.std.proofs.lemmas.Nat.{mod_below}
pub use Rattle.std.proofs.lemmas.Option.{same_Some}
pub use Rattle.std.specs.Cmp.{nat_cmp_total}
pub use Rattle.std.specs.FinMap.{nat_cmp-IsAntisymmetric}
pub use Rattle.std.specs.List.{filter_map, AllByRecursion, filter, list_any}
unfoldable pub use Rattle.std.specs.List.{IsDistinct}
pub use Rattle.std.specs.Map.{keys_of}
pub use Rattle.std.specs.Option.{option_or, ForSome, option_and_then, option_map_or}
pub use Rattle.std.specs.Ordering.{nat_cmp, eq_by_cmp, is_lt}
pub use Rattle.std.specs.Prelude.{unwrap_or}
pub use Rattle.std.specs.Str.{bytes_eq}
pub use Rattle.std.specs.declared.alloc.Global.{Global}
pub use Rattle.actor_net.proofs.EnabledChoices.{at}
pub use Rattle.actor_net.proofs.LinkLemmas.{put_on_link, neither}
pub use Rattle.actor_net.proofs.OpeningWorlds.{opening_waiting, opening_weight, opening_world, opening_on_links}
pub use Rattle.actor_net.proofs.RunInduction.{Taking, run_induction}
pub use Rattle.actor_net.proofs.StepOutcome.{Takes, taken_outcome}
pub use Rattle.actor_net.proofs.WaitingMessages.{less_first}
pub use Rattle.actor_net.proofs.WeightLaws.{EachSent, weigh, total, sent_weight, total_after, OnLinks, on_links_after}
pub use Rattle.actor_net.specs.Network.{Network, queue_at, world_next, Stepped, reaches, is_input, IsWorld, IsRun, run}
pub use Rattle.actor_net.specs.declared.choice.Choice.{Choice}
pub use Rattle.copy_share.specs.Copy.{CopyPlan, CopyState, CopyRow}
pub use Rattle.copy_share.specs.Share.{SharePlan, ShareState, home, ShareRow, Served, others, syncs, setting, syncing, on_fenced, on_chunks, on_shared}
pub use Rattle.copy_share.specs.Share.{on_synced, member_of, service_if_idle}
pub use Rattle.copy_share.specs.declared.copy_phase.CopyPhase.{CopyPhase}
pub use Rattle.copy_share.specs.declared.copy_phase.CopyPhase.TheVariants.{Keeping, Getting, Over}
pub use Rattle.copy_share.specs.declared.share_phase.SharePhase.{SharePhase}
pub use Rattle.ctrl_node.specs.Controller.{ControllerState, Step, still, refusal, move_between, copy_between, share_begin, begin_step, decision_step, on_asked}
pub use Rattle.ctrl_node.specs.Controller.{unknown_name, overlap, answers, move_begin, copy_begin, takes_turn, hand_step, after_turn, step_and_finish}
pub use Rattle.ctrl_node.specs.Controller.{may_finish, instance_at, on_final, controller_step, queue_step, on_diverted, without_operation, with_turn}
pub use Rattle.ctrl_node.specs.Controller.{serve_step, and_serves}
pub use Rattle.ctrl_node.specs.Operations.{lowest_meeting, meets_operation, turn_of, Turn, turn_of_move, OpenOperations, serving_of, lasts, with_operation}
pub use Rattle.ctrl_node.specs.Operations.{share_of, turn_of_copy, filter_of, is_shared_by, turn_of_share}
pub use Rattle.ctrl_node.specs.declared.operation.Operation.{Operation}
pub use Rattle.ctrl_node.specs.declared.operation.Operation.TheVariants.{Share, Move, Copy}
pub use Rattle.event_filter.specs.declared.action.Action.{Action}
pub use Rattle.event_filter.specs.declared.mark.Mark.{Mark}
pub use Rattle.event_filter.specs.declared.mark.Mark.TheVariants.{Pass, Plain}
pub use Rattle.event_filter.specs.declared.rule.Rule.{Rule as EventRule}
pub use Rattle.event_store.proofs.StoreLookUps.{stored-empty, order_test, stored-with_parcels}
pub use Rattle.event_store.specs.Store.{stored_of, with_parcels}
pub use Rattle.flow_filter.specs.Filter.{meets, IsFilter, IsFlow, matches, meet, agrees, holds}
pub use Rattle.flow_filter.specs.Flow.{flow_of, place_among}
pub use Rattle.flow_filter.specs.Name.{has_twice, place_of}
pub use Rattle.flow_filter.specs.declared.filter.Filter.{Filter}
pub use Rattle.flow_filter.specs.declared.flow.Flow.{Flow}
pub use Rattle.flow_filter.specs.declared.packet.Packet.{Packet}
pub use Rattle.flow_filter.specs.declared.prefix.Prefix.{Prefix}
pub use Rattle.flow_filter.specs.declared.site.Site.{Site}
pub use Rattle.instance_worker.specs.Instance.{to_controller, chunk_told, table_after, with_count, tally_put, with_standby, keep_note, tells_and_notes}
pub use Rattle.instance_worker.specs.Instance.{instance_step, selected_chunks, is_live, share_message, carry_step, on_delete, with_live, with_records, and_then}
pub use Rattle.instance_worker.specs.Instance.{on_enable, tell_step, where_good, imported, export_note, piece_put, piece_refusal, on_stop, on_get_all}
pub use Rattle.instance_worker.specs.Pieces.{pieces, piece_of, whole_of, newest_version}
unfoldable pub use Rattle.instance_worker.specs.Pieces.{pieces_from}
pub use Rattle.instance_worker.specs.declared.instance.Instance.{Instance, Instance as InstanceState}
pub use Rattle.instance_worker.specs.declared.pieces.WholePieces.{WholePieces}
pub use Rattle.move_op.specs.Move.{MovePlan, MoveState, MoveRow, row, answer_of, keeps, next_phase, have_units, source, destination, MoveNext, from_source}
pub use Rattle.move_op.specs.Move.{from_destination, put_back, words, move_at_start, chunks_of, row_in, put_to, forward_to, Store, store_after, messages_of}
pub use Rattle.move_op.specs.Phases.{Phase}
pub use Rattle.move_op.specs.Table.{push_on, all_put, on_event, on_source_enabled, on_piece, on_deleted, on_restored, on_source_fenced, on_put_ok, on_put_no}
pub use Rattle.move_op.specs.Table.{on_destination_enabled, on_destination_fenced, release_row, return_of, Said, Nothing, Put, Release, Give_back}
pub use Rattle.move_op.specs.declared.door.Door.{Door}
pub use Rattle.net_world.proofs.LogLemmas.{done-append, installed-append, has_answered-append, has_begun-append, arrived-append}
pub use Rattle.net_world.proofs.PickedLists.{none_picked}
pub use Rattle.net_world.proofs.SentMessages.{sent-append}
pub use Rattle.net_world.specs.Input.{IsInput, IsRising, IsWhole, order_numbered, packet_numbered, is_item, packets, commands, no_packet, IsSteered, IsProper}
pub use Rattle.net_world.specs.Log.{arrivals_in, dones_in, installs_in, arrival_in, change_in, Done, answer_in, begin_in, has_begun, done_in, done_where}
pub use Rattle.net_world.specs.Nodes.{node_step, node_ready, as_node}
pub use Rattle.net_world.specs.Places.{owner_after, loose_after, owner_after_order, is_home, hands_on_plain, first_owner, members_after, member_for}
pub use Rattle.net_world.specs.Places.{unit_numbered, unit_in, is_at, IsMoving, IsPlace, Owns, Is_destination, Is_member, is_loose}
pub use Rattle.net_world.specs.Start.{first_nodes, started_with, first_switch, first_instance, first_instances}
pub use Rattle.net_world.specs.declared.config.Config.{Config}
pub use Rattle.net_world.specs.declared.node.Node.{Node}
pub use Rattle.net_world.specs.declared.node.Node.TheVariants.{Controller, Switch}
pub use Rattle.nf_function.specs.Records.{Fits, newest, is_newer, Laws as FunctionLaws}
pub use Rattle.nf_function.specs.Semantics.{Semantics, unit_at, is_sound, kept_after}
pub use Rattle.nf_function.specs.UnitOrder.{units_total}
pub use Rattle.nf_function.specs.Units.{takes, has_hosts, unit_cmp, is_transport, is_unit, unit_of}
pub use Rattle.nf_function.specs.declared.chunk.Chunk.{Chunk}
pub use Rattle.nf_function.specs.declared.kind.Kind.{Kind}
pub use Rattle.nf_function.specs.declared.kind.Kind.TheVariants.{Conntrack}
pub use Rattle.nf_function.specs.declared.unit.Unit.TheVariants.{Flow as OfFlow, Host as OfHost}
pub use Rattle.nf_function.specs.declared.unit.Unit.{Unit}
pub use Rattle.nf_msgs.specs.MessageParts.{op_of}
pub use Rattle.nf_msgs.specs.Nodes.{switch_node, instance_node, controller_node}
pub use Rattle.nf_msgs.specs.declared.answer.Answer.{Answer}
pub use Rattle.nf_msgs.specs.declared.command.Command.{Command}
pub use Rattle.nf_msgs.specs.declared.command.Order.{Order}
pub use Rattle.nf_msgs.specs.declared.msg.Msg.{Msg}
pub use Rattle.nf_msgs.specs.declared.msg.Piece.{Piece, Piece as APiece}
pub use Rattle.nf_msgs.specs.declared.msg.Refused.{Refused}
pub use Rattle.nf_msgs.specs.declared.note.Note.{Note}
pub use Rattle.nf_msgs.specs.declared.note.Note.TheVariants.{Installed}
pub use Rattle.packet_pool.specs.Pool.{FullCell, one_less, one_more}
pub use Rattle.record_table.proofs.MadeChunks.{valid_entries, distinct_entries, spelled-record_chunk}
pub use Rattle.record_table.proofs.RecordLookUps.{sound_with_kept, sound_retain_keys, get-joined}
pub use Rattle.record_table.proofs.UnitOrder.{same_unit_equiv, same_unit-true, one_unit}
pub use Rattle.record_table.specs.Chunks.{spelled, are_good}
unfoldable pub use Rattle.record_table.specs.Chunks.{records_of}
pub use Rattle.record_table.specs.Table.{part, Records, same_unit, without, is_among, after_packet, AreSound, newest_of, taken_by, TableView, with_part, either}
pub use Rattle.record_table.specs.Table.{union_of, replaced_by}
pub use Rattle.state_chunk.specs.Format.{record_chunk, version_number}
pub use Rattle.state_chunk.specs.Reading.{tally_read}
pub use Rattle.state_chunk.specs.declared.fault.ChunkFault.{ChunkFault}
pub use Rattle.switch_node.specs.Switch.{switch_step, SwitchState, takes_in, goes_to, sends_to_instance, stop_messages, has_room, is_there, target_of}
pub use Rattle.switch_node.specs.Switch.{arrival_step, on_packet, on_command, on_credit, on_install}
pub use Rattle.switch_rules.specs.Rules.{AreFilters, any, first_match, opened, rules_redirected, target_eq, Redirect, redirected_target}
pub use Rattle.switch_rules.specs.declared.target.Target.{Target}
pub use Rattle.proof_machines.proofs.Tests.{by_if, split, either_way}
pub use Rattle.proof_machines.proofs.net.Copies.{have, copies, one_copy, one_copy_back, event_open}
pub use Rattle.proof_machines.proofs.net.Ctrl.{each_found, find_set, find_write_other}
pub use Rattle.proof_machines.proofs.net.GlobalAll.{TakesSome}
pub use Rattle.proof_machines.proofs.net.Net.{Open, find_op, behind, MoveAsked, new_op, begin_sends, meets_any, links_after, close_op, set_op, write_op, num_of}
pub use Rattle.proof_machines.proofs.net.Net.{found, numbered, sw_target, inst_step, put, everything, is_free, at_node, Sys, IsSys, Of_move, NumberedInstance}
pub use Rattle.proof_machines.proofs.net.Net.{Ruling, ControllerMove, wrap, InstanceTurn, find_rule, drop_rule, change_rules, has_rule, set_rule, ruled_by}
pub use Rattle.proof_machines.proofs.net.Net.{holding, held_of, process, process_all, runs_it, by_rule, row_of, Room, to_ctrl, sw_sends}
pub use Rattle.proof_machines.proofs.net.Rest.{none_mine, done_u, RestRule}
pub use Rattle.proof_machines.proofs.net.ShareLists.{AreNumbersApart, found_num, found_each, find_old, find_new}
pub use Rattle.proof_machines.proofs.net.ShareRows.{taking_each, taking_found}
pub use Rattle.proof_machines.proofs.net.Shares.{WholeWorld, Any, New, ShareMsg, ShareAsked, new_share, whole_ctrl, begin_share, MayShare, Old, OpenShare}
pub use Rattle.proof_machines.proofs.net.Shares.{find_share, moves_of, as_old, begin_move, puts_get, meets_shares, Has_chunks, by_share, told_by, share_target}
pub use Rattle.proof_machines.proofs.net.Shares.{Shared_on, member_step, whole_inst, Sharing, olds, Diverted_on, share_taking, Told, Is_fenced, Has_chunk}
pub use Rattle.proof_machines.proofs.net.Shares.{Is_synced, Has_packet, ran_of, EachNew, arrive_sends, asks, whole_input, whole_switch, share_row, old_step}
pub use Rattle.proof_machines.proofs.net.Shares.{MemberTurn, shared_chunk, SharesStep, ShareTurn, set_share, share_sends, IsSharing}
pub use Rattle.proof_machines.proofs.net.Stores.{ends}
pub use Rattle.proof_machines.proofs.net.Waits.{Rising, rising_less}
pub use Rattle.proof_machines.proofs.share.Lists.{self, cond-cond}
pub use Rattle.proof_machines.proofs.share.Share.{has, without_number, over}
pub use Rattle.proof_machines.proofs.unit.Labels.{Each, each-append, each_map, each_any, each_both}
pub use Rattle.proof_machines.proofs.unit.Machine.{is_nil}
pub use Rattle.proof_machines.proofs.unit.Real.{sent_for, MovePhase, record_at, Chunks, MoveMsg, Op, OperationTurn, operation_words, MovePiece}
pub use Rattle.proof_machines.proofs.unit.RecordTables.{live_table}
pub use Rattle.proof_machines.proofs.whole.EveryAll.{EveryAll, ctrl_every_all, share_every_all, move_every_all, get_every_all, MayKeep, inst_every_all}
pub use Rattle.proof_machines.proofs.whole.EveryAll.{keeps_every_all, input_every_all, asks_move_every_all, asks_share_every_all, switch_every_all}
pub use Rattle.proof_machines.proofs.whole.WhereAll.{Came, WhereAll, Apart_from_shares, Under_share, comes}
