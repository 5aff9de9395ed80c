-- The words that most proofs of this crate share, each with the place that it comes from: lists and numbers, messages and nodes, worlds of a run, and the
-- network that they show.
pub use Rattle.std.proofs.Common.{◌≡◌, ℕ, false, Option, List, [], ◌∷◌, append-nil, refl, sym, ◌∙◌, subst, ◌+◌, ◌<◌, ◌≤◌, true, ◌++◌, length, length-append, ap}
pub use Rattle.std.proofs.Common.{arith, Bool, Some, append_assoc, ◌≢◌, zero, suc, cond, map, None, inl, inr, drop, Ok, ◌⊎◌, get_or, ◌*◌, ◌^◌, take}
pub use Rattle.std.proofs.Math.Bool.{or-true, or-false, and-false, and-true}
pub use Rattle.std.proofs.Math.Facts.{and_yes}
pub use Rattle.std.proofs.Math.Nat.{mul-suc}
pub use Rattle.std.proofs.lemmas.Bool.{or_left, or_right, and_parts, ltb-false}
pub use Rattle.std.proofs.lemmas.Bool.Decides.{nat_tests, Decides-eqb, Decides-ltb}
pub use Rattle.std.proofs.lemmas.List.{length-map, map-append, length-set}
pub use Rattle.std.proofs.lemmas.List.Elements.{filter-append}
pub use Rattle.std.proofs.lemmas.List.Folds.{list_any-append}
pub use Rattle.std.proofs.lemmas.Map.Keys.{IsDistinct-head, IsDistinct-tail}
pub use Rattle.std.proofs.lemmas.Option.{slice_get_within, slice_get-get_or, get_or_from_slice_get, slice_get_past}
pub use Rattle.std.specs.FinMap.{get-remove, len-entries, is_sorted, entries_sorted, get-entries}
pub use Rattle.std.specs.FinMap.Entries.{below_all}
pub use Rattle.std.specs.List.{filter, flat_map, filter_map, list_any, cons_option, AllByRecursion, list_all}
unfoldable pub use Rattle.std.specs.List.{IsDistinct}
pub use Rattle.std.specs.Map.{keys_of}
pub use Rattle.std.specs.Option.{option_or, option_map_or}
pub use Rattle.std.specs.Ordering.{nat_cmp, eq_by_cmp, is_lt, is_eq}
pub use Rattle.std.specs.Prelude.{nat_lt, if◌then◌else◌, ◌==◌, is_some, ◌-◌, ◌&&◌, slice_get, option_map, ◌||◌, not, nat_le, unwrap_or, slice_index}
pub use Rattle.std.specs.Prelude.{slice_index_or, find, option_to_list, slice_set, T, nat_eq, ◌/◌}
pub use Rattle.std.specs.declared.alloc.Global.{Global}
pub use Rattle.std.specs.declared.cmp.Ordering.{Ordering}
pub use Rattle.std.specs.declared.cmp.Ordering.TheVariants.{Less, Greater, Equal}
unfoldable pub use Rattle.flow_filter.specs.Flow.{flow_of}
pub use Rattle.flow_filter.specs.Name.{place_of}
pub use Rattle.flow_filter.specs.declared.filter.Filter.{Filter}
pub use Rattle.flow_filter.specs.declared.flow.Flow.{Flow}
pub use Rattle.flow_filter.specs.declared.packet.Packet.{Packet}
pub use Rattle.flow_filter.specs.declared.site.Site.{Site}
pub use Rattle.nf_function.specs.Records.{Laws as FunctionLaws, newest, Fits}
pub use Rattle.nf_function.specs.Semantics.{Semantics, unit_at, kept_after}
pub use Rattle.nf_function.specs.UnitOrder.{units_total}
pub use Rattle.nf_function.specs.Units.{takes, unit_cmp, is_transport}
pub use Rattle.nf_function.specs.declared.chunk.Chunk.{Chunk, Chunk as RealChunk}
pub use Rattle.nf_function.specs.declared.output.Output.{Output}
pub use Rattle.nf_function.specs.declared.unit.Unit.{Unit}
pub use Rattle.state_chunk.specs.Format.{version_number, record_chunk, IsTally}
pub use Rattle.state_chunk.specs.Reading.{tally_read}
pub use Rattle.record_table.proofs.MadeChunks.{distinct_entries}
pub use Rattle.record_table.proofs.RecordLookUps.{each_newest}
pub use Rattle.record_table.proofs.UnitOrder.{same_unit_equiv, same_unit-true, one_unit}
pub use Rattle.record_table.specs.Chunks.{spelled}
unfoldable pub use Rattle.record_table.specs.Chunks.{records_of}
pub use Rattle.record_table.specs.Table.{part, after_packet, same_unit, Records, taken_by, either, newest_of, is_among}
pub use Rattle.event_filter.specs.Rules.{HaveOneEach}
pub use Rattle.event_filter.specs.declared.action.Action.{Action}
pub use Rattle.event_filter.specs.declared.decide.Decide.{Decide}
pub use Rattle.event_filter.specs.declared.mark.Mark.{Mark}
pub use Rattle.event_filter.specs.declared.rule.Rule.{Rule}
pub use Rattle.event_store.specs.Store.{stored_of, with_parcels, store_after}
pub use Rattle.switch_rules.specs.Rules.{rules_redirected}
pub use Rattle.switch_rules.specs.declared.target.Target.{Target}
pub use Rattle.packet_pool.specs.Pool.{FullCell, one_more}
pub use Rattle.nf_msgs.specs.Exports.{units_in}
pub use Rattle.nf_msgs.specs.MessageParts.{op_of}
pub use Rattle.nf_msgs.specs.Nodes.{instance_node, switch_node, controller_node}
pub use Rattle.nf_msgs.specs.declared.answer.Answer.{Answer}
pub use Rattle.nf_msgs.specs.declared.answer.Answer.TheVariants.{Overlap, Unknown, Import, Done}
pub use Rattle.nf_msgs.specs.declared.command.Command.{Command}
pub use Rattle.nf_msgs.specs.declared.command.Order.{Order}
pub use Rattle.nf_msgs.specs.declared.msg.Msg.{Msg}
pub use Rattle.nf_msgs.specs.declared.msg.Piece.{Piece}
pub use Rattle.nf_msgs.specs.declared.note.Note.{Note}
pub use Rattle.move_op.specs.Move.{MoveState, MoveRow, row_in, MovePlan, move_at_start, answer_of, destination, MoveNext, messages_of, put_to, forward_to}
pub use Rattle.move_op.specs.Move.{source, Store}
pub use Rattle.move_op.specs.Phases.{Phase}
pub use Rattle.move_op.specs.Table.{Nothing, Ask, Put, Release, Give_back}
pub use Rattle.move_op.specs.declared.door.Door.{Door}
pub use Rattle.copy_share.specs.Copy.{CopyState, CopyPlan, CopyRow}
pub use Rattle.copy_share.specs.Share.{ShareState, SharePlan, ShareRow, service_if_idle, home, others, syncs, setting, syncing, on_fenced, on_chunks, on_shared}
pub use Rattle.copy_share.specs.Share.{on_synced, is_idle}
pub use Rattle.copy_share.specs.declared.copy_phase.CopyPhase.{CopyPhase}
pub use Rattle.copy_share.specs.declared.copy_phase.CopyPhase.TheVariants.{Keeping}
pub use Rattle.copy_share.specs.declared.share_phase.SharePhase.{SharePhase}
pub use Rattle.switch_node.specs.Switch.{SwitchState, switch_step, is_there, takes_in, on_install, sends_to_instance, target_of, has_room, stop_messages}
pub use Rattle.switch_node.specs.declared.switch.TheConstants.{MOST_WAITING}
pub use Rattle.ctrl_node.specs.Controller.{ControllerState, controller_step, on_asked, on_diverted, after_turn, takes_turn, hand_step, unknown_name, overlap}
pub use Rattle.ctrl_node.specs.Controller.{step_and_finish, controller_at_start as opened_controller, unknown_in, queue_step, on_final, instance_at, refusal}
pub use Rattle.ctrl_node.specs.Controller.{may_finish, move_between, copy_between, share_begin, begin_step, decision_step}
pub use Rattle.ctrl_node.specs.Operations.{turn_of, turn_of_move, turn_of_copy, OpenOperations, are_quiet, is_quiet, lasts, serving_of}
pub use Rattle.ctrl_node.specs.declared.operation.Operation.{Operation}
pub use Rattle.ctrl_node.specs.declared.operation.Operation.TheVariants.{Move, Copy, Share}
pub use Rattle.instance_worker.specs.Instance.{is_live, carry_step, instance_step, selected_chunks, piece_refusal, to_controller, share_message, and_then}
pub use Rattle.instance_worker.specs.Instance.{chunk_told, with_count, table_after, tell_step, tells_and_notes, with_standby, with_records, keep_note}
pub use Rattle.instance_worker.specs.Instance.{where_good, tally_put}
pub use Rattle.instance_worker.specs.Pieces.{pieces, whole_of, piece_of}
pub use Rattle.instance_worker.specs.declared.instance.Instance.{Instance as InstanceState}
pub use Rattle.instance_worker.specs.declared.pieces.WholePieces.{WholePieces}
pub use Rattle.actor_net.proofs.CompleteWorlds.{done_node, done_weight}
pub use Rattle.actor_net.proofs.EnabledChoices.{at}
pub use Rattle.actor_net.proofs.LinkLemmas.{neither, put_on_link}
pub use Rattle.actor_net.proofs.OpeningWorlds.{opening_on_links, opening_weight, opening_waiting}
pub use Rattle.actor_net.proofs.RunInduction.{run_world, Taking, run_induction, NextChoice}
pub use Rattle.actor_net.proofs.RunLaws.{run_more}
pub use Rattle.actor_net.proofs.StepOutcome.{Takes, Outcome, taken_outcome}
pub use Rattle.actor_net.proofs.WaitingMessages.{less_first}
pub use Rattle.actor_net.proofs.WeightLaws.{Each as EachOn, OnLinks, EachSent, on_links_after, total_after, total, sent_weight, weigh, weigh-append}
pub use Rattle.actor_net.proofs.WeightLaws.{nodes_after}
pub use Rattle.actor_net.specs.Histories.{sent_for as core_sent, sent_for}
pub use Rattle.actor_net.specs.Network.{Network, IsRun, run, queue_at, on_link, is_done, world_next, Stepped, reaches, IsWorld}
pub use Rattle.actor_net.specs.Schedules.{StopsShort}
pub use Rattle.actor_net.specs.declared.choice.Choice.{Choice}
pub use Rattle.actor_net.specs.declared.schedule.TheConstants.{MOST_CHOICES}
pub use Rattle.net_world.proofs.LogLemmas.{done-append, answers_of-append, has_begun-append, installed-append, times_installed-append, counted_now}
pub use Rattle.net_world.proofs.LogLemmas.{has_answered-append, arrived-append, times_begun-append}
pub use Rattle.net_world.proofs.NumberCounts.{times_filter}
pub use Rattle.net_world.proofs.PickedLists.{any_picked, before_kept, before_new, before_one, none_picked}
pub use Rattle.net_world.proofs.SentMessages.{sent-append}
pub use Rattle.net_world.proofs.SilentLinks.{silent_total}
pub use Rattle.net_world.specs.Commands.{is_begun, has_answered, times_installed, answers_of, is_share, before_command, overlaps, IsCause, MayBegin, is_busy}
pub use Rattle.net_world.specs.Commands.{times_begun, keeps_off}
pub use Rattle.net_world.specs.Fold.{is_of, arrived_of, processed_of, IsFront, outputs, in_flight_of}
pub use Rattle.net_world.specs.Input.{packet_numbered, commands, IsInput, order_numbered, ends_last, most_counted, is_item, IsRising}
pub use Rattle.net_world.specs.Jobs.{job_of, course_of}
pub use Rattle.net_world.specs.Length.{pieces_among, pieces_sent, most_pieces, lines, most_choices, IsShort}
pub use Rattle.net_world.specs.Lives.{gained_by, is_first_of, is_shared_away, with_units, without_units, before_begun}
pub use Rattle.net_world.specs.Log.{dones_in, arrivals_in, installs_in, done_where, has_begun, begins_in, begin_in, answers_in}
pub use Rattle.net_world.specs.Nodes.{node_step, node_ready, node_ended}
pub use Rattle.net_world.specs.Path.{diverted_in, on_links, all_but, carried_in, held_by, passed_in, forwarded_in, stored_by, handed_over_in, queued_by}
pub use Rattle.net_world.specs.Places.{first_owner, members, member_for, unit_numbered, IsMoving, is_loose, owner, owner_after_order, owner_after, is_home}
pub use Rattle.net_world.specs.Places.{shared_among, members_after, is_at, IsPlace, ArePlaces, Owns, Is_destination, Is_member}
pub use Rattle.net_world.specs.Records.{chunks_in, kept_in, kept_for, kept_by, is_chunk_of, spelled_of, chunks_on_way, live_in, live_at, removed_by, given_in}
pub use Rattle.net_world.specs.Settles.{has_packet}
pub use Rattle.net_world.specs.Standby.{StandsBy, standby_at, standby_in}
pub use Rattle.net_world.specs.Start.{started_with, first_nodes, first_instance, first_switch, first_instances}
pub use Rattle.net_world.specs.Verdicts.{exported_for, before_export, is_refusal, is_timed, receiver_of, IsTakenAfter, live_number}
pub use Rattle.net_world.specs.Window.{AllHome}
pub use Rattle.net_world.specs.declared.config.Config.{Config}
pub use Rattle.net_world.specs.declared.node.Node.{Node}
pub use Rattle.net_world.specs.declared.node.Node.TheVariants.{Switch, Controller, Instance}
pub use Rattle.proof_machines.proofs.net.AtEnd.{AtEnd}
pub use Rattle.proof_machines.proofs.net.Ctrl.{each_found}
pub use Rattle.proof_machines.proofs.net.Elsewhere.{where_two}
pub use Rattle.proof_machines.proofs.net.GlobalAll.{GlobalAll, OfShare}
pub use Rattle.proof_machines.proofs.net.Holding.{OpLabel, Seeing, node_at, place as side_place, frame, RuleLabel}
pub use Rattle.proof_machines.proofs.net.MemberSteps.{does}
pub use Rattle.proof_machines.proofs.net.Net.{IsSys, Open, Sys, inst_step, Of_move, find_op, seen, MoveAsked, find_rule, held_of, World}
pub use Rattle.proof_machines.proofs.net.NewMessages.{new_head}
pub use Rattle.proof_machines.proofs.net.Readings.{not_both, seat_parts}
pub use Rattle.proof_machines.proofs.net.Rest.{done_u, none_mine, NothingOf, RestRule, RestOp}
pub use Rattle.proof_machines.proofs.net.ShareLabels.{label_of, ShareLabel}
pub use Rattle.proof_machines.proofs.net.ShareLists.{found_each}
pub use Rattle.proof_machines.proofs.net.ShareViews.{unit_share, as_share, share_expect, share_seen, share_items, own_at}
pub use Rattle.proof_machines.proofs.net.Shares.{ran_of, OpenShare, find_share, moves_of, olds, Any, Sharing, IsSharing, ShareAsked, WholeWorld, SeeingShare}
pub use Rattle.proof_machines.proofs.net.Shares.{ShareMsg, New, Shared_on, same, member_step, EachNew}
pub use Rattle.proof_machines.proofs.net.Under.{Under}
pub use Rattle.proof_machines.proofs.net.UnderInst.{heads, inst_from}
pub use Rattle.proof_machines.proofs.net.UnderStarts.{seeing, packets_done}
pub use Rattle.proof_machines.proofs.net.UnderSteps.{inst_keeps}
pub use Rattle.proof_machines.proofs.net.Units.{Where}
pub use Rattle.proof_machines.proofs.net.Untaken.{Untaken, ElsewhereHome, head_none, NoShare}
pub use Rattle.proof_machines.proofs.net.Waits.{Rising}
pub use Rattle.proof_machines.proofs.share.Heads.{to_members}
pub use Rattle.proof_machines.proofs.share.Lists.{self, cond-same}
pub use Rattle.proof_machines.proofs.share.Path.{forwarded, diverted}
pub use Rattle.proof_machines.proofs.share.Share.{Ran, UnitShare, View, has, mine_in}
pub use Rattle.proof_machines.proofs.share.Stages.{shape, Stage, served, processed}
pub use Rattle.proof_machines.proofs.unit.Ends.{same_of}
pub use Rattle.proof_machines.proofs.unit.Kept.{Kept, records_on}
pub use Rattle.proof_machines.proofs.Tests.{split, either_way}
pub use Rattle.proof_machines.proofs.unit.Labels.{Each, each-append, each_map}
pub use Rattle.proof_machines.proofs.unit.Lists.{firsts}
pub use Rattle.proof_machines.proofs.unit.Loose.{none_in}
pub use Rattle.proof_machines.proofs.unit.Machine.{State, idle, At_a, At_b, Carry, Event, Fence_to, Install, Stray}
pub use Rattle.proof_machines.proofs.unit.Pairs.{expect}
pub use Rattle.proof_machines.proofs.unit.Path.{passes_in, events_in}
pub use Rattle.proof_machines.proofs.unit.Real.{MoveMsg, where_true, add, Chunks, record_at, Frame, sends_to, Op, see_phase, only_mine}
pub use Rattle.proof_machines.proofs.unit.Rests.{exactly, behind_nil, is_over}
pub use Rattle.proof_machines.proofs.unit.Seats.{seat_shape, seat_path, UnitSeat, seat_all}
pub use Rattle.proof_machines.proofs.unit.Sides.{for_switch}
pub use Rattle.proof_machines.proofs.unit.Stages.{IsOrderedAs}
pub use Rattle.proof_machines.proofs.unit.ToRemove.{third_silent}
pub use Rattle.proof_machines.proofs.unit.UnitPieces.{nil_right, nil_left, records}
pub use Rattle.proof_machines.proofs.whole.EndAll.{ShareRests, EndsAll, At_share, end_all}
pub use Rattle.proof_machines.proofs.whole.Fronts.{live_front}
pub use Rattle.proof_machines.proofs.whole.MovePlaces.{processed_where, MayRun}
pub use Rattle.proof_machines.proofs.whole.PlacesAll.{ran_by}
pub use Rattle.proof_machines.proofs.whole.Readings.{ItsShare, its_share, fold_packets}
pub use Rattle.proof_machines.proofs.whole.SeesMore.{Sees_more}
pub use Rattle.proof_machines.proofs.whole.UnderMoves.{no_change, move_apart}
pub use Rattle.proof_machines.proofs.whole.WhereAll.{WhereAll, Apart_from_shares, Under_share, Came}
pub use Rattle.proof_outlines.proofs.joined.BesideRuns.{its_takes, its_label, its_labels, its_taken, its_input, HasBeside}
pub use Rattle.proof_outlines.proofs.joined.ControllerChanges.{NotMove}
pub use Rattle.proof_outlines.proofs.joined.CopyAnswers.{is_uncopied}
pub use Rattle.proof_outlines.proofs.joined.CopySends.{TurnSo}
pub use Rattle.proof_outlines.proofs.joined.Given.{Given, is_diverted, place, IsCopyPlan, IsPlan}
pub use Rattle.proof_outlines.proofs.joined.HandedUnits.{owner_next}
pub use Rattle.proof_outlines.proofs.joined.InstanceKeeps.{chunks_good}
pub use Rattle.proof_outlines.proofs.joined.InstanceMessages.{Rows, by_message}
pub use Rattle.proof_outlines.proofs.joined.Joined.{S, A, by_node, came_by, Joined, Label, AreGoodChunks, HasPieces, node_of, GenuinePacket, shown, Scene}
pub use Rattle.proof_outlines.proofs.joined.Joined.{IsTaken, Genuine, IsGoodPiece, IsInstanceAt, AreShown, is_target, FromController, ToController, FromSwitch}
pub use Rattle.proof_outlines.proofs.joined.Joined.{ToSwitch}
pub use Rattle.proof_outlines.proofs.joined.JoinedSteps.{scene, ready_at}
pub use Rattle.proof_outlines.proofs.joined.KnownOperations.{known, copy_turns}
pub use Rattle.proof_outlines.proofs.joined.LogLemmas.{by_node-append}
pub use Rattle.proof_outlines.proofs.joined.NodeSteps.{Wants, node_leads}
pub use Rattle.proof_outlines.proofs.joined.OperationsApart.{AllApart, AreApart}
pub use Rattle.proof_outlines.proofs.joined.OwnerLemmas.{In_first, In_second, installed_same, installed_quiet, installed_none, Stands, stands, unit_is_fit}
pub use Rattle.proof_outlines.proofs.joined.OwnerLemmas.{each_there, nowhere}
pub use Rattle.proof_outlines.proofs.joined.PlaceNotes.{uninstalled_unprocessed, switch_unprocessed, controller_uninstalled, instance_quiet, IsQuiet}
pub use Rattle.proof_outlines.proofs.joined.PlaceNotes.{AreUnprocessed, is_uninstalled}
pub use Rattle.proof_outlines.proofs.joined.RunUnits.{RanAs, Seen, Unseen, ran_as, ran_any}
pub use Rattle.proof_outlines.proofs.joined.RunsJoined.{Runs, run_beside, same_times, done_same, start_world, runs_at_start, runs_next, went_same}
pub use Rattle.proof_outlines.proofs.joined.Setting.{Setting, setting_of, start, IsCourse, world_of}
pub use Rattle.proof_outlines.proofs.joined.ShareBegins.{names_known}
pub use Rattle.proof_outlines.proofs.joined.StartJoined.{given, count_at_start, genuine, all_fit, all_labelled}
pub use Rattle.proof_outlines.proofs.outline.ControlOutline.{Sees}
pub use Rattle.proof_outlines.proofs.outline.ControllerWays.{row_by, row_fits}
pub use Rattle.proof_outlines.proofs.outline.CopyTurns.{CopyTurn, Idle, Hands, Hands_all, Ends, hands, copy_turn}
pub use Rattle.proof_outlines.proofs.outline.FiltersApart.{unit_fits, is_whole, takes_same, takes_whole, flow_fits}
pub use Rattle.proof_outlines.proofs.outline.InstanceOutline.{IsGenuine, held_genuine}
pub use Rattle.proof_outlines.proofs.outline.InstanceWays.{may_process, instance_fits, refusal_of}
pub use Rattle.proof_outlines.proofs.outline.MoveOutline.{IsChunk, outline_phase, units_same}
pub use Rattle.proof_outlines.proofs.outline.MoveRows.{all_sent}
pub use Rattle.proof_outlines.proofs.outline.OperationTables.{NotShared, got_insert, got_remove, gone_twice, remove_insert, handed_is, shared_or_not}
pub use Rattle.proof_outlines.proofs.outline.Outline.{is_sys, number, entries, ran_in, outline_instance, outline_piece, want_of}
pub use Rattle.proof_outlines.proofs.outline.StateOutline.{all_each}
pub use Rattle.proof_outlines.proofs.outline.SwitchWays.{step_fits}
pub use Rattle.proof_outlines.proofs.whole.OpenShares.{real_share, Both, RealShare, but_shares, both}
pub use Rattle.proof_outlines.proofs.whole.ShareLeft.{answered, noted, OpenAt, ShareLeaves, handed_leaves, queued_leaves}
pub use Rattle.proof_outlines.proofs.whole.StandbyKept.{standby_keeps}
pub use Rattle.proof_outlines.proofs.whole.SwitchAll.{target_node}
pub use Rattle.proof_outlines.proofs.whole.WholeOutline.{is_sharing, asked_of, want_share_of}
pub use Rattle.nf_net.specs.Copies.{UnitCopy, IsOrdered, IsToGive}
pub use Rattle.nf_net.specs.Promises.{Standbys, Completed, Verdicts}
