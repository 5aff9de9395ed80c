-- The names that most proofs of the abstract network cite, passed on from one place. Declares nothing.
pub use Rattle.std.proofs.Common.{◌≡◌, ℕ, Bool, true, false, Option, Some, None, List, [], ◌∷◌, ◌++◌, drop, refl, sym, ap, ◌∙◌, append-nil, arith}
pub use Rattle.std.proofs.Common.{if◌then◌else◌, ◌&&◌, ◌==◌, ◌<◌, ◌≤◌, map, subst, ◌+◌, length, is_some, option_to_list, suc, ◌≢◌, ◌⊎◌, inl, inr, option_map}
pub use Rattle.std.proofs.Common.{◌-◌, unwrap_or, ◌||◌, append_assoc}
pub use Rattle.std.proofs.lemmas.Bool.{eqb-true, both_ways, false_from_ne_true, and_parts, true_from_ne_false}
pub use Rattle.std.proofs.lemmas.Bool.Decides.{nat_tests, Decides-eqb}
pub use Rattle.std.proofs.lemmas.Cmp.{nat_eq_equiv}
pub use Rattle.std.proofs.lemmas.Option.{same_Some}
pub use Rattle.std.specs.Option.{option_map_or}
pub use Rattle.actor_net.proofs.LinkLemmas.{neither}
pub use Rattle.copy_share.specs.declared.share_phase.SharePhase.{SharePhase}
pub use Rattle.copy_share.specs.declared.share_phase.SharePhase.TheVariants.{Fencing, Getting, Setting, Idle, Out, Syncing}
pub use Rattle.flow_filter.specs.declared.filter.Filter.{Filter}
pub use Rattle.move_op.specs.Phases.{Streaming, Undoing}
pub use Rattle.nf_msgs.specs.declared.answer.Answer.{Answer}
pub use Rattle.record_table.proofs.UnitOrder.{same_unit_equiv, same_unit-true}
pub use Rattle.record_table.specs.Table.{same_unit, is_among}
pub use Rattle.proof_machines.proofs.Tests.{by_if, split, either_way}
pub use Rattle.proof_machines.proofs.net.GlobalAll.{Numbered, Disjoint, disjoint_sym, OfShare, GlobalAll, same_shares, Opened, Within, TakesSome}
pub use Rattle.proof_machines.proofs.net.Holding.{Seeing, frame, node_at, place, IsController, Holds, Label, OpLabel, EachSent, MoveLabel, shows, RuleLabel}
pub use Rattle.proof_machines.proofs.net.Holding.{sides_of, SeesNode, done_of}
pub use Rattle.proof_machines.proofs.net.Links.{head, each_put, each_after, sent, view_some, view_none, done_of-append, done_at, view_put}
pub use Rattle.proof_machines.proofs.net.Net.{Msg, MoveAsked, Sys, process, inst_step, ctrl_step, sw_sends, begin_sends, behind, links_after, inst_next}
pub use Rattle.proof_machines.proofs.net.Net.{ctrl_next, sw_next, begin_next, IsSys, Open, find_op, World, seen, Msg.Of_move, set_op, write_op, num_of}
pub use Rattle.proof_machines.proofs.net.Net.{Msg.Carry_on, Msg.Pass_on, Msg.Fence_on, row_of, row, filter_for, wrap, ControllerMove, found, numbered}
pub use Rattle.proof_machines.proofs.net.Net.{Msg.In_packet, Msg.Asked, find_rule, rule_of, held_of, in_next, Ruling, first_rule, set_rule, hold, holding}
pub use Rattle.proof_machines.proofs.net.Net.{drop_rule, to_ctrl, NumberedInstance, by_kind, by_rule, new_op, InstanceTurn, meets_any, everything, says}
pub use Rattle.proof_machines.proofs.net.Net.{with_table, on_move, is_free, at_node, process_all, runs_it, fenced, change_rules, has_rule, ruled_by, new_rule}
pub use Rattle.proof_machines.proofs.net.Net.{sw_target}
pub use Rattle.proof_machines.proofs.net.Rest.{Rest, carries_of, done_u, NothingOf, Global, RestRule, RestOp, Below, IsBelow, none_mine, below_off, HasNothing}
pub use Rattle.proof_machines.proofs.net.ShareLists.{find_old, find_new, SameShare, AreNumbersApart, find_set, set_find, find_more, found_each, found_num}
pub use Rattle.proof_machines.proofs.net.ShareLists.{each_set_share, found_own}
pub use Rattle.proof_machines.proofs.net.ShareViews.{mine, unit_share, move_seen, old_seen, share_items, own_of, fit, new_seen, share_seen, as_share}
pub use Rattle.proof_machines.proofs.net.ShareViews.{share_expect, ShareHolds, own_at}
pub use Rattle.proof_machines.proofs.net.Shares.{Any, Any.Old, Any.New, ShareMsg, ShareMsg.Shared_on, ShareTurn}
pub use Rattle.proof_machines.proofs.net.Shares.{olds, as_old, Sharing, OpenShare, Told, Told.Is_fenced, Told.Has_chunks, Told.Has_chunk}
pub use Rattle.proof_machines.proofs.net.Shares.{Told.Is_synced, Told.Has_packet, syncs, s_row, s_serves, share_words, told_by, by_share, shared_chunk}
pub use Rattle.proof_machines.proofs.net.Shares.{member_step, WholeWorld, moves_of, whole_inst, whole_ctrl, whole_switch, begin_move}
pub use Rattle.proof_machines.proofs.net.Shares.{ShareAsked, new_share, find_share, asks, begin_share}
pub use Rattle.proof_machines.proofs.net.Shares.{puts_get, keeps, meets_shares, MayShare, ShareMsg.Diverted_on, same, IsSharing, set_share}
pub use Rattle.proof_machines.proofs.net.Shares.{share_taking, share_row, SharesStep, share_sends, arrive_sends, old_step, whole_input, SeeingShare, MemberTurn}
pub use Rattle.proof_machines.proofs.net.Shares.{ran_of, EachNew, s_goes, share_target}
pub use Rattle.proof_machines.proofs.share.Heads.{to_members, ToMembers, Meets, meets_sw, meets_to}
pub use Rattle.proof_machines.proofs.share.Lists.{self, has-without, apart_of, cond-same, runs-append}
pub use Rattle.proof_machines.proofs.share.Places.{Grows, placed}
pub use Rattle.proof_machines.proofs.share.Records.{own_is, done_is, is_live, seen_front}
pub use Rattle.proof_machines.proofs.share.Share.{Item.Carry, serves, said_to, Item.Install, Item.Stray, Item.Fence, Item.Forward, has, joined}
pub use Rattle.proof_machines.proofs.share.Share.{ShareMachineStep.Take_sc, runs, Item.Fenced, member_does, Item.Shared, Item.Diverted, Item.Get, Item.Sync}
pub use Rattle.proof_machines.proofs.share.Share.{Item.Chunk, Item.Synced, UnitShare, stepped, chunk_of, if_mine, over, only, without_number, nowhere, waits}
pub use Rattle.proof_machines.proofs.share.Share.{sync_to, share_does, View, ShareMachineStep, put, ShareMachineStep.Arrive, ShareMachineStep.Take_cs}
pub use Rattle.proof_machines.proofs.share.Share.{ShareMachineStep.Take_back, from_sc, from_back, ShareMachineStep.Take_sw, ShareMachineStep.Take_to, from_sw}
pub use Rattle.proof_machines.proofs.share.Share.{from_to, from_cs}
pub use Rattle.proof_machines.proofs.share.Stages.{shape, Stage, Turn, Turn.Coming, comes_from, served, Stage.Diverting, Stage.Fence_goes, Stage.Fenced_comes}
pub use Rattle.proof_machines.proofs.share.Stages.{Stage.Get_goes, Stage.Chunks_come, Stage.Spreads, Stage.Resting, Stage.Forwards, Stage.Carries}
pub use Rattle.proof_machines.proofs.share.Stages.{Stage.Chunk_comes, distinct, IsShare, path, brings, Alike, front, processed, early, late, IsFront, FitsStage}
pub use Rattle.proof_machines.proofs.share.Stages.{packets, Lacks}
pub use Rattle.proof_machines.proofs.share.Steps.{goes_on}
pub use Rattle.proof_machines.proofs.unit.Between.{AtRestNow, Rests_at, rest_at, seat_ends, seat_at, seat_begins}
pub use Rattle.proof_machines.proofs.unit.Cuts.{marks, chop, record_first, all_at, joined-chop, some_parts}
pub use Rattle.proof_machines.proofs.unit.Ends.{same_of}
pub use Rattle.proof_machines.proofs.unit.Kept.{frozen_in, free_in, Kept, lives, on_way, Nowhere, Is_live, On_way, Twice}
pub use Rattle.proof_machines.proofs.unit.Labels.{Each, Without, Clean, Foreign, SentForeign, StaysClean, from_source_clean, from_destination_clean}
pub use Rattle.proof_machines.proofs.unit.Labels.{each-append, each_map, each_any, cut_foreign, each_both}
pub use Rattle.proof_machines.proofs.unit.Lists.{firsts, firsts-on, none_is, never_true, cons_nil}
pub use Rattle.proof_machines.proofs.unit.Machine.{At_a, At_b, At_c, Ran, after, State, Item, Put_no, Where, Enable, Stream, Delete, Put, Restore, Fence_to}
pub use Rattle.proof_machines.proofs.unit.Machine.{ControllerTurn, goes, from_source, from_destination, Over, Pass, Rule, Free, Drops, Buffers, Part, Inst, Did}
pub use Rattle.proof_machines.proofs.unit.Machine.{inst_does, MachineStep, Take_sa, Take_sb, Take_ca, Take_cb, moved, put_a, put_b, put_c, carried, ran_one}
pub use Rattle.proof_machines.proofs.unit.Machine.{Steps, Take_ac, Take_bc, put_ctrl, idle, Passing, Ending, Ended, Freezing, switch_does, redirected, send_to}
pub use Rattle.proof_machines.proofs.unit.Machine.{Begin, Where as Side, sends as did_sends}
pub use Rattle.std.specs.List.{filter_map}
pub use Rattle.std.proofs.lemmas.List.{map-append}
pub use Rattle.std.proofs.lemmas.List.Elements.{filter-append, filter_map-append}
pub use Rattle.proof_machines.proofs.unit.Pairs.{Nodes, expect, ShownBy, By_sa, By_sb, By_sc, By_ca, By_cb, By_ac, By_bc, By_cc, By_cs, shown_by, after_take}
pub use Rattle.proof_machines.proofs.unit.Pairs.{a_from_s, a_from_c, b_from_s, b_from_c, c_from_s, nothing_seen, ctrl_from_a, ctrl_from_b, switch_from_c}
pub use Rattle.proof_machines.proofs.unit.Pairs.{arrives_at}
pub use Rattle.proof_machines.proofs.unit.Real.{Chunks, sent_for, Op, record_at, MovePiece, MovePhase, MoveMsg, Frame, see, see_phase, operation_turn}
pub use Rattle.proof_machines.proofs.unit.Real.{operation_from_source, operation_from_destination, where_true, sends_to, only_mine, Sees, OperationTurn}
pub use Rattle.proof_machines.proofs.unit.Real.{none_if, add, view, off_if, operation_words, put_to, forward_to, sends_of}
pub use Rattle.proof_machines.proofs.unit.Rests.{Silent, is_over, exactly}
pub use Rattle.proof_machines.proofs.unit.Seats.{UnitSeat, seat_shape, seat_all, seat_rests, is_covered, seat_loose, seat_goes_on, covered_stays, seat_allowed}
pub use Rattle.proof_machines.proofs.unit.Seats.{base_of, Covered, Is_beside, Is_away, seat_path}
pub use Rattle.proof_machines.proofs.unit.Seen.{NodesDiffer, frame_of, quiet, did_a, did_b, from_source_seen, from_destination_seen, sent_for-append}
pub use Rattle.proof_machines.proofs.unit.SeenInst.{put_row, SeesInstance, stream_row, delete_row, restore_row, parts_of, stream_seen, delete_seen}
pub use Rattle.proof_machines.proofs.unit.SeenInst.{restore_seen, put_seen}
pub use Rattle.proof_machines.proofs.unit.Stages.{IsOrderedAs, Allowed, arrived_by, Laying, Turned, Fenced_a, Ending_b, Turned_loose, Fenced_loose}
pub use Rattle.proof_machines.proofs.unit.Stages.{Ending_loose, Returned, to_a, times, Same, Fence_b, Fence_loose, Fenced_b, Moved, loose, At_rest}
pub use Rattle.proof_machines.proofs.unit.UnitPieces.{records, first, ArePiecesOf, first_of_one, nil_left}
pub use Rattle.nf_function.specs.declared.unit.Unit.{Unit}
