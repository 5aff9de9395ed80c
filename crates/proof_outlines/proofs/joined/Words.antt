-- The names that most proofs on the worlds of runs cite, passed on from one place. Declares nothing.
pub use Rattle.proof_outlines.proofs.joined.Given.{Given, place, IsPlan, IsInstall, IsDivert, owner_by, loose_by, diverts, is_diverted, target_by, IsCopyPlan}
pub use Rattle.proof_outlines.proofs.joined.Given.{IsSharePlan, diverted_after, diverted_in}
pub use Rattle.proof_outlines.proofs.joined.Joined.{count, Label, Joined, node_of, IsTaken, Leads, S, A, Scene, AreShown, IsController, IsShare, shown}
pub use Rattle.proof_outlines.proofs.joined.Joined.{is_built, commands, came_by, asked_num, asked_nums, IsListed, IsMove, IsCopy, is_whole_if, Genuine}
pub use Rattle.proof_outlines.proofs.joined.Joined.{AreGoodChunks, HasPieces, AreFree, IsGoodPiece, Nodes, by_node, links_next, Grows, IsGoodChunk, IsCommand}
pub use Rattle.proof_outlines.proofs.joined.Joined.{IsInstanceAt, Took, IsSwitch, Shows, is_of, IsOutAt, GenuinePacket, instance_stays}
pub use Rattle.proof_outlines.proofs.joined.NextNumbers.{same_grows}
pub use Rattle.proof_outlines.proofs.outline.ControlOutline.{SeesMove, stored_after, Sees}
pub use Rattle.proof_outlines.proofs.outline.ControllerWays.{row_by, row_fits}
pub use Rattle.proof_outlines.proofs.outline.CopyTurns.{CopyTurn, Idle, Hands, Hands_all, Ends, hands, ends, is_copied, copy_turn, move_idle, quiet_turn}
pub use Rattle.proof_outlines.proofs.outline.FiltersApart.{is_whole, unit_fits, takes_same, takes_whole, number_fits, prefix_fits, filter_fits, flow_fits}
pub use Rattle.proof_outlines.proofs.outline.FiltersApart.{whole_takes, filter_is}
pub use Rattle.proof_outlines.proofs.outline.InstanceOutline.{filter_map-put, some_same, Follows, carry_follows, pass_follows, fence_follows, enable_follows}
pub use Rattle.proof_outlines.proofs.outline.InstanceOutline.{IsInstance, held_genuine}
pub use Rattle.proof_outlines.proofs.outline.InstanceWays.{instance_fits, may_process, refusal_of, WaysOfInstance}
pub use Rattle.proof_outlines.proofs.outline.MoveOutline.{outline_phase, IsChunk, enabled_row, piece_row, deleted_row, put_ok_row, restored_row, outline_plan}
pub use Rattle.proof_outlines.proofs.outline.MoveOutline.{RowFollows, put_no_row, event_row, is_done, IsRefusing, fenced_row}
pub use Rattle.proof_outlines.proofs.outline.OperationTables.{got_insert, got_remove, NotShared, handed_is}
pub use Rattle.proof_outlines.proofs.outline.Outline.{number, is_sys, want_at, want_of, entries, outline_piece, rule_of, outline_instance, ran_in}
pub use Rattle.proof_outlines.proofs.outline.StateOutline.{HasRecords, AreValid, stream_follows, delete_follows, put_follows, restore_follows, chunk_of}
pub use Rattle.proof_outlines.proofs.outline.StateOutline.{entries_made, valid_take, valid_drop, map-take, map-drop, all_each}
pub use Rattle.proof_outlines.proofs.outline.SwitchWays.{step_fits}
pub use Rattle.proof_outlines.proofs.whole.AskedShare.{members_long, members_are, members_apart, is_wanted, asked_move, asked_share, asked_none, command_unseen}
pub use Rattle.proof_outlines.proofs.whole.OpenShares.{StepFollows, OpensAll, real_share, joins, SeesAny, AllStep, all_step, but_shares, share_in, IsUnseen}
pub use Rattle.proof_outlines.proofs.whole.OpenShares.{no_op, no_open_share}
pub use Rattle.proof_outlines.proofs.whole.SwitchAll.{target_node, GoesToTarget, routes_same, RoutesAll, stops_all}
pub use Rattle.proof_outlines.proofs.whole.WholeOutline.{outline_all, asked_of, with_member, members_of, share_between, want_share_of, is_sharing, outline_each}
pub use Rattle.instance_worker.specs.declared.instance.Instance.{Instance as InstanceState}
pub use Rattle.net_world.specs.declared.node.Node.TheVariants.{Instance}
pub use Rattle.nf_function.specs.Records.{Laws as FunctionLaws}
unfoldable pub use Rattle.record_table.specs.Chunks.{records_of}
unfoldable pub use Rattle.std.specs.List.{IsDistinct}
