-- The names that most proofs of one unit under a move cite, passed on from one place. Declares nothing.
pub use Rattle.std.proofs.Common.{◌≡◌, ℕ, Bool, true, false, List, [], ◌∷◌, ◌++◌, map, refl, sym, ap, ◌∙◌, append_assoc, append-nil, option_to_list, Option}
pub use Rattle.std.proofs.Common.{Some, None, ◌+◌, arith, if◌then◌else◌, ◌==◌, suc, zero, length, take, drop, take-append-drop, nat_le, ◌&&◌, is_some, ◌≢◌}
pub use Rattle.std.proofs.Common.{subst, ◌≤◌, length-append, T, ◌||◌}
pub use Rattle.std.proofs.lemmas.List.{map-append}
pub use Rattle.actor_net.proofs.WeightLaws.{Each}
pub use Rattle.move_op.specs.Phases.{Streaming, PhaseOf, Holding, Restoring, Returning, Freezing}
pub use Rattle.move_op.specs.Table.{Said, Nothing, Remove, Ask, Release, Give_back, Words, on_event, on_source_enabled, on_piece, on_deleted, on_restored}
pub use Rattle.move_op.specs.Table.{on_source_fenced, on_put_ok, on_put_no, on_destination_enabled, on_destination_fenced, Hold_at_source, Hold_at_destination}
pub use Rattle.move_op.specs.Table.{asking, push_on, release_row, all_put}
pub use Rattle.move_op.specs.declared.door.Door.{Door}
pub use Rattle.move_op.specs.declared.door.Door.TheVariants.{Shut, Asked, Open, Refused}
pub use Rattle.nf_function.specs.Units.{unit_cmp}
pub use Rattle.nf_function.specs.declared.unit.Unit.{Unit}
pub use Rattle.nf_msgs.specs.declared.answer.Answer.{Answer}
pub use Rattle.record_table.specs.Table.{same_unit, is_among, Records, without, either, newest_of}
pub use Rattle.proof_machines.proofs.Tests.{split, by_if}
pub use Rattle.proof_machines.proofs.unit.Early.{still, one_more, shapes, paths, at_rest, begun_on, frozen, stream_goes}
pub use Rattle.proof_machines.proofs.unit.Lists.{firsts, passing, plain, passes-plain, plains-plain, marked-plain, marked, never_true, firsts-on, SourceItem}
pub use Rattle.proof_machines.proofs.unit.Lists.{Event_of, Piece_of, Deleted_of, events, parts_in, named, shown-events, nil_is, cons_nil, shown, passes-passing}
pub use Rattle.proof_machines.proofs.unit.Lists.{plains-passing, marked-passing, plains, passes, map_nil}
pub use Rattle.proof_machines.proofs.unit.Machine.{At_a, At_b, At_c, Ran, Steps, after, Item, Carry, Forward, Fence_to, idle, Phase, Idle, State, MachineStep}
pub use Rattle.proof_machines.proofs.unit.Machine.{Begin, Arrive, Take_sa, Take_sb, Take_sc, Take_ac, Take_bc, Take_ca, Take_cb, Take_cs, moved, begun}
pub use Rattle.proof_machines.proofs.unit.Machine.{switch_does, Over, on, joined, Part, Rule, Free, Drops, Buffers, Pass, Fence, Enable, Put, next, Where}
pub use Rattle.proof_machines.proofs.unit.Machine.{Ended, is_nil, Piece, put, put_b, pick, or_own, Inst, inst_does, delete, Restore, Event, Put_no, Stream}
pub use Rattle.proof_machines.proofs.unit.Machine.{Delete, Enabled, Deleted, Put_ok, Restored, Fenced, Install, Stray, ControllerTurn, Passing, Ending, Undoing}
pub use Rattle.proof_machines.proofs.unit.Machine.{goes, words, from_source, part_back, from_destination, Did}
pub use Rattle.proof_machines.proofs.unit.Stages.{Stage, shape, all_of, Allowed, Placed, arrived_by, Restore_goes, Restored_comes, Turn_goes, Turned_back}
pub use Rattle.proof_machines.proofs.unit.Stages.{Returned, Fence_a, Fenced_back, Undone, GoesOn, At_rest, Streams, Is_wide, path, loose, times, Same}
pub use Rattle.proof_machines.proofs.unit.Stages.{IsOrderedAs, Moved, rest, All_put, Hold_goes, Laying, Doorway, Is_shut, Is_asked, Is_agreed, Is_denied}
pub use Rattle.proof_machines.proofs.unit.Stages.{Is_refused, Flows, body, reflow, front, drops, Held, Turned, Turned_loose, puts_of, Begun, Frozen}
pub use Rattle.proof_machines.proofs.unit.Stages.{Stream_goes, Fenced_a, Ending_b, Fence_b, Fenced_loose, Ending_loose, Fence_loose, Fenced_b, free_of}
pub use Rattle.proof_machines.proofs.unit.Stages.{answers_of, live_of, to_a, to_b, processed, side_of}
pub use Rattle.proof_machines.proofs.unit.UnitPieces.{nil_left, nil_right, ArePiecesOf, records, closes, first, first_of_one, refit, pick_all, pick-append}
pub use Rattle.proof_machines.proofs.unit.UnitPieces.{pick_one, others, last_is, none_behind, pick_first}
