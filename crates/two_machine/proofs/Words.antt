-- The words that most proofs of this crate share, each with the place that it comes from: the machine and its stages, the tables, worlds and their places.
pub use Rattle.std.proofs.Common.{ℕ, List, ◌∷◌, ◌≡◌, [], ◌++◌, refl, true, false, Bool, ap, ◌∙◌, None, sym, Option, Some, append-nil, arith, length, ◌+◌}
pub use Rattle.std.proofs.Common.{append_assoc, subst, ◌≢◌, ◌≤◌, ◌<◌, ◌*◌, ◌⊎◌, inl, inr, suc}
pub use Rattle.std.proofs.lemmas.Bool.{false≢true, and_parts}
pub use Rattle.std.proofs.lemmas.Bool.Decides.{nat_tests, Decides-eqb}
pub use Rattle.std.proofs.lemmas.List.{length_push, map-append}
pub use Rattle.std.proofs.lemmas.List.Concat.{flat_map-append}
pub use Rattle.std.proofs.lemmas.List.Elements.{filter-append}
pub use Rattle.std.proofs.lemmas.List.Sums.{fold-append}
pub use Rattle.std.specs.Prelude.{if◌then◌else◌, ◌==◌, is_some, ◌&&◌, ◌||◌, fold}
pub use Rattle.std.specs.List.{last_or}
pub use Rattle.actor_net.proofs.WeightLaws.{Each, weigh, weigh-append, each-append}
pub use Rattle.actor_net.specs.Network.{Network, IsRun, run, is_enabled, is_done, world_next}
pub use Rattle.actor_net.specs.Opening.{opening}
pub use Rattle.actor_net.specs.declared.choice.Choice.{Choice}
pub use Rattle.two_machine.proofs.Labels.{Label, IsSelected, OnBack, Labels}
pub use Rattle.two_machine.proofs.Machine.{Frame, Free, State, Target, To_a, Drops, Over, To_b, To_both, folded, same, Deleting, Ending, Freezing, Getting}
pub use Rattle.two_machine.proofs.Machine.{Holding, Idle, Laying, Move, Phase, Putting, Settling, Turning, Waiting, stepped, Arrive, End_comes, Idles, Item}
pub use Rattle.two_machine.proofs.Machine.{Take_bc, Take_cb, Take_event, Take_sa, after, Begin, Buffers, Is_done, Is_none, No_low, Rule, Scan, Take_ac}
pub use Rattle.two_machine.proofs.Machine.{Take_ca, Take_cs, Take_forward, Take_pass, Take_plain, Take_sc, Take_seen}
pub use Rattle.two_machine.proofs.Places.{Place, Ac, In, Sa, Sb, with_waits, Ca, Cb, Sc, Bc, Cs, Aw, Bw, choice, comes, waits, waiting_at}
pub use Rattle.two_machine.proofs.Puts.{result, sent, put_a, put_b, put_ctrl, put_switch, to_one, From_a, From_b, put_twice}
pub use Rattle.two_machine.proofs.Shapes.{shape, copied, done_is, Allowed, GoesOn, Leads, copies, to}
pub use Rattle.two_machine.proofs.Stages.{Rises, Stage, Before, Passing, Ends, Storing, done, path, Fits, Not_begun, Turned, Is_over, High_comes}
pub use Rattle.two_machine.proofs.Stages.{No_packet_came, Waits, Early, Fence_goes, Held_comes, Hold_goes, Low_comes, Low_goes, Restore_goes}
pub use Rattle.two_machine.proofs.Stages.{Restored_comes, Settles, fit, to_list}
pub use Rattle.two_machine.proofs.Tables.{System, Msg, Step, Ctrl, In_packet, Laws, Finish, In_end, Lay, ctrl_step, Carry, Note, Fence, Forward, In_start}
pub use Rattle.two_machine.proofs.Tables.{Inst, Stop, inst_step, processed, Delete, Enable, Get, Pass, Restore, all_processed, goes, node_ready, switch_step}
pub use Rattle.two_machine.proofs.Tables.{Final, Node, node_step, Credit, End, Event, Fenced, ctrl_row, finishes, forwards, has_room, soon_at, Switch, Chunks}
pub use Rattle.two_machine.proofs.Tables.{Copied, Done, Is_switch, Laid, Seen, Start, is_over, soon, Arrived, Deleted, Enabled, Is_inst, No_packet, Processed}
pub use Rattle.two_machine.proofs.Tables.{Restored, and_then, items, node_ended, none, still, takes_in, High, Is_ctrl, Low, first_nodes, in_packets, on_chunks}
pub use Rattle.two_machine.proofs.Tables.{on_copied, on_deleted, on_enabled, on_event, on_fenced, on_laid, on_restored, on_start, ruled, says}
pub use Rattle.two_machine.proofs.View.{World, read, Nobody, frame, those, view, Observer, arrived, Of_unit, net, ran, IsTaken, carries, item}
pub use Rattle.two_machine.proofs.View.{inside, own, starts, scans}
