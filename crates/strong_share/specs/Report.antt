-- The report of strong sharing: its lines and their order. This project's own format.
use Rattle.std.specs.Prelude.{ℕ, ◌++◌, List, Option, None, Some, codes, length, map, filter_map, flat_map, zip}
use Rattle.nf_function.specs.Semantics.{Semantics}
use Rattle.nf_msgs.specs.declared.msg.Msg.{Msg}
use Rattle.nf_msgs.specs.declared.note.Note.{Note}
use Rattle.actor_net.specs.Network.{Network}
use Rattle.instance_worker.specs.declared.instance.Instance.{Instance as InstanceState}
use Rattle.report_lines.specs.Lines.{NamedInstance, done_lines, function_line, named_line, out_lines, standby_lines, state_lines, tail_lines, trace_line}
use Rattle.strong_share.specs.declared.note.StrongNote.{StrongNote}
use Rattle.strong_share.specs.declared.node.StrongNode.{StrongNode}
use Rattle.strong_share.specs.declared.node.StrongNode.TheVariants.{Switch, Ctrl as Controller, Instance}
use Rattle.strong_share.specs.declared.report.StrongHead.{StrongHead}
use Rattle.strong_share.specs.Words.{entries, inner_notes}

-- the three lines at the top
unfoldable pub head_lines : StrongHead → List ℕ
head_lines head =
    codes "opennf strong 1\n" ++ function_line head.kind (length head.names.items) head.window ++ trace_line head.packets head.skipped head.cut

-- `event N INST`: a line for each packet that was queued, with the member that raised it, in that order
unfoldable pub event_lines : List (List ℕ) → List (ℕ × ℕ) → List ℕ
event_lines names queued = flat_map (named_line (codes "event ") names) queued

module _ {R : Type 0} where
  -- the lines of the packets: their outputs, where they were raised, and where they were processed
  unfoldable pub packet_lines : Semantics R → List (List ℕ) → List Note → List (ℕ × ℕ) → List ℕ
  packet_lines f names notes queued = out_lines f notes ++ event_lines names queued ++ done_lines names notes

  -- the lines of the members: their records, and at the bottom their tallies
  unfoldable pub member_lines : Semantics R → ℕ → List (NamedInstance R) → List ℕ
  member_lines f count members = state_lines f members ++ standby_lines f members ++ tail_lines count members

module _ {F R : Type 0} where
  -- the member that a node is
  abbrev pub member_in : StrongNode F R → Option (InstanceState F R)
  member_in (Switch s) = None
  member_in (Controller c) = None
  member_in (Instance i) = Some i

  abbrev pub member_under : List ℕ × InstanceState F R → NamedInstance R
  member_under x = record { name = x.0; table = x.1.table; slots = x.1.tally.slots }

  -- the members in their order, each under the name at its place
  abbrev pub named_members : List (List ℕ) → List (StrongNode F R) → List (NamedInstance R)
  named_members names nodes = map member_under (zip names (filter_map member_in nodes))

  -- the report of a world
  unfoldable pub strong_text : Semantics R → StrongHead → Network (StrongNode F R) Msg StrongNote → List ℕ
  strong_text f head world =
      head_lines head ++ packet_lines f head.names.items (inner_notes world.log) (entries world.log)
      ++ member_lines f (length head.names.items) (named_members head.names.items world.nodes)
