-- The report of a two-phase update: its lines and their order. This project's own format.
use Rattle.std.specs.Prelude.{ℕ, ◌++◌, List, [], ◌∷◌, Option, None, Some, codes, map, filter_map, flat_map, zip}
use Rattle.nf_function.specs.Semantics.{Semantics}
use Rattle.nf_msgs.specs.declared.note.Note.{Note}
use Rattle.actor_net.specs.Network.{Network}
use Rattle.instance_worker.specs.declared.instance.Instance.{Instance as InstanceState}
use Rattle.report_lines.specs.Lines.{NamedInstance, done_lines, function_line, out_lines, state_lines, tail_lines, trace_line}
use Rattle.two_phase.specs.declared.msg.TwoMsg.{TwoMsg}
use Rattle.two_phase.specs.declared.note.TwoNote.{TwoNote}
use Rattle.two_phase.specs.declared.note.TwoNote.TheVariants.{Done, NoPacket}
use Rattle.two_phase.specs.declared.node.TwoNode.{TwoNode}
use Rattle.two_phase.specs.declared.node.TwoNode.TheVariants.{Instance}
use Rattle.two_phase.specs.declared.report.TwoHead.{TwoHead}
use Rattle.two_phase.specs.Promises.{inner_notes}

-- the names of the source and the destination
abbrev pub names : List (List ℕ)
names = codes "a" ∷ codes "b" ∷ []

-- the three lines at the top
unfoldable pub head_lines : TwoHead → List ℕ
head_lines head = codes "opennf published 1\n" ++ function_line head.kind 2 head.window ++ trace_line head.packets head.skipped head.cut

-- the line of a note: what the update came to
abbrev pub verdict_line : TwoNote → List ℕ
verdict_line Done = codes "answer 1 done\n"
verdict_line NoPacket = codes "answer 1 no packet\n"
verdict_line note = []

module _ {R : Type 0} where
  -- the lines of the packets: their outputs, and where they were processed
  unfoldable pub packet_lines : Semantics R → List (List ℕ) → List Note → List ℕ
  packet_lines f names notes = out_lines f notes ++ done_lines names notes

  -- the lines of the instances: their live records, and at the bottom their tallies
  unfoldable pub instance_lines : Semantics R → List (NamedInstance R) → List ℕ
  instance_lines f instances = state_lines f instances ++ tail_lines 2 instances

module _ {F R : Type 0} where
  -- the instance that a node is
  abbrev pub instance_in : TwoNode F R → Option (InstanceState F R)
  instance_in (Instance i) = Some i
  instance_in node = None

  abbrev pub instance_under : List ℕ × InstanceState F R → NamedInstance R
  instance_under x = record { name = x.0; table = x.1.table; slots = x.1.tally.slots }

  -- the instances in their order, each under the name at its place
  abbrev pub named_instances : List (List ℕ) → List (TwoNode F R) → List (NamedInstance R)
  named_instances names nodes = map instance_under (zip names (filter_map instance_in nodes))

  -- the report of a world
  unfoldable pub two_text : Semantics R → TwoHead → Network (TwoNode F R) TwoMsg TwoNote → List ℕ
  two_text f head world =
      head_lines head ++ packet_lines f names (inner_notes world.log) ++ flat_map verdict_line world.log
      ++ instance_lines f (named_instances names world.nodes)
