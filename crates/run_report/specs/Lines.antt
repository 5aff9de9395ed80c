-- The report of a run: its lines and their order. This project's own format.
use Rattle.std.specs.Prelude.{ℕ, ◌++◌, List, Bool, Option, None, Some, if◌then◌else◌, codes, decimal, length, map, filter_map}
use Rattle.std.specs.List.{flat_map, zip}
use Rattle.std.specs.FinMap as finite
use Rattle.nf_function.specs.Semantics.{Semantics}
use Rattle.nf_msgs.specs.declared.answer.Answer.{Answer}
use Rattle.nf_msgs.specs.declared.msg.Msg.{Msg}
use Rattle.nf_msgs.specs.declared.note.Note.{Note}
use Rattle.nf_msgs.specs.Answers.{answer_text}
use Rattle.actor_net.specs.Network.{Network}
use Rattle.instance_worker.specs.declared.instance.Instance.{Instance as InstanceState}
use Rattle.net_world.specs.declared.node.Node.{Node}
use Rattle.net_world.specs.declared.node.Node.TheVariants.{Switch, Controller, Instance}
use Rattle.net_world.specs.Log.{answer_in}
use Rattle.report_lines.specs.declared.heads.Head.{Head}
use Rattle.report_lines.specs.Lines.{NamedInstance, by_number, done_lines, function_line, out_lines, standby_lines, state_lines, tail_lines, trace_line}

-- the three lines at the top
unfoldable pub head_lines : Head → List ℕ
head_lines head =
    codes "opennf report 1\n" ++ function_line head.kind (length head.names) head.window ++ trace_line head.packets head.skipped head.cut

-- `answer C ANSWER`
unfoldable pub answer_line : ℕ × Answer → List ℕ
answer_line x = codes "answer " ++ decimal x.0 ++ codes " " ++ answer_text x.1 ++ codes "\n"

abbrev pub answer_lines : List Note → List ℕ
answer_lines log = flat_map answer_line (by_number answer_in log)

module _ {R : Type 0} where
  -- the lines of the packets
  unfoldable pub packet_lines : Semantics R → List (List ℕ) → List Note → List ℕ
  packet_lines f names log = out_lines f log ++ done_lines names log

  -- the lines of the records
  unfoldable pub record_lines : Semantics R → List (NamedInstance R) → List ℕ
  record_lines f instances = state_lines f instances ++ standby_lines f instances

  -- `live INST COUNT`: how many live records the instance has
  unfoldable pub live_line : NamedInstance R → List ℕ
  live_line instance = codes "live " ++ instance.name ++ codes " " ++ decimal (finite.len instance.table.live) ++ codes "\n"

module _ {F R : Type 0} where
  -- the instance that a node is
  abbrev pub instance_in : Node F R → Option (InstanceState F R)
  instance_in (Switch s) = None
  instance_in (Controller c) = None
  instance_in (Instance i) = Some i

  abbrev pub instance_under : List ℕ × InstanceState F R → NamedInstance R
  instance_under x = record { name = x.0; table = x.1.table; slots = x.1.tally.slots }

  -- the instances in their order, each under the name at its place
  abbrev pub named_instances : List (List ℕ) → List (Node F R) → List (NamedInstance R)
  named_instances names nodes = map instance_under (zip names (filter_map instance_in nodes))

  -- the lines of packets, answers and records
  unfoldable pub whole_lines : Semantics R → Head → Network (Node F R) Msg Note → List ℕ
  whole_lines f head world =
      packet_lines f head.names world.log ++ answer_lines world.log ++ record_lines f (named_instances head.names world.nodes)

  -- the same without packets, and counts in place of records
  unfoldable pub summary_lines : Head → Network (Node F R) Msg Note → List ℕ
  summary_lines head world = answer_lines world.log ++ flat_map live_line (named_instances head.names world.nodes)

  -- the report of a world
  unfoldable pub report_text : Semantics R → Head → Bool → Network (Node F R) Msg Note → List ℕ
  report_text f head summary world =
      head_lines head ++ (if summary then summary_lines head world else whole_lines f head world)
      ++ tail_lines (length head.names) (named_instances head.names world.nodes)
