-- How long the runs of a network are, and that none is stuck before its end. This project's own.
use Rattle.std.specs.Prelude.{◌≡◌, ◌≤◌, ◌<◌, true, List, [], length}
use Rattle.std.specs.declared.alloc.Global.{Global}
use Rattle.nf_function.specs.Semantics.{Semantics}
use Rattle.nf_msgs.specs.declared.msg.Msg.{Msg}
use Rattle.nf_msgs.specs.declared.note.Note.{Note}
use Rattle.actor_net.specs.declared.choice.Choice.{Choice}
use Rattle.actor_net.specs.declared.schedule.TheConstants.{MOST_CHOICES}
use Rattle.actor_net.specs.Network.{Network, IsRun, is_done}
use Rattle.actor_net.specs.Schedules.{enabled_choices}
use Rattle.net_world.specs.Length.{has_end, most_choices, pieces_sent, IsShort}
use Rattle.net_world.specs.declared.config.Config.{Config}
use Rattle.net_world.specs.declared.node.Node.{Node}
use Rattle.net_world.specs.Input.{IsInput}
use Rattle.net_world.specs.Jobs.{Course, Job, course_of, job_of, last_world}
use Rattle.net_world.specs.Nodes.{node_ended, node_ready, node_step}
use Rattle.net_world.specs.Start.{started_with}

-- a run's choices are few, and after them some choice is enabled unless nothing is left to do
pub record RunEnds {F R : Type 0} (job : Job R) (course : Course F R) : Type 0 where
  pub few : length course.choices ≤ most_choices (length job.config.names) job.items (pieces_sent job.function course.start course.choices)
  pub goes_on : enabled_choices node_ready (last_world job.function course) ≡ [] → is_done node_ended (last_world job.function course) ≡ true
  pub short : IsShort job.items → length course.choices < MOST_CHOICES

module _ {R : Type 0} (F : Type 0) (f : Semantics R) where
  -- the network at its start
  abbrev pub begun : Global → Config → List Msg → Network (Node F R) Msg Note
  begun alloc config items = started_with alloc config items

  -- so with each run of an input that ends once
  abbrev pub EndLaw : Type 0
  EndLaw = (alloc : Global) (config : Config) (items : List Msg) (choices : List Choice) → IsInput f.kind config items → has_end items ≡ true
      → IsRun node_ready (node_step f) choices (begun alloc config items) → RunEnds (job_of f config items) (course_of (begun alloc config items) choices)
