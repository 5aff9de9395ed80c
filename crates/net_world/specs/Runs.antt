-- The runs of a network: which world choices lead to, and what a schedule's choices come to. This project's own.
use Rattle.std.specs.Prelude.{◌≡◌, ℕ, true, List, length}
use Rattle.nf_function.specs.Semantics.{Semantics}
use Rattle.nf_msgs.specs.declared.msg.Msg.{Msg}
use Rattle.nf_msgs.specs.declared.note.Note.{Note}
use Rattle.actor_net.specs.declared.choice.Choice.{Choice}
use Rattle.actor_net.specs.declared.schedule.Schedule.{Schedule}
use Rattle.actor_net.specs.declared.schedule.TheConstants.{MOST_CHOICES}
use Rattle.actor_net.specs.Network.{Network, IsRun, is_done, run}
use Rattle.actor_net.specs.Schedules.{scheduled, StopsShort}
use Rattle.net_world.specs.declared.node.Node.{Node}
use Rattle.net_world.specs.Nodes.{node_step, node_ready, node_ended}

module _ {F R : Type 0} (f : Semantics R) (start : Network (Node F R) Msg Note) where
  -- these choices are a run, and lead to this world
  pub record LeadsTo (choices : List Choice) (w : Network (Node F R) Msg Note) : Type 0 where
    pub is_run : IsRun node_ready (node_step f) choices start
    pub reached : w ≡ run (node_step f) choices start

  -- the choices of a schedule
  abbrev pub choices_of : Schedule → List Choice
  choices_of schedule = scheduled node_ready node_ended (node_step f) MOST_CHOICES schedule start

  -- a schedule's choices lead to this world, in which nothing is left to do
  pub record EndsIn (schedule : Schedule) (w : Network (Node F R) Msg Note) : Type 0 where
    pub leads : LeadsTo (choices_of schedule) w
    pub complete : is_done node_ended w ≡ true

  -- a schedule's choices stop before that, after so many
  pub record StopsAt (schedule : Schedule) (step : ℕ) : Type 0 where
    pub count : length (choices_of schedule) ≡ step
    pub short : StopsShort node_ready node_ended (run (node_step f) (choices_of schedule) start) step
