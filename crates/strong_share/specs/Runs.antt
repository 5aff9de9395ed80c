-- The runs of strong sharing: which world choices lead to, and what a schedule's choices come to. This project's own.
use Rattle.std.specs.Prelude.{◌≡◌, List}
use Rattle.nf_function.specs.Semantics.{Semantics}
use Rattle.nf_msgs.specs.declared.msg.Msg.{Msg}
use Rattle.actor_net.specs.declared.choice.Choice.{Choice}
use Rattle.actor_net.specs.declared.schedule.Schedule.{Schedule}
use Rattle.actor_net.specs.declared.schedule.TheConstants.{MOST_CHOICES}
use Rattle.actor_net.specs.Network.{Network, IsRun, run}
use Rattle.actor_net.specs.Schedules.{scheduled}
use Rattle.strong_share.specs.declared.note.StrongNote.{StrongNote}
use Rattle.strong_share.specs.declared.node.StrongNode.{StrongNode}
use Rattle.strong_share.specs.Tables.{node_step, node_ready, node_ended}

module _ {F R : Type 0} (f : Semantics R) (start : Network (StrongNode F R) Msg StrongNote) where
  -- these choices are a run, and lead to this world
  pub record LeadsTo (choices : List Choice) (w : Network (StrongNode F R) Msg StrongNote) : Type 0 where
    pub is_run : IsRun node_ready (node_step f) choices start
    pub reached : w ≡ run (node_step f) choices start

  -- the choices of a schedule
  abbrev pub choices_of : Schedule → List Choice
  choices_of schedule = scheduled node_ready node_ended (node_step f) MOST_CHOICES schedule start
