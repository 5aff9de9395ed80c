-- Why choices are no run from a network's start. This project's own.
use Rattle.std.specs.Prelude.{◌≡◌, ◌+◌, ℕ, List}
use Rattle.nf_function.specs.Semantics.{Semantics}
use Rattle.nf_msgs.specs.declared.msg.Msg.{Msg}
use Rattle.nf_msgs.specs.declared.note.Note.{Note}
use Rattle.actor_net.specs.declared.choice.Choice.{Choice}
use Rattle.actor_net.specs.Network.{Network}
use Rattle.actor_net.specs.Replays.{FirstFault}
use Rattle.net_world.specs.declared.node.Node.{Node}
use Rattle.net_world.specs.Nodes.{node_ready, node_step}

module _ {F R : Type 0} (f : Semantics R) (start : Network (Node F R) Msg Note) (choices : List Choice) where
  -- the choice of this step, counted from 1, is the first that isn't enabled in its turn
  pub record IsRefusedAt (step : ℕ) : Type 0 where
    pub index : ℕ
    pub counted : step ≡ index + 1
    pub fault : FirstFault node_ready (node_step f) (record { choices = choices; index = index }) start
