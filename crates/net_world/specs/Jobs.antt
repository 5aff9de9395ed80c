-- What a run is of: the network function, the configuration of its network and the input. And the course that it takes: the world at its start, and
-- its choices. This project's own.
use Rattle.std.specs.Prelude.{List}
use Rattle.nf_function.specs.Semantics.{Semantics}
use Rattle.nf_msgs.specs.declared.msg.Msg.{Msg}
use Rattle.nf_msgs.specs.declared.note.Note.{Note}
use Rattle.actor_net.specs.declared.choice.Choice.{Choice}
use Rattle.actor_net.specs.Network.{Network, run}
use Rattle.net_world.specs.declared.config.Config.{Config}
use Rattle.net_world.specs.declared.node.Node.{Node}
use Rattle.net_world.specs.Nodes.{node_step}

-- a function, the configuration of its network, and the input
pub record Job (R : Type 0) : Type 0 where
  pub function : Semantics R
  pub config : Config
  pub items : List Msg

abbrev pub job_of : {R : Type 0} → Semantics R → Config → List Msg → Job R
job_of f config items = record { function = f; config = config; items = items }

-- the world at the start of a run, and the choices
pub record Course (F R : Type 0) : Type 0 where
  pub start : Network (Node F R) Msg Note
  pub choices : List Choice

abbrev pub course_of : {F R : Type 0} → Network (Node F R) Msg Note → List Choice → Course F R
course_of start choices = record { start = start; choices = choices }

-- the world at its end
abbrev pub last_world : {F R : Type 0} → Semantics R → Course F R → Network (Node F R) Msg Note
last_world f course = run (node_step f) course.choices course.start
