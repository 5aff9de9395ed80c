-- When choices are a complete run of a network from its start, and why they aren't. This project's own.
use Rattle.std.specs.Prelude.{◌≡◌, ◌⊎◌, ◌+◌, ℕ, true, false, List, length}
use Rattle.nf_function.specs.Semantics.{Semantics}
use Rattle.nf_msgs.specs.declared.msg.Msg.{Msg}
use Rattle.nf_msgs.specs.declared.note.Note.{Note}
use Rattle.actor_net.specs.declared.choice.Choice.{Choice}
use Rattle.actor_net.specs.Network.{Network, is_done, run}
use Rattle.net_world.specs.declared.node.Node.{Node}
use Rattle.net_world.specs.Nodes.{node_step, node_ended}
use Rattle.net_world.specs.Runs.{LeadsTo}
use Rattle.nf_net.specs.Courses.{IsRefusedAt}

module _ {F R : Type 0} (f : Semantics R) (start : Network (Node F R) Msg Note) (choices : List Choice) where
  -- the world after the choices
  abbrev pub world_after : Network (Node F R) Msg Note
  world_after = run (node_step f) choices start

  -- the choices are a run, and lead to a world in which nothing is left to do
  pub record IsCompleteRun : Type 0 where
    pub leads : LeadsTo f start choices world_after
    pub complete : is_done node_ended world_after ≡ true

  -- the choices are a run, and something is left to do where this step would come, the next one
  pub record IsShortAt (step : ℕ) : Type 0 where
    pub leads : LeadsTo f start choices world_after
    pub incomplete : is_done node_ended world_after ≡ false
    pub counted : step ≡ length choices + 1

  -- why the choices aren't a complete run
  abbrev pub IsAuditCause : ℕ → Type 0
  IsAuditCause step = IsRefusedAt f start choices step ⊎ IsShortAt step
