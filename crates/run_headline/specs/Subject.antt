-- What a report is of. This project's own.
use Rattle.std.specs.Prelude.{ℕ, List}
use Rattle.flow_filter.specs.declared.packet.Packet.{Packet}
use Rattle.nf_function.specs.Semantics.{Semantics}
use Rattle.nf_msgs.specs.declared.command.Command.{Command}
use Rattle.net_world.specs.declared.config.Config.{Config}

-- the function, the instances' configuration, the capture's packets, the script's commands, and how many packets stand before each
pub record Subject (R : Type 0) : Type 0 where
  pub function : Semantics R
  pub config : Config
  pub packets : List Packet
  pub commands : List Command
  pub points : List ℕ
