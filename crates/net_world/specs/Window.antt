-- How many packets are under way in any run of the network: the window of the configuration at most, and at a complete end none. And where
-- the cells are: at home, with a packet under way, or on their way home. This project's own.
use Rattle.std.specs.Prelude.{◌≡◌, ℕ, ◌+◌, ◌≤◌, List, [], ◌∷◌, length, Option, None, Some, slice_get}
use Rattle.switch_node.specs.Switch.{SwitchState}
use Rattle.nf_msgs.specs.declared.msg.Msg.{Msg}
use Rattle.nf_msgs.specs.declared.msg.Msg.TheVariants.{Credit}
use Rattle.nf_msgs.specs.declared.note.Note.{Note}
use Rattle.nf_msgs.specs.Nodes.{switch_node}
use Rattle.actor_net.specs.Network.{Network}
use Rattle.net_world.specs.declared.config.Config.{Config}
use Rattle.net_world.specs.declared.node.Node.{Node}
use Rattle.net_world.specs.declared.node.Node.TheVariants.{Switch}
use Rattle.net_world.specs.Log.{arrivals_in, dones_in}
use Rattle.net_world.specs.Path.{on_links}

-- the switch of a world
abbrev pub switch_in : {F R : Type 0} → Option (Node F R) → Option SwitchState
switch_in (Some (Switch s)) = Some s
switch_in other = None

abbrev pub switch_of : {F R : Type 0} → Network (Node F R) Msg Note → Option SwitchState
switch_of w = switch_in (slice_get w.nodes switch_node)

-- the packet of a message that takes its cell home
abbrev pub homeward : Msg → List ℕ
homeward (Credit cell) = cell.packet.number ∷ []
homeward message = []

-- what every run keeps
pub record Window (config : Config) {F R : Type 0} (w : Network (Node F R) Msg Note) : Type 0 where
  -- the packets that came and aren't processed are the window's number at most
  pub under_way : length (arrivals_in w.log) ≤ length (dones_in w.log) + config.window
  -- the packets that the switch counts as under way, and its cells at home, are the window
  pub switch : SwitchState
  pub switch_is : switch_of w ≡ Some switch
  pub cells : switch.flying + switch.pool.home ≡ config.window
  -- and these are the packets that came and aren't processed, and the cells on their way home
  pub balance : length (dones_in w.log) + switch.flying ≡ length (arrivals_in w.log) + length (on_links w homeward)

-- what a complete run has: as many packets are processed as came, and all cells are at home
pub record AllHome (config : Config) {F R : Type 0} (w : Network (Node F R) Msg Note) : Type 0 where
  pub none_under_way : length (arrivals_in w.log) ≡ length (dones_in w.log)
  pub switch : SwitchState
  pub switch_is : switch_of w ≡ Some switch
  pub cells : switch.pool.home ≡ config.window
