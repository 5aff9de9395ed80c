-- How a network starts: its configuration, and the world in which nothing has happened yet. This project's own.
use Rattle.std.specs.Prelude.{◌≡◌, ◌<◌, ◌≤◌, ℕ, zero, suc, false, List, [], ◌∷◌, ◌++◌, length, slice_index, slice_index_or, All}
use Rattle.std.specs.declared.alloc.Global.{Global}
use Rattle.switch_rules.specs.Rules as rules
use Rattle.switch_node.specs.Switch.{SwitchState}
use Rattle.switch_node.specs.declared.switch.TheConstants.{MOST_WINDOW}
use Rattle.ctrl_node.specs.Controller as controller
use Rattle.instance_worker.specs.declared.instance.Instance.{Instance as InstanceState}
use Rattle.instance_worker.specs.Instance.{instance_at_start}
use Rattle.nf_msgs.specs.declared.msg.Msg.{Msg}
use Rattle.nf_msgs.specs.declared.note.Note.{Note}
use Rattle.nf_msgs.specs.declared.nodes.TheConstants.{MOST_INSTANCES}
use Rattle.actor_net.specs.Network.{Network}
use Rattle.actor_net.specs.Opening.{opening}
use Rattle.net_world.specs.declared.config.Config.{Config}
use Rattle.net_world.specs.declared.node.Node.{Node}
use Rattle.net_world.specs.declared.node.Node.TheVariants.{Switch, Controller, Instance}

-- a configuration: 1 to 16 instances with a limit and a mark each, a window, and routes to instances
pub record IsConfig (c : Config) : Type 0 where
  pub some : 1 ≤ length c.names
  pub few : length c.names ≤ MOST_INSTANCES
  pub limits : length c.limits ≡ length c.names
  pub marks : length c.marked ≡ length c.names
  pub window : (1 ≤ c.window) × (c.window ≤ MOST_WINDOW)
  pub routes : All (λ r. r.1 < length c.names) c.routes

-- the switch: all cells are at home, and the rules are the routes
abbrev pub first_switch : Config → SwitchState
first_switch c = record {
  rules = rules.opened c.routes;
  pool = record { name = 0; cells = c.window; home = c.window };
  site = c.site;
  instances = length c.names;
  flying = 0;
  waiting = 0;
  closed = false;
}

module _ {F R : Type 0} (alloc : Global) (c : Config) where
  -- an instance without records and rules
  abbrev pub first_instance : ℕ → InstanceState F R
  first_instance i = instance_at_start alloc i (slice_index c.limits i) (slice_index_or c.marked i false) c.site

  -- the first instances, as many as the number says
  abbrev pub first_instances : ℕ → List (Node F R)
  first_instances zero = []
  first_instances (suc i) = first_instances i ++ Instance (first_instance i) ∷ []

  abbrev pub first_nodes : List (Node F R)
  first_nodes = Switch (first_switch c) ∷ Controller (controller.controller_at_start c.names c.site) ∷ first_instances (length c.names)

  -- the world at the start: nothing stands on a link, and nothing is noted
  abbrev pub started_with : List Msg → Network (Node F R) Msg Note
  started_with items = opening first_nodes items
