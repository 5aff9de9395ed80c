-- How a two-phase update starts: what it is given, and the world in which nothing has happened yet. This project's own.
use Rattle.std.specs.Prelude.{◌≤◌, ◌<◌, ◌^◌, ℕ, false, List, [], ◌∷◌, ◌++◌, map, take, drop, length, codes, None, All}
use Rattle.std.specs.declared.alloc.Global.{Global}
use Rattle.flow_filter.specs.declared.filter.Filter.{Filter}
use Rattle.flow_filter.specs.declared.packet.Packet.{Packet}
use Rattle.flow_filter.specs.declared.site.Site.{Site}
use Rattle.flow_filter.specs.Limits.{most_packets}
use Rattle.nf_function.specs.declared.kind.Kind.{Kind}
use Rattle.switch_rules.specs.Rules.{opened}
use Rattle.packet_window.specs.Window.{window_at_start as open_window}
use Rattle.nf_msgs.specs.declared.msg.Msg.{Msg}
use Rattle.nf_msgs.specs.declared.msg.Msg.TheVariants as msg
use Rattle.switch_node.specs.declared.switch.TheConstants.{MOST_WINDOW}
use Rattle.actor_net.specs.Network.{Network}
use Rattle.actor_net.specs.Opening.{opening}
use Rattle.net_world.specs.declared.config.Config.{Config}
use Rattle.net_world.specs.Start.{first_instance}
use Rattle.net_world.specs.Input.{IsRising, IsSteered, IsWhole}
use Rattle.two_phase.specs.declared.phase.Phase.TheVariants.{Idle}
use Rattle.two_phase.specs.declared.msg.TwoMsg.{TwoMsg}
use Rattle.two_phase.specs.declared.msg.TwoMsg.TheVariants.{InPacket, InStart, InEnd}
use Rattle.two_phase.specs.declared.note.TwoNote.{TwoNote}
use Rattle.two_phase.specs.declared.node.TwoNode.{TwoNode}
use Rattle.two_phase.specs.declared.node.TwoNode.TheVariants.{Switch, Ctrl as Controller, Instance}
use Rattle.two_phase.specs.Parts.{SwitchState, ControllerState}
use Rattle.two_phase.specs.Tables.{source, destination}

-- an update: a site, a window, the filter of what is to be moved, after how many packets that is asked for, and the packets
pub record UpdateJob : Type 0 where
  pub site : Site
  pub window : ℕ
  pub filter : Filter
  pub at : ℕ
  pub packets : List Packet

-- a window, a filter that takes whole units, and not too many steered packets, whose numbers rise from 1 on
pub record IsUpdateJob (kind : Kind) (job : UpdateJob) : Type 0 where
  pub window : (1 ≤ job.window) × (job.window ≤ MOST_WINDOW)
  pub site : job.site.inside.bits < 2 ^ 32
  pub filter : IsWhole kind job.filter
  pub steered : All (IsSteered job.site) job.packets
  pub numbers : IsRising 1 (map (λ p. p.number) job.packets)
  pub few : length job.packets ≤ most_packets

-- so many records an instance takes, which no update comes near
abbrev pub most_records : ℕ
most_records = 1000000

-- the update as the network sees it: two instances, a and b, and no routes, so that every flow goes to a; and its packets as the input
abbrev pub config_of : UpdateJob → Config
config_of job = record {
  names = codes "a" ∷ codes "b" ∷ [];
  limits = most_records ∷ most_records ∷ [];
  marked = false ∷ false ∷ [];
  site = job.site;
  window = job.window;
  routes = [];
}

abbrev pub items_of : UpdateJob → List Msg
items_of job = map msg.InPacket job.packets

-- the input of the switch: so many packets, the start, the other packets, and the end
abbrev pub input_at : ℕ → List Packet → List TwoMsg
input_at at packets = map InPacket (take at packets) ++ (InStart ∷ (map InPacket (drop at packets) ++ InEnd ∷ []))

-- the switch: all cells are at home, and every flow goes to the source
abbrev pub first_switch : UpdateJob → SwitchState
first_switch job = record { rules = opened []; window = open_window job.window; site = job.site; filter = job.filter }

-- the controller: it wasn't asked for the update yet
abbrev pub first_controller : Filter → ControllerState
first_controller filter = record {
  phase = Idle;
  filter = filter;
  store = [];
  kept = [];
  last = None;
  seen = None;
  ended = false;
  finished = false;
  stopped = false;
}

module _ {F R : Type 0} (alloc : Global) (job : UpdateJob) where
  abbrev pub first_nodes : List (TwoNode F R)
  first_nodes =
      Switch (first_switch job)
      ∷ Controller (first_controller job.filter)
      ∷ Instance (first_instance alloc (config_of job) source)
      ∷ Instance (first_instance alloc (config_of job) destination)
      ∷ []

  -- the world at the start: nothing stands on a link, and nothing is noted
  abbrev pub two_start : Network (TwoNode F R) TwoMsg TwoNote
  two_start = opening first_nodes (input_at job.at job.packets)
