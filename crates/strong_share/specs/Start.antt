-- How strong sharing starts: what it is given, and the world in which nothing has happened yet. This project's own.
use Rattle.std.specs.Prelude.{◌≡◌, ◌≤◌, ◌<◌, ◌^◌, ℕ, false, List, [], ◌∷◌, ◌++◌, map, length, All}
use Rattle.std.specs.List.{range_with_len}
use Rattle.std.specs.declared.alloc.Global.{Global}
use Rattle.flow_filter.specs.declared.filter.Filter.{Filter}
use Rattle.flow_filter.specs.declared.packet.Packet.{Packet}
use Rattle.flow_filter.specs.declared.site.Site.{Site}
use Rattle.nf_function.specs.declared.kind.Kind.{Kind}
use Rattle.event_filter.specs.declared.action.Action.TheVariants.{Drop}
use Rattle.instance_worker.specs.declared.instance.Instance.{Instance as InstanceState}
use Rattle.instance_worker.specs.Instance.{instance_at_start}
use Rattle.packet_window.specs.Window.{window_at_start}
use Rattle.nf_msgs.specs.declared.msg.Msg.{Msg}
use Rattle.nf_msgs.specs.declared.msg.Msg.TheVariants.{InPacket, InEnd}
use Rattle.nf_msgs.specs.declared.nodes.TheConstants.{MOST_INSTANCES}
use Rattle.switch_node.specs.declared.switch.TheConstants.{MOST_WINDOW}
use Rattle.actor_net.specs.Network.{Network}
use Rattle.actor_net.specs.Opening.{opening}
use Rattle.net_world.specs.Input.{IsSteered, IsWhole}
use Rattle.strong_share.specs.declared.note.StrongNote.{StrongNote}
use Rattle.strong_share.specs.Parts.{SwitchState, ControllerState}
use Rattle.strong_share.specs.declared.serving.Serving.TheVariants.{Idle}
use Rattle.strong_share.specs.declared.node.StrongNode.{StrongNode}
use Rattle.strong_share.specs.declared.node.StrongNode.TheVariants.{Switch, Ctrl as Controller, Instance}
use Rattle.strong_share.specs.Tables.{the_share}

-- a member takes as many records as there can be, and so refuses none
abbrev pub member_limit : ℕ
member_limit = 1000000

-- what strong sharing is given: a site, a window, how many members share the units that a filter takes, and packets
pub record StrongJob : Type 0 where
  pub site : Site
  pub window : ℕ
  pub members : ℕ
  pub filter : Filter
  pub packets : List Packet

abbrev pub job_of : Site → ℕ → ℕ → Filter → List Packet → StrongJob
job_of site window members filter packets = record {
  site = site;
  window = window;
  members = members;
  filter = filter;
  packets = packets;
}

-- the numbers of its packets, in order
abbrev pub numbers_of : StrongJob → List ℕ
numbers_of job = map (λ p. p.number) job.packets

-- two to sixteen members, a window, a filter that takes whole units, and steered packets that are numbered from 1 in order
pub record IsStrongJob (kind : Kind) (job : StrongJob) : Type 0 where
  pub some : 2 ≤ job.members
  pub few : job.members ≤ MOST_INSTANCES
  pub window : (1 ≤ job.window) × (job.window ≤ MOST_WINDOW)
  pub site : job.site.inside.bits < 2 ^ 32
  pub filter : IsWhole kind job.filter
  pub steered : All (IsSteered job.site) job.packets
  pub numbers : numbers_of job ≡ range_with_len 1 (length job.packets)

-- the input: all packets, and then the end
abbrev pub input_of : List Packet → List Msg
input_of packets = map InPacket packets ++ InEnd ∷ []

-- the switch: all cells are at home
abbrev pub first_switch : StrongJob → SwitchState
first_switch job = record { window = window_at_start job.window; site = job.site; filter = job.filter; members = job.members }

abbrev pub first_controller : StrongJob → ControllerState
first_controller job = record { members = job.members; queue = []; serving = Idle; finals = 0 }

-- a member: no records, and one rule, by which it raises the filter's packets as events
abbrev pub member_at_start : {F R : Type 0} → Global → Filter → Site → ℕ → InstanceState F R
member_at_start alloc filter site i = record (instance_at_start alloc i member_limit false site) {
  rules = record { op = the_share; filter = filter; action = Drop; held = [] } ∷ [];
}

module _ {F R : Type 0} (alloc : Global) (job : StrongJob) where
  abbrev pub first_member : ℕ → InstanceState F R
  first_member i = member_at_start alloc job.filter job.site i

  -- the first members, as many as the number says
  abbrev pub first_members : ℕ → List (StrongNode F R)
  first_members n = map (λ i. Instance (first_member i)) (range_with_len 0 n)

  abbrev pub first_nodes : List (StrongNode F R)
  first_nodes = Switch (first_switch job) ∷ Controller (first_controller job) ∷ first_members job.members

  -- the world at the start: nothing stands on a link, and nothing is noted
  abbrev pub strong_start : Network (StrongNode F R) Msg StrongNote
  strong_start = opening first_nodes (input_of job.packets)
