-- What a run of the network is given: its configuration, whose filters take whole units, and an input of packets and commands in
-- the order of their numbers. This project's own.
use Rattle.std.specs.Prelude.{◌≡◌, ◌==◌, ◌≤◌, ◌<◌, ◌-◌, ◌^◌, ℕ, suc, Bool, true, false, List, [], ◌∷◌, map, filter_map, find, length, Option, None, Some}
use Rattle.std.specs.Prelude.{option_map, unwrap_or, All}
use Rattle.std.specs.Option.{ForSome}
use Rattle.std.specs.Str.{bytes_eq}
use Rattle.flow_filter.specs.declared.filter.Filter.{Filter}
use Rattle.flow_filter.specs.declared.packet.Packet.{Packet}
use Rattle.flow_filter.specs.declared.site.Site.{Site}
use Rattle.flow_filter.specs.Filter.{IsFilter, IsFlow}
use Rattle.flow_filter.specs.FilterText.{fields_of}
use Rattle.flow_filter.specs.Flow.{flow_of}
use Rattle.flow_filter.specs.Name.{has_twice}
use Rattle.nf_function.specs.declared.kind.Kind.{Kind}
use Rattle.nf_function.specs.Records.{Fits}
use Rattle.nf_function.specs.Units.{splits}
use Rattle.nf_msgs.specs.declared.command.Command.{Command}
use Rattle.nf_msgs.specs.declared.command.Order.{Order}
use Rattle.nf_msgs.specs.declared.command.Order.TheVariants.{Move, Copy, Share}
use Rattle.nf_msgs.specs.declared.msg.Msg.{Msg}
use Rattle.nf_msgs.specs.declared.msg.Msg.TheVariants.{InPacket, InCommand, InSettle, InEnd}
use Rattle.net_world.specs.declared.config.Config.{Config}
use Rattle.net_world.specs.Start.{IsConfig}
use Rattle.flow_filter.specs.Packet.{tcp}
use Rattle.flow_filter.specs.Limits.{fewest_members}

-- an item that may stand in an input
abbrev pub is_item : Msg → Bool
is_item (InPacket packet) = true
is_item (InCommand command) = true
is_item InSettle = true
is_item InEnd = true
is_item message = false

-- the packets of an input, in order
abbrev pub packet_in : Msg → Option Packet
packet_in (InPacket packet) = Some packet
packet_in item = None

abbrev pub packets : List Msg → List Packet
packets items = filter_map packet_in items

-- its commands, in order
abbrev pub command_in : Msg → Option Command
command_in (InCommand command) = Some command
command_in item = None

abbrev pub commands : List Msg → List Command
commands items = filter_map command_in items

-- whether no command stands after the end
abbrev pub ends_last : List Msg → Bool
ends_last [] = true
ends_last (InEnd ∷ items) = length (commands items) == 0
ends_last (item ∷ items) = ends_last items

-- a packet of TCP and else of zeros, for numbers that no packet has
abbrev pub no_packet : Packet
no_packet = record { nanos = 0; number = 0; src = 0; dst = 0; length = 0; sport = 0; dport = 0; proto = tcp; flags = 0; held = 0; head = [] }

-- the packet with a number, and the order under one
abbrev pub packet_numbered : List Msg → ℕ → Packet
packet_numbered items number = unwrap_or (find (λ p. p.number == number) (packets items)) no_packet

abbrev pub order_numbered : List Msg → ℕ → Option Order
order_numbered items op = option_map (λ c. c.what) (find (λ c. c.op == op) (commands items))

-- the numbers rise from here on
abbrev pub IsRising : ℕ → List ℕ → Type 0
IsRising least [] = Unit {0}
IsRising least (n ∷ ns) = (least ≤ n) × IsRising (suc n) ns

-- a packet of TCP or UDP, each of whose numbers is within its type, and so are those of its flow
pub record IsSteered (site : Site) (packet : Packet) : Type 0 where
  pub fits : Fits site packet
  pub flow : IsFlow (flow_of site packet).0

-- a filter that takes whole units
pub record IsWhole (kind : Kind) (filter : Filter) : Type 0 where
  pub numbers : IsFilter filter
  pub whole : splits kind (fields_of filter) ≡ false

-- the members of a share: two names or more, none of them twice
pub record AreMembers (names : List (List ℕ)) : Type 0 where
  pub some : fewest_members ≤ length names
  pub once : has_twice names ≡ false

-- an order to move units, to copy their records or, without a filter, the all-flows state, or to share them, with different names
abbrev pub IsProper : Kind → Order → Type 0
IsProper kind (Move source destination filter keep) = (bytes_eq source destination ≡ false) × IsWhole kind filter
IsProper kind (Copy source destination filter) = (bytes_eq source destination ≡ false) × ForSome filter (IsWhole kind)
IsProper kind (Share members filter) = AreMembers members × IsWhole kind filter

-- the greatest number of packets that a record counts
abbrev pub most_counted : ℕ
most_counted = 2 ^ 64 - 1

-- what a run is given
pub record IsInput (kind : Kind) (config : Config) (items : List Msg) : Type 0 where
  pub is_config : IsConfig config
  pub site : config.site.inside.bits < 2 ^ 32
  pub routes : All (λ route. IsWhole kind route.0) config.routes
  pub only_items : All (λ item. is_item item ≡ true) items
  pub steered : All (IsSteered config.site) (packets items)
  pub numbers : IsRising 0 (map (λ p. p.number) (packets items))
  pub few : length (packets items) ≤ most_counted
  pub orders : All (λ command. IsProper kind command.what) (commands items)
  pub ops : IsRising 0 (map (λ c. c.op) (commands items))
