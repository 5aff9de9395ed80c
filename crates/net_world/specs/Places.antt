-- Where the packets of a unit may be processed: at the instance that owns it by the rules of the switch; as long as a move of the unit from
-- there is under way, at the move's destination; and at members of a share that has the unit. And which units a plain move handed on. Instances go by
-- their numbers. This project's own.
use Rattle.std.specs.Prelude.{◌≡◌, ℕ, ◌==◌, Bool, true, false, not, ◌&&◌, if◌then◌else◌, Option, None, Some, unwrap_or, List, [], ◌∷◌, ◌++◌, find}
use Rattle.std.specs.Prelude.{scan, length, slice_index_or}
use Rattle.std.specs.List.{fold, list_any}
use Rattle.std.specs.Option.{option_map_or, option_or}
use Rattle.flow_filter.specs.declared.filter.Filter.{Filter}
use Rattle.flow_filter.specs.declared.packet.Packet.{Packet}
use Rattle.flow_filter.specs.Flow.{flow_of, place_among}
use Rattle.nf_function.specs.declared.kind.Kind.{Kind}
use Rattle.nf_function.specs.declared.output.Output.{Output}
use Rattle.nf_function.specs.declared.unit.Unit as units
use Rattle.nf_function.specs.Semantics.{unit_at}
use Rattle.nf_function.specs.Units.{takes}
use Rattle.nf_msgs.specs.declared.command.Order.{Order}
use Rattle.nf_msgs.specs.declared.command.Order.TheVariants.{Move, Share}
use Rattle.nf_msgs.specs.declared.msg.Msg.{Msg}
use Rattle.nf_msgs.specs.declared.note.Note.{Note}
use Rattle.nf_msgs.specs.declared.note.Note.TheVariants.{Arrived, Processed}
use Rattle.flow_filter.specs.Name.{place_of}
use Rattle.net_world.specs.declared.config.Config.{Config}
use Rattle.net_world.specs.Input.{packet_numbered, order_numbered}
use Rattle.net_world.specs.Jobs.{Job}
use Rattle.net_world.specs.Commands.{is_busy}
use Rattle.net_world.specs.Log.{installs_in}

-- the instance of the first route whose filter takes the unit, or the first
abbrev pub first_owner : units.Unit → List (Filter × ℕ) → ℕ
first_owner unit routes = option_map_or (λ route. route.1) (find (λ route. takes route.0 unit) routes) 0

-- whether a name is that of this instance
abbrev pub is_at : Option ℕ → ℕ → Bool
is_at None i = false
is_at (Some j) i = i == j

-- The instances' names are given, and the order under each number.
module _ (names : List (List ℕ)) (orders : ℕ → Option Order) where
  -- who owns a unit after an order that the switch has installed, if this instance did before: a move of it hands it on from its
  -- source alone
  abbrev pub owner_after_order : units.Unit → Option Order → ℕ → ℕ
  owner_after_order unit (Some (Move source destination filter keep)) i =
      if takes filter unit && is_at (place_of names source) i then unwrap_or (place_of names destination) i else i
  owner_after_order unit order i = i

  -- who owns it after these commands were installed, in order
  abbrev pub owner_after : units.Unit → ℕ → List ℕ → ℕ
  owner_after unit i ops = fold (λ owner op. owner_after_order unit (orders op) owner) i ops

  -- whether an order is a plain move that hands the unit on from this instance: one that doesn't keep the order of its packets
  abbrev pub hands_on_plain : units.Unit → Option Order → ℕ → Bool
  hands_on_plain unit (Some (Move source destination filter keep)) i = not keep && (takes filter unit && is_at (place_of names source) i)
  hands_on_plain unit order i = false

  -- whether one of these commands is such a move, each from the owner before it
  abbrev pub loose_after : units.Unit → ℕ → List ℕ → Bool
  loose_after unit i ops =
      list_any (λ plain. plain) (scan (λ owner op. owner_after_order unit (orders op) owner) (λ owner op. hands_on_plain unit (orders op) owner) i ops)

  -- whether this instance is the home of a share among these members: the first of them
  abbrev pub is_home : List (List ℕ) → ℕ → Bool
  is_home [] i = false
  is_home (name ∷ others) i = is_at (place_of names name) i

  -- the members among whom an order shares a unit that this instance owns: it does if the instance is its home
  abbrev pub shared_among : units.Unit → Option Order → ℕ → Option (List (List ℕ))
  shared_among unit (Some (Share members filter)) i = if takes filter unit && is_home members i then Some members else None
  shared_among unit order i = None

  -- the members of the share that has the unit after these commands were installed, in order: the first that shares it from its owner
  abbrev pub members_after : units.Unit → ℕ → List ℕ → Option (List (List ℕ))
  members_after unit i [] = None
  members_after unit i (op ∷ ops) = option_or (shared_among unit (orders op) i) (members_after unit (owner_after_order unit (orders op) i) ops)

-- a move of the unit, between these names, is under way
pub record IsMoving (items : List Msg) (unit : units.Unit) (log : List Note) : Type 0 where
  pub op : ℕ
  pub source : List ℕ
  pub destination : List ℕ
  pub filter : Filter
  pub keep : Bool
  pub order : order_numbered items op ≡ Some (Move source destination filter keep)
  pub takes_it : takes filter unit ≡ true
  pub busy : is_busy op log ≡ true

module _ (config : Config) (items : List Msg) where
  abbrev pub owner : units.Unit → List Note → ℕ
  owner unit log = owner_after config.names (order_numbered items) unit (first_owner unit config.routes) (installs_in log)

  -- a plain move that the switch has installed handed the unit on
  abbrev pub is_loose : units.Unit → List Note → Bool
  is_loose unit log = loose_after config.names (order_numbered items) unit (first_owner unit config.routes) (installs_in log)

  -- the members of the share that has the unit by the rules of the switch
  abbrev pub members : units.Unit → List Note → Option (List (List ℕ))
  members unit log = members_after config.names (order_numbered items) unit (first_owner unit config.routes) (installs_in log)

  -- the member among some at which a packet is processed: by its flow
  abbrev pub member_for : List (List ℕ) → Packet → Option ℕ
  member_for names packet =
      place_of config.names (slice_index_or names (place_among (flow_of config.site packet).0 (length names)) [])

  -- a move of the unit is under way, and it is to take the unit from its owner: one whose owner is another instance, or the destination already,
  -- isn't touched
  pub record IsMovingOn (unit : units.Unit) (log : List Note) : Type 0 where
    pub moving : IsMoving items unit log
    pub covers : is_at (place_of config.names moving.source) (owner unit log) ≡ true

module _ (config : Config) (items : List Msg) (kind : Kind) where
  -- the unit of the packet with a number
  abbrev pub unit_numbered : ℕ → units.Unit
  unit_numbered number = unit_at kind config.site (packet_numbered items number)

  -- where a packet goes by the rules of the switch: to its member of the share that has its unit, and else to the owner
  abbrev pub goes_to : ℕ → List Note → Option ℕ
  goes_to number log =
      option_map_or (λ names. member_for config items names (packet_numbered items number)) (members config items (unit_numbered number) log)
      (Some (owner config items (unit_numbered number) log))

  -- each packet that came when a share had its unit was processed at its member
  abbrev pub AreAtMembers : List Note → Type 0
  AreAtMembers log = (before between after : List Note) (number instance : ℕ) (output : Output) (names : List (List ℕ))
      → log ≡ before ++ Arrived number ∷ (between ++ Processed number instance output ∷ after)
      → members config items (unit_numbered number) before ≡ Some names → member_for config items names (packet_numbered items number) ≡ Some instance

module _ {R : Type 0} (job : Job R) where
  -- the unit of a packet of the job
  abbrev pub unit_in : ℕ → units.Unit
  unit_in number = unit_numbered job.config job.items job.function.kind number

  -- a packet may be processed at the instance
  pub data IsPlace (number : ℕ) (log : List Note) (i : ℕ) : Type 0 where
    Owns : i ≡ owner job.config job.items (unit_in number) log → IsPlace number log i
    Is_destination : (on : IsMovingOn job.config job.items (unit_in number) log) → place_of job.config.names on.moving.destination ≡ Some i
        → IsPlace number log i
    Is_member : goes_to job.config job.items job.function.kind number log ≡ Some i → IsPlace number log i

  -- each packet was processed at such an instance, by what was noted before
  abbrev pub ArePlaces : List Note → Type 0
  ArePlaces log = (before after : List Note) (number instance : ℕ) (output : Output) → log ≡ before ++ Processed number instance output ∷ after
      → IsPlace number before instance
