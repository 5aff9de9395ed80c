-- The packets under way in a world, place by place: what stands on links, what the controller stores for moves, what instances hold, and
-- what waits for shares. Read in this order, those of a unit are its packets that came and aren't processed, as they came. Packets go by
-- their numbers. This project's own.
use Rattle.std.specs.Prelude.{ℕ, zero, suc, ◌==◌, if◌then◌else◌, List, [], ◌∷◌, ◌++◌, map, Option, Some, slice_get}
use Rattle.std.specs.List.{flat_map}
use Rattle.std.specs.FinMap as finite
use Rattle.event_filter.specs.declared.mark.Mark.TheVariants.{Plain}
use Rattle.packet_pool.specs.Pool.{FullCell}
use Rattle.nf_msgs.specs.declared.msg.Msg.{Msg}
use Rattle.nf_msgs.specs.declared.msg.Msg.TheVariants.{Carry, Forward, Event, Diverted}
use Rattle.nf_msgs.specs.declared.note.Note.{Note}
use Rattle.nf_msgs.specs.Nodes.{switch_node, instance_node}
use Rattle.ctrl_node.specs.Operations.{lasts}
use Rattle.actor_net.specs.Network.{Network, on_link}
use Rattle.net_world.specs.declared.node.Node.{Node}
use Rattle.net_world.specs.declared.node.Node.TheVariants.{Controller, Instance}

-- what each of the first numbers has, but for one of them
abbrev pub all_but : ℕ → (ℕ → List ℕ) → ℕ → List ℕ
all_but one of zero = []
all_but one of (suc i) = all_but one of i ++ (if i == one then [] else of i)

-- the packets in cells
abbrev pub numbers : List FullCell → List ℕ
numbers cells = map (λ cell. cell.packet.number) cells

-- the packet of a message to an instance: one that comes by the rules of the switch, or one that the controller handed on
abbrev pub carried_in : Msg → List ℕ
carried_in (Carry Plain cell) = cell.packet.number ∷ []
carried_in message = []

abbrev pub passed_in : Msg → List ℕ
passed_in (Carry Plain cell) = []
passed_in (Carry mark cell) = cell.packet.number ∷ []
passed_in message = []

-- the packet that the controller hands on by the switch, and the packet of an event
abbrev pub forwarded_in : Msg → List ℕ
forwarded_in (Forward to mark cell) = cell.packet.number ∷ []
forwarded_in message = []

abbrev pub handed_over_in : Msg → List ℕ
handed_over_in (Event op cell) = cell.packet.number ∷ []
handed_over_in message = []

-- the packet that the switch sends to the controller, for a share
abbrev pub diverted_in : Msg → List ℕ
diverted_in (Diverted cell) = cell.packet.number ∷ []
diverted_in message = []

module _ {F R : Type 0} where
  -- the packets that a controller stores, operation by operation: for moves, and for shares
  abbrev pub stored_by : Node F R → List ℕ
  stored_by (Controller c) = flat_map (λ e. if lasts (finite.get c.operations e.0) then [] else numbers e.1) (finite.entries c.store)
  stored_by node = []

  abbrev pub queued_by : Node F R → List ℕ
  queued_by (Controller c) = flat_map (λ e. if lasts (finite.get c.operations e.0) then numbers e.1 else []) (finite.entries c.store)
  queued_by node = []

  -- the packets that an instance holds, rule by rule
  abbrev pub held_by : Option (Node F R) → List ℕ
  held_by (Some (Instance i)) = flat_map (λ rule. numbers rule.held) i.rules
  held_by other = []

module _ {F R : Type 0} (w : Network (Node F R) Msg Note) where
  -- what all messages have of one kind, link by link
  abbrev pub on_links : {Y : Type 0} → (Msg → List Y) → List Y
  on_links of = flat_map (flat_map of) w.links

  -- what an instance holds, and after it what comes to it by the rules of the switch
  abbrev pub at_instance : ℕ → List ℕ
  at_instance i = held_by (slice_get w.nodes (instance_node i)) ++ flat_map carried_in (on_link w switch_node (instance_node i))

  -- all packets under way, of so many instances; those at one of them, the owner, come after those at others, and what waits for shares last
  abbrev pub in_flight : (instances owner : ℕ) → List ℕ
  in_flight instances owner =
      on_links passed_in ++ (on_links forwarded_in ++ (flat_map stored_by w.nodes
      ++ (on_links handed_over_in ++ (all_but owner at_instance instances ++ (at_instance owner ++ (flat_map queued_by w.nodes ++ on_links diverted_in))))))
