-- Which units are live at an instance after some choices of a run, by what happened: it gains a unit where it processes a packet of the unit as
-- live, where it imports a record of the unit, and where it keeps one as the first member of a share; it loses those that it is told to remove.
-- This project's own.
use Rattle.std.specs.Prelude.{ℕ, ◌==◌, Bool, false, not, if◌then◌else◌, List, [], ◌∷◌, drop, filter, length, Option, Some}
use Rattle.std.specs.List.{before_first, flat_map, fold}
use Rattle.std.specs.Option.{option_map_or}
use Rattle.nf_function.specs.declared.kind.Kind.{Kind}
use Rattle.nf_function.specs.declared.unit.Unit as units
use Rattle.nf_function.specs.Semantics.{Semantics}
use Rattle.record_table.specs.Table.{is_among}
use Rattle.nf_msgs.specs.declared.command.Order.{Order}
use Rattle.nf_msgs.specs.declared.command.Order.TheVariants.{Share}
use Rattle.nf_msgs.specs.declared.msg.Msg.{Msg}
use Rattle.nf_msgs.specs.declared.note.Note.{Note}
use Rattle.nf_msgs.specs.declared.note.Note.TheVariants.{Processed, Imported, Kept}
use Rattle.nf_msgs.specs.Nodes.{instance_node}
use Rattle.actor_net.specs.declared.choice.Choice.{Choice}
use Rattle.actor_net.specs.Network.{Network, world_next, queue_at}
use Rattle.net_world.specs.declared.config.Config.{Config}
use Rattle.net_world.specs.declared.node.Node.{Node}
use Rattle.net_world.specs.Input.{order_numbered}
use Rattle.net_world.specs.Log.{begin_in, has_begun}
use Rattle.net_world.specs.Nodes.{node_step}
use Rattle.net_world.specs.Places.{is_home, owner, shared_among, unit_numbered}
use Rattle.net_world.specs.Records.{removed_by}

-- units and more of them, each once
abbrev pub with_units : List units.Unit → List units.Unit → List units.Unit
with_units us more = fold (λ so_far unit. if is_among so_far unit then so_far else unit ∷ so_far) us more

-- units but for these
abbrev pub without_units : List units.Unit → List units.Unit → List units.Unit
without_units gone us = filter (λ unit. not (is_among gone unit)) us

-- those that an instance loses where it takes the first of these messages: a Delete's
abbrev pub lost_by : List Msg → List units.Unit
lost_by [] = []
lost_by (message ∷ rest) = removed_by message

-- the log before a command began
abbrev pub before_begun : ℕ → List Note → List Note
before_begun op log = before_first (λ n. option_map_or (λ k. k == op) (begin_in n) false) log

module _ (config : Config) (items : List Msg) where
  -- whether an order is a share of which the instance is the first member
  abbrev pub is_first_of : Option Order → ℕ → Bool
  is_first_of (Some (Share members filter)) i = is_home config.names (order_numbered items) members i
  is_first_of order i = false

  -- whether a share that began covers the unit, which its first member owned then, and the instance isn't that member: packets of the unit step
  -- a record there that stands by
  abbrev pub is_shared_away : units.Unit → ℕ → List Note → Bool
  is_shared_away unit i log =
      has_begun (λ op. option_map_or
      (λ members. not (is_home config.names (order_numbered items) members i))
      (shared_among config.names (order_numbered items) unit (order_numbered items op) (owner config items unit (before_begun op log)))
      false) log

  -- the units that an instance gains where it notes something, by the log before
  abbrev pub gained_by : Kind → ℕ → List Note → Note → List units.Unit
  gained_by kind i log (Processed number k output) =
      if is_shared_away (unit_numbered config items kind number) i log then [] else unit_numbered config items kind number ∷ []
  gained_by kind i log (Imported k op us) = us
  gained_by kind i log (Kept k op us) = if is_first_of (order_numbered items op) i then us else []
  gained_by kind i log note = []

module _ {F R : Type 0} (f : Semantics R) (config : Config) (items : List Msg) where
  -- the units live at an instance after one choice more: only one of its own changes them
  abbrev pub lives_next : ℕ → Network (Node F R) Msg Note → Choice → List units.Unit → List units.Unit
  lives_next i w c us =
      if c.node == instance_node i
      then with_units (without_units (lost_by (queue_at w c)) us)
      (flat_map (gained_by config items f.kind i w.log) (drop (length w.log) (world_next (node_step f) w c).log))
      else us

  abbrev pub lives_from : ℕ → Network (Node F R) Msg Note → List Choice → List units.Unit → List units.Unit
  lives_from i w [] us = us
  lives_from i w (c ∷ cs) us = lives_from i (world_next (node_step f) w c) cs (lives_next i w c us)

  -- those after some choices, from a world in which no unit is live
  abbrev pub lives : Network (Node F R) Msg Note → ℕ → List Choice → List units.Unit
  lives start i choices = lives_from i start choices []
