-- The records of an instance of a world, live and standby. This project's own.
use Rattle.std.specs.Prelude.{ℕ, Bool, true, false, Option, Some, slice_get}
use Rattle.record_table.specs.Table.{TableView, empty}
use Rattle.nf_msgs.specs.declared.msg.Msg.{Msg}
use Rattle.nf_msgs.specs.declared.note.Note.{Note}
use Rattle.nf_msgs.specs.Nodes.{instance_node}
use Rattle.actor_net.specs.Network.{Network}
use Rattle.net_world.specs.declared.node.Node.{Node}
use Rattle.net_world.specs.declared.node.Node.TheVariants.{Instance}

module _ {F R : Type 0} where
  -- whether a node is an instance
  abbrev pub is_instance : Option (Node F R) → Bool
  is_instance (Some (Instance i)) = true
  is_instance other = false

  -- the records of an instance
  abbrev pub table_in : Option (Node F R) → TableView R
  table_in (Some (Instance i)) = i.table
  table_in other = empty

  abbrev pub table_at : Network (Node F R) Msg Note → ℕ → TableView R
  table_at w i = table_in (slice_get w.nodes (instance_node i))
