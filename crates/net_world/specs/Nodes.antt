-- The nodes of the network: what each does with a message, and when it has nothing left to do. This project's own.
use Rattle.std.specs.Prelude.{ℕ, Bool, true}
use Rattle.nf_function.specs.Semantics.{Semantics}
use Rattle.nf_msgs.specs.declared.msg.Msg.{Msg}
use Rattle.nf_msgs.specs.declared.note.Note.{Note}
use Rattle.actor_net.specs.Network.{Stepped}
use Rattle.switch_node.specs.Switch.{switch_step, takes_in, has_closed}
use Rattle.ctrl_node.specs.Controller.{controller_step, all_stopped}
use Rattle.instance_worker.specs.Instance.{instance_step}
use Rattle.net_world.specs.declared.node.Node.{Node}
use Rattle.net_world.specs.declared.node.Node.TheVariants.{Switch, Controller, Instance}

-- the step of a part of the network, as that of a node
abbrev pub as_node : {A B M N : Type 0} → (A → B) → Stepped A M N → Stepped B M N
as_node make did = record { node = make did.node; sends = did.sends; notes = did.notes }

module _ {F R : Type 0} where
  -- what a node does: its row of the tables
  abbrev pub node_step : Semantics R → Node F R → ℕ → Msg → Stepped (Node F R) Msg Note
  node_step f (Switch s) port message = as_node Switch (switch_step s message)
  node_step f (Controller c) port message = as_node Controller (controller_step c port message)
  node_step f (Instance i) port message = as_node Instance (instance_step f i message)

  -- the switch takes an item of the input where it has room, or where no command waits
  abbrev pub node_ready : Node F R → Msg → Bool
  node_ready (Switch s) message = takes_in s message
  node_ready node message = true

  abbrev pub node_ended : Node F R → Bool
  node_ended (Switch s) = has_closed s
  node_ended (Controller c) = all_stopped c
  node_ended (Instance i) = i.ended
