-- A message that the table of the controller doesn't name is handed to the operation of its number.
use Rattle.std.proofs.Common.{◌≡◌, ℕ, refl}
use Rattle.packet_pool.specs.Pool.{FullCell}
use Rattle.nf_msgs.specs.declared.command.Command.{Command}
use Rattle.nf_msgs.specs.declared.msg.Msg.{Msg}
use Rattle.nf_msgs.specs.declared.msg.Msg.TheVariants.{Asked, Diverted, End, Event, Final}
use Rattle.nf_msgs.specs.MessageParts.{op_of}
use Rattle.ctrl_node.specs.Controller.{ControllerState, row, numbered}

pub other_row : (s : ControllerState) (port : ℕ) (message : Msg)
    → ((command : Command) → message ≡ Asked command → ⊥) → ((cell : FullCell) → message ≡ Diverted cell → ⊥) → (message ≡ End → ⊥)
    → ((op : ℕ) (parcel : FullCell) → message ≡ Event op parcel → ⊥) → (message ≡ Final → ⊥)
    → row s port message ≡ numbered s port message (op_of message)
other_row s port (Asked command) a b c d e = absurd (a command refl)
other_row s port (Diverted cell) a b c d e = absurd (b cell refl)
other_row s port End a b c d e = absurd (c refl)
other_row s port (Event op parcel) a b c d e = absurd (d op parcel refl)
other_row s port Final a b c d e = absurd (e refl)
other_row s port message a b c d e = refl
