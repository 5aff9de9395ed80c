-- What a settle promises: where a packet after it is processed and none of the commands after it has begun yet, all others are
-- answered, so the packet is where the rules of the switch send it. This project's own.
use Rattle.std.specs.Prelude.{◌≡◌, ℕ, ◌==◌, Bool, true, false, List, ◌∷◌, ◌++◌, find, is_some, Some, All}
use Rattle.nf_function.specs.declared.kind.Kind.{Kind}
use Rattle.nf_function.specs.declared.output.Output.{Output}
use Rattle.nf_msgs.specs.declared.msg.Msg.{Msg}
use Rattle.nf_msgs.specs.declared.msg.Msg.TheVariants.{InSettle}
use Rattle.nf_msgs.specs.declared.note.Note.{Note}
use Rattle.nf_msgs.specs.declared.note.Note.TheVariants.{Processed}
use Rattle.net_world.specs.declared.config.Config.{Config}
use Rattle.net_world.specs.Input.{packets, commands}
use Rattle.net_world.specs.Commands.{is_begun}
use Rattle.net_world.specs.Places.{goes_to}

-- what stands after a settle of an input
pub record IsAfterSettle (items later : List Msg) : Type 0 where
  pub front : List Msg
  pub whole : items ≡ front ++ InSettle ∷ later

-- whether a packet among these items has the number
abbrev pub has_packet : ℕ → List Msg → Bool
has_packet number items = is_some (find (λ p. p.number == number) (packets items))

-- none of the commands among these items has begun
abbrev pub NoneBegan : List Msg → List Note → Type 0
NoneBegan items log = All (λ command. is_begun command.op log ≡ false) (commands items)

-- a packet after a settle that is processed before any command after it begins is processed where the rules of the switch send it: at its
-- member of the share that has its unit, and else at the owner
abbrev pub Settles : Config → List Msg → Kind → List Note → Type 0
Settles config items kind log = (later : List Msg) (before after : List Note) (number instance : ℕ) (output : Output) → IsAfterSettle items later
    → has_packet number later ≡ true → log ≡ before ++ Processed number instance output ∷ after → NoneBegan later before
    → goes_to config items kind number before ≡ Some instance
