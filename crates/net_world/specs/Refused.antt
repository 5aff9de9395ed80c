-- What a refused move leaves where it is: from its begin to its answer, the packets of the units that it was to move are processed at
-- its source. This project's own.
use Rattle.std.specs.Prelude.{◌≡◌, ◌≢◌, ℕ, Bool, true, false, ◌&&◌, Option, Some, List, ◌∷◌, ◌++◌}
use Rattle.nf_function.specs.declared.kind.Kind.{Kind}
use Rattle.nf_function.specs.declared.output.Output.{Output}
use Rattle.nf_function.specs.declared.unit.Unit as units
use Rattle.nf_function.specs.Units.{takes}
use Rattle.nf_msgs.specs.declared.answer.Answer.{Answer}
use Rattle.nf_msgs.specs.declared.answer.Answer.TheVariants.{Done}
use Rattle.nf_msgs.specs.declared.command.Order.{Order}
use Rattle.nf_msgs.specs.declared.command.Order.TheVariants.{Move}
use Rattle.nf_msgs.specs.declared.msg.Msg.{Msg}
use Rattle.nf_msgs.specs.declared.note.Note.{Note}
use Rattle.nf_msgs.specs.declared.note.Note.TheVariants.{Processed, Begun, Answered}
use Rattle.flow_filter.specs.Name.{place_of}
use Rattle.net_world.specs.declared.config.Config.{Config}
use Rattle.net_world.specs.Input.{order_numbered}
use Rattle.net_world.specs.Places.{is_at, owner, unit_numbered}

-- what a log says of a command that began and was answered otherwise than that it is done: the notes before its begin, and those from there
-- to its answer
pub record IsRefused (op : ℕ) (log first between : List Note) : Type 0 where
  pub answer : Answer
  pub refused : answer ≢ Done
  pub after : List Note
  pub whole : log ≡ first ++ Begun op ∷ (between ++ Answered op answer ∷ after)

-- whether an order is to move a unit away from this instance
abbrev pub moves_away : Config → Option Order → units.Unit → ℕ → Bool
moves_away config (Some (Move source destination filter keep)) unit i = takes filter unit && is_at (place_of config.names source) i
moves_away config order unit i = false

module _ (config : Config) (items : List Msg) (kind : Kind) where
  -- each packet of a unit that a refused move was to take away from its owner was processed at that owner
  abbrev pub StaysAtSource : List Note → Type 0
  StaysAtSource log = (op : ℕ) (first between before after : List Note) (number instance : ℕ) (output : Output) → IsRefused op log first between
      → between ≡ before ++ Processed number instance output ∷ after
      → moves_away config (order_numbered items op) (unit_numbered config items kind number) (owner config items (unit_numbered config items kind number) first)
      ≡ true
      → instance ≡ owner config items (unit_numbered config items kind number) first
