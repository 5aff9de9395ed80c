-- What a copy of units that is done has brought: what its source had of them when it gave its state, or what is newer, stands by at its
-- destination. Instances go by their numbers. This project's own.
use Rattle.std.specs.Prelude.{◌≡◌, ℕ, ◌≤◌, true, List, ◌∷◌, ◌++◌, length, None, Some}
use Rattle.flow_filter.specs.declared.filter.Filter.{Filter}
use Rattle.flow_filter.specs.Name.{place_of}
use Rattle.nf_function.specs.declared.unit.Unit as units
use Rattle.nf_function.specs.Units.{takes}
use Rattle.nf_msgs.specs.declared.command.Command.{Command}
use Rattle.nf_msgs.specs.declared.command.Order.TheVariants.{Copy}
use Rattle.nf_msgs.specs.declared.msg.Msg.{Msg}
use Rattle.nf_msgs.specs.declared.msg.Msg.TheVariants.{InCommand}
use Rattle.nf_msgs.specs.declared.note.Note.{Note}
use Rattle.actor_net.specs.declared.choice.Choice.{Choice}
use Rattle.actor_net.specs.Network.{Network, run}
use Rattle.net_world.specs.declared.config.Config.{Config}
use Rattle.net_world.specs.declared.node.Node.{Node}
use Rattle.net_world.specs.Commands.{is_begun}
use Rattle.net_world.specs.Fold.{IsFront, fold, processed_of}
use Rattle.net_world.specs.Input.{order_numbered, packets}
use Rattle.net_world.specs.Jobs.{Course, Job, last_world}
use Rattle.net_world.specs.Log.{arrivals_in}
use Rattle.net_world.specs.Nodes.{node_step}
use Rattle.net_world.specs.Places.{owner}
use Rattle.net_world.specs.Records.{live_at}
use Rattle.net_world.specs.Standby.{StandsBy}
use Rattle.net_world.specs.Verdicts.{before_export}

-- a copy of the units that a filter takes, from one instance to another, under the number of its command
pub record UnitCopy : Type 0 where
  pub op : ℕ
  pub source : ℕ
  pub destination : ℕ
  pub filter : Filter

-- it is the order under its number
pub record IsOrdered (config : Config) (items : List Msg) (copy : UnitCopy) : Type 0 where
  pub source : List ℕ
  pub destination : List ℕ
  pub order_is : order_numbered items copy.op ≡ Some (Copy source destination (Some copy.filter))
  pub source_is : place_of config.names source ≡ Some copy.source
  pub destination_is : place_of config.names destination ≡ Some copy.destination

module _ {F R : Type 0} (job : Job R) (w : Network (Node F R) Msg Note) where
  -- a world in which the source of a copy is to give what it has
  pub record IsToGive (copy : UnitCopy) : Type 0 where
    -- the copy has begun, so the packets before its command have come
    pub has_begun : is_begun copy.op w.log ≡ true
    pub came : (front behind : List Msg) (command : Command) → job.items ≡ front ++ InCommand command ∷ behind → command.op ≡ copy.op
        → length (packets front) ≤ length (arrivals_in w.log)
    -- what the source has of a unit has seen all of its packets that were processed; and of a unit that it owns it has that
    pub had : (unit : units.Unit) (kept : R) → takes copy.filter unit ≡ true → live_at w copy.source unit ≡ Some kept
        → fold job.function job.config job.items None (processed_of job.function job.config job.items unit w.log) ≡ Some kept
    pub owned : (unit : units.Unit) (kept : R) → takes copy.filter unit ≡ true → owner job.config job.items unit w.log ≡ copy.source
        → fold job.function job.config job.items None (processed_of job.function job.config job.items unit w.log) ≡ Some kept
        → live_at w copy.source unit ≡ Some kept

module _ {F R : Type 0} (job : Job R) (course : Course F R) where
  -- the world at the end of the run, and after some of its choices
  abbrev at_end : Network (Node F R) Msg Note
  at_end = last_world job.function course

  abbrev after : List Choice → Network (Node F R) Msg Note
  after choices = run (node_step job.function) choices course.start

  -- after some choices the source gave what it had. At the end that stands by at the destination, or the record of a front that goes on from there
  pub record IsCopied (copy : UnitCopy) : Type 0 where
    pub before : List Choice
    pub later : List Choice
    pub whole : before ++ later ≡ course.choices
    pub to_give : IsToGive job (after before) copy
    pub gave : before_export copy.op at_end.log ≡ (after before).log
    pub stands : (unit : units.Unit) (kept : R) → takes copy.filter unit ≡ true → live_at (after before) copy.source unit ≡ Some kept
        → (now : StandsBy job at_end copy.destination unit) × IsFront (processed_of job.function job.config job.items unit (after before).log) now.front
