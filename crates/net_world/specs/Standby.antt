-- What stands by: each record is that of one instance that nothing moved, after a front of what was processed of its unit, and as a run goes
-- on that front never gets shorter. This project's own.
use Rattle.std.specs.Prelude.{◌≡◌, ℕ, List, Option, None, Some, slice_get}
use Rattle.std.specs.FinMap as finite
use Rattle.nf_function.specs.declared.unit.Unit as units
use Rattle.nf_msgs.specs.declared.msg.Msg.{Msg}
use Rattle.nf_msgs.specs.declared.note.Note.{Note}
use Rattle.nf_msgs.specs.Nodes.{instance_node}
use Rattle.actor_net.specs.Network.{Network}
use Rattle.net_world.specs.declared.node.Node.{Node}
use Rattle.net_world.specs.declared.node.Node.TheVariants.{Instance}
use Rattle.net_world.specs.Fold.{IsFront, fold, processed_of}
use Rattle.net_world.specs.Jobs.{Job}

-- the record of a unit that stands by at an instance of a world
abbrev pub standby_in : {F R : Type 0} → units.Unit → Option (Node F R) → Option R
standby_in unit (Some (Instance i)) = finite.get i.table.standby unit
standby_in unit other = None

abbrev pub standby_at : {F R : Type 0} → Network (Node F R) Msg Note → ℕ → units.Unit → Option R
standby_at w i unit = standby_in unit (slice_get w.nodes (instance_node i))

-- a record of the unit stands by at the instance of a world: what is kept after some packets, which are a front of what was processed of the unit
pub record StandsBy {F R : Type 0} (job : Job R) (w : Network (Node F R) Msg Note) (i : ℕ) (unit : units.Unit) : Type 0 where
  pub front : List ℕ
  pub kept : R
  pub there : standby_at w i unit ≡ Some kept
  pub is_front : IsFront front (processed_of job.function job.config job.items unit w.log)
  pub folds : fold job.function job.config job.items None front ≡ Some kept
