-- How much the live record of a unit has seen of the unit's packets that were processed: all of them, or all but the last, as long as the
-- home of a share is still to take the record of the member that processed it. Packets go by their numbers. This project's own.
use Rattle.std.specs.Prelude.{◌≡◌, ◌≢◌, ℕ, true, List, [], ◌∷◌, ◌++◌, None, Some}
use Rattle.nf_function.specs.declared.unit.Unit as units
use Rattle.nf_msgs.specs.declared.msg.Msg.{Msg}
use Rattle.nf_msgs.specs.declared.note.Note.{Note}
use Rattle.actor_net.specs.Network.{Network}
use Rattle.net_world.specs.declared.node.Node.{Node}
use Rattle.net_world.specs.Fold.{fold, processed_of}
use Rattle.net_world.specs.Jobs.{Job}
use Rattle.net_world.specs.Places.{owner, goes_to}
use Rattle.net_world.specs.Records.{HasOneRecord, is_to_take}
use Rattle.net_world.specs.Standby.{standby_at}

module _ {F R : Type 0} (job : Job R) (w : Network (Node F R) Msg Note) where
  -- the packets of the unit that were processed
  abbrev processed : units.Unit → List ℕ
  processed unit = processed_of job.function job.config job.items unit w.log

  -- a member of a share other than its home has processed the last packet of the unit after these; the record after it stands by there,
  -- and is on its way to the home
  pub record IsAhead (unit : units.Unit) (seen : List ℕ) : Type 0 where
    pub last : ℕ
    pub went_is : processed unit ≡ seen ++ last ∷ []
    pub member : ℕ
    pub member_is : goes_to job.config job.items job.function.kind last w.log ≡ Some member
    pub other : member ≢ owner job.config job.items unit w.log
    pub stands_by : standby_at w member unit ≡ fold job.function job.config job.items None (processed unit)
    pub on_its_way : is_to_take w unit (owner job.config job.items unit w.log) member ≡ true

  -- the live record of the unit has seen these packets
  pub data HasSeen (unit : units.Unit) (seen : List ℕ) : Type 0 where
    Sees_all : seen ≡ processed unit → HasSeen unit seen
    Lacks_last : IsAhead unit seen → HasSeen unit seen

  -- where the record of the unit is, and what it has seen
  pub record HasRecord (unit : units.Unit) : Type 0 where
    pub seen : List ℕ
    pub has_seen : HasSeen unit seen
    pub one : HasOneRecord job.function w unit (fold job.function job.config job.items None seen)
