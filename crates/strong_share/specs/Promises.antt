-- What every run of strong sharing keeps, complete or not. That the start and each step are as the tables say stands on `start`, `StrongNode` and
-- `run_strong`. This project's own.
use Rattle.std.specs.Prelude.{◌≡◌, ◌≤◌, ◌<◌, ℕ, true, false, ◌==◌, if◌then◌else◌, List, length, filter, Some, None}
use Rattle.nf_function.specs.declared.unit.Unit as units
use Rattle.nf_function.specs.Units.{takes}
use Rattle.nf_function.specs.Semantics.{Semantics}
use Rattle.nf_msgs.specs.declared.msg.Msg.{Msg}
use Rattle.actor_net.specs.declared.choice.Choice.{Choice}
use Rattle.actor_net.specs.Network.{Network, is_enabled, is_done}
use Rattle.net_world.specs.Fold.{times, IsFront}
use Rattle.strong_share.specs.declared.note.StrongNote.{StrongNote}
use Rattle.strong_share.specs.declared.node.StrongNode.{StrongNode}
use Rattle.strong_share.specs.Tables.{node_ready, node_ended}
use Rattle.strong_share.specs.Start.{StrongJob, numbers_of}
use Rattle.strong_share.specs.Words.{events_of, arrivals_in, done_numbers, is_taken_at, fold, outputs, numbers_in}
use Rattle.strong_share.specs.Words.{processed_of, queue_of, outputs_of, live_at, standby_at, cells_at_home, most_choices}

module _ {R : Type 0} (f : Semantics R) (job : StrongJob) where
  -- what every run keeps
  pub record StrongPromises {F : Type 0} (w : Network (StrongNode F R) Msg StrongNote) : Type 0 where
    -- the switch takes the packets in their order
    pub in_turn : IsFront (arrivals_in w.log) (numbers_of job)
    -- each packet is processed at most once
    pub once : (p : ℕ) → times p (done_numbers w.log) ≤ 1
    -- what is processed of a unit that the filter takes is a front of what was queued of it, and of another unit a front of all its packets
    pub shared_order : (unit : units.Unit) → takes job.filter unit ≡ true
        → IsFront (processed_of f job unit w.log) (queue_of f job unit w.log)
    pub other_order : (unit : units.Unit) → takes job.filter unit ≡ false
        → IsFront (processed_of f job unit w.log) (numbers_in f job unit)
    -- outputs are those of one instance that nothing moves, which gets the packets in this order
    pub outputs_are : (unit : units.Unit) → outputs_of f job unit w.log ≡ outputs f job None (processed_of f job unit w.log)
    -- what each member raised is a front of what the switch gave it, as it came
    pub raised_in_turn : (k : ℕ) → k < job.members → IsFront (events_of k w.log) (filter (is_taken_at job k) (arrivals_in w.log))

  -- what a complete run keeps besides
  pub record StrongCompleted {F : Type 0} (w : Network (StrongNode F R) Msg StrongNote) : Type 0 where
    pub all_came : arrivals_in w.log ≡ numbers_of job
    -- each packet is processed once
    pub each_once : (p : ℕ) → times p (done_numbers w.log) ≡ times p (numbers_of job)
    -- all that was queued of a unit is processed, and all packets of another
    pub shared_whole : (unit : units.Unit) → takes job.filter unit ≡ true → processed_of f job unit w.log ≡ queue_of f job unit w.log
    pub other_whole : (unit : units.Unit) → takes job.filter unit ≡ false → processed_of f job unit w.log ≡ numbers_in f job unit
    -- the record of what was processed is live at the first member alone; and it stands by at each other, where the filter takes the unit
    pub live_is : (unit : units.Unit) (k : ℕ) → k < job.members
        → live_at w k unit ≡ (if k == 0 then fold f job None (processed_of f job unit w.log) else None)
    pub standby_is : (unit : units.Unit) (k : ℕ) → k < job.members → takes job.filter unit ≡ true
        → standby_at w k unit ≡ (if k == 0 then None else fold f job None (processed_of f job unit w.log))
    -- each member raised all that the switch gave it
    pub raised_all : (k : ℕ) → k < job.members → events_of k w.log ≡ filter (is_taken_at job k) (numbers_of job)
    -- all cells of the pool are home
    pub all_home : cells_at_home w ≡ Some job.window

-- a run has at most so many choices, and a world that isn't complete has an enabled one
pub record StrongEnds (job : StrongJob) {F R : Type 0} (choices : List Choice) (w : Network (StrongNode F R) Msg StrongNote) : Type 0 where
  pub short : length choices ≤ most_choices job
  pub goes_on : is_done node_ended w ≡ false → (c : Choice) × (is_enabled node_ready w c ≡ true)
