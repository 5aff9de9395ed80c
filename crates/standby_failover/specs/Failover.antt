-- What is left where an instance fails and another takes over from the records that stand by there. All of it speaks of the world in which the
-- one fails. Packets go by their numbers. This project's own.
use Rattle.std.specs.Prelude.{◌≡◌, ℕ, ◌≤◌, Bool, true, false, not, ◌==◌, ◌&&◌, if◌then◌else◌, List, ◌++◌}
use Rattle.std.specs.Prelude.{map, filter, take, drop, length, Option, None, is_some}
use Rattle.std.specs.List.{list_any}
use Rattle.std.specs.FinMap as finite
use Rattle.nf_function.specs.declared.unit.Unit as units
use Rattle.nf_function.specs.Semantics.{packets_in}
use Rattle.record_table.specs.Table.{TableView}
use Rattle.nf_msgs.specs.declared.msg.Msg.{Msg}
use Rattle.nf_msgs.specs.declared.note.Note.{Note}
use Rattle.actor_net.specs.Network.{Network}
use Rattle.net_world.specs.declared.node.Node.{Node}
use Rattle.net_world.specs.Fold.{arrived_of, fold, is_of, processed_of as processed_by_log}
use Rattle.net_world.specs.Input.{IsInput}
use Rattle.net_world.specs.Jobs.{Job}
use Rattle.net_world.specs.Log.{arrivals_in, dones_in}
use Rattle.net_world.specs.Places.{is_loose, unit_in}
use Rattle.net_world.specs.Records.{live_at}
use Rattle.net_world.specs.Standby.{standby_at}
use Rattle.net_world.specs.Tables.{table_at}
use Rattle.nf_net.specs.Promises.{Promises}
use Rattle.standby_failover.specs.declared.promoted.Promoted.{Promoted}

-- a run's world in which an instance fails, and the instance that takes over
pub record Failover (F R : Type 0) : Type 0 where
  pub job : Job R
  pub world : Network (Node F R) Msg Note
  pub failed : ℕ
  pub to : ℕ

abbrev pub failover_of : {F R : Type 0} → Job R → Network (Node F R) Msg Note → ℕ → ℕ → Failover F R
failover_of job world failed to = record { job = job; world = world; failed = failed; to = to }

-- whether a number stands in a list
abbrev pub is_in : ℕ → List ℕ → Bool
is_in p ps = list_any (λ q. p == q) ps

-- the packets that were processed, in order
abbrev pub numbers_done : List Note → List ℕ
numbers_done log = map (λ d. d.number) (dones_in log)

module _ {F R : Type 0} (x : Failover F R) where
  -- the packets of a unit that were processed
  abbrev pub processed_of : units.Unit → List ℕ
  processed_of unit = processed_by_log x.job.function x.job.config x.job.items unit x.world.log

  -- what one instance that nothing moves keeps after packets of a unit
  abbrev pub record_kept : List ℕ → Option R
  record_kept ps = fold x.job.function x.job.config x.job.items None ps

  -- a unit is affected where its record is live at the instance that fails
  abbrev pub is_affected : units.Unit → Bool
  is_affected unit = is_some (live_at x.world x.failed unit)

  -- its record that stands by at the instance that takes over
  abbrev pub standing : units.Unit → Option R
  standing unit = standby_at x.world x.to unit

  -- how many of its processed packets that record has counted, and 0 where none stands by
  abbrev pub reflected_by : units.Unit → ℕ
  reflected_by unit = packets_in x.job.function (standing unit)

  -- the record that stands by, or that none does, is what is kept after so many of its processed packets
  pub record IsReflected (unit : units.Unit) (count : ℕ) : Type 0 where
    pub within : count ≤ length (processed_of unit)
    pub folds : record_kept (take count (processed_of unit)) ≡ standing unit

  -- and this is so of that number of packets, and of no other
  pub record AreReflected (unit : units.Unit) : Type 0 where
    pub is : IsReflected unit (reflected_by unit)
    pub only : (count : ℕ) → IsReflected unit count → count ≡ reflected_by unit

  -- a packet is lost where it is of an affected unit and was processed after so many
  abbrev pub is_lost : ℕ → Bool
  is_lost p = is_affected (unit_in x.job p) && is_in p (drop (reflected_by (unit_in x.job p)) (processed_of (unit_in x.job p)))

  -- it is open where it is of an affected unit and wasn't processed
  abbrev pub is_open : ℕ → Bool
  is_open p = is_affected (unit_in x.job p) && not (is_in p (numbers_done x.world.log))

  -- these packets by their numbers, which is how they came; and the lost ones as they were processed
  abbrev pub lost_packets : List ℕ
  lost_packets = filter is_lost (arrivals_in x.world.log)

  abbrev pub open_packets : List ℕ
  open_packets = filter is_open (arrivals_in x.world.log)

  abbrev pub lost_in_order : List ℕ
  lost_in_order = filter is_lost (numbers_done x.world.log)

  -- the open packets of one unit
  abbrev pub open_of : units.Unit → List ℕ
  open_of unit = filter (is_of x.job.function x.job.config x.job.items unit) open_packets

  -- the record of an affected unit that stands by is live too, or it has none; all other records are as they were
  pub record IsPromoted (p : Promoted F R) : Type 0 where
    pub live : (unit : units.Unit) → finite.get p.table.live unit ≡ (if is_affected unit then standing unit else live_at x.world x.to unit)
    pub standby : p.table.standby ≡ (table_at x.world x.to).standby
    pub lost : p.lost ≡ lost_packets
    pub pending : p.pending ≡ open_packets
    pub order : p.order ≡ lost_in_order
    pub units : p.units ≡ finite.keys (table_at x.world x.failed).live

  -- what holds of a world of a run, whichever two of its instances these are
  pub record IsLeft : Type 0 where
    pub is_input : IsInput x.job.function.kind x.job.config x.job.items
    pub promises : Promises x.job.function x.job.config x.job.items x.world
    pub reflects : (unit : units.Unit) → AreReflected unit

  -- the records once each affected unit has caught up with all its packets that came
  pub record HasCaughtUp (table : TableView R) : Type 0 where
    pub affected : (unit : units.Unit) → is_affected unit ≡ true → finite.get table.live unit ≡ record_kept (processed_of unit ++ open_of unit)
    -- each of them has a record
    pub each : (unit : units.Unit) → is_affected unit ≡ true → is_some (finite.get table.live unit) ≡ true
    -- these packets are all that came, in their order, unless a plain move handed the unit on
    pub in_order : (unit : units.Unit) → is_affected unit ≡ true → is_loose x.job.config x.job.items unit x.world.log ≡ false
        → finite.get table.live unit ≡ record_kept (arrived_of x.job.function x.job.config x.job.items unit x.world.log)
    pub others : (unit : units.Unit) → is_affected unit ≡ false → finite.get table.live unit ≡ live_at x.world x.to unit
    pub standby : table.standby ≡ (table_at x.world x.to).standby
