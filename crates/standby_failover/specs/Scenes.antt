-- Steps between code and definition, which nobody has to believe: what the code looks at of a world in which an instance fails, and how it finds
-- which packets a record has seen.
use Rattle.std.specs.Prelude.{◌≡◌, ◌≢◌, ◌==◌, ℕ, Bool, true, false, List, Option, None, Some, find, get_or, is_some}
use Rattle.std.specs.Option.{option_map_or}
use Rattle.std.specs.FinMap as finite
use Rattle.nf_function.specs.Records.{is_newer}
use Rattle.nf_function.specs.Semantics.{Semantics, unit_at}
use Rattle.nf_msgs.specs.declared.msg.Msg.{Msg}
use Rattle.nf_msgs.specs.declared.note.Note.{Note}
use Rattle.actor_net.specs.Network.{Network}
use Rattle.net_world.specs.declared.config.Config.{Config}
use Rattle.net_world.specs.declared.node.Node.{Node}
use Rattle.net_world.specs.Input.{packets}
use Rattle.net_world.specs.Jobs.{job_of}
use Rattle.net_world.specs.Tables.{table_at}
use Rattle.standby_failover.specs.declared.scene.Affected.{Affected}
use Rattle.standby_failover.specs.declared.scene.Scene.{Scene}
use Rattle.standby_failover.specs.Failover.{Failover, IsLeft, failover_of, lost_in_order, lost_packets, open_packets}

-- a world in which an instance of a network fails, whatever the network's function
pub record Stopped (F R : Type 0) : Type 0 where
  pub config : Config
  pub items : List Msg
  pub world : Network (Node F R) Msg Note
  pub failed : ℕ
  pub to : ℕ

-- whether a number is marked in a list of marks, one for each number from 0
abbrev pub is_marked : List Bool → ℕ → Bool
is_marked marks q = get_or marks q false

-- what is found of the affected units there is as the definitions say
pub record AreAffected {F R : Type 0} (x : Failover F R) (a : Affected) : Type 0 where
  pub lost : a.lost ≡ lost_packets x
  pub pending : a.pending ≡ open_packets x
  pub order : a.order ≡ lost_in_order x
  pub units : a.units ≡ finite.keys (table_at x.world x.failed).live

module _ {F R : Type 0} (f : Semantics R) where
  -- the same world, of a function
  abbrev pub failover_in : Stopped F R → Failover F R
  failover_in v = failover_of (job_of f v.config v.items) v.world v.failed v.to

  -- the code looks at this world
  pub record IsSceneOf (v : Stopped F R) (s : Scene F R) : Type 0 where
    pub site : s.site ≡ v.config.site
    pub packets : s.packets.now ≡ packets v.items
    pub log : s.log.now ≡ v.world.log
    pub failed : s.failed.now ≡ table_at v.world v.failed
    pub to : s.to.now ≡ table_at v.world v.to
    pub left : IsLeft (failover_in v)
    pub two : v.failed ≢ v.to

  -- whether the packet with a number is of an affected unit
  abbrev pub affects : Scene F R → ℕ → Bool
  affects s number = option_map_or (λ p. is_some (finite.get s.failed.now.live (unit_at f.kind s.site p))) (find (λ p. p.number == number) s.packets.now) false

-- a record that stands by has seen more than one that is made again of the packets that it saw
abbrev pub has_seen_more : {R : Type 0} → Semantics R → Option R → Option R → Bool
has_seen_more f None again = false
has_seen_more f (Some standing) None = true
has_seen_more f (Some standing) (Some again) = is_newer f standing again
