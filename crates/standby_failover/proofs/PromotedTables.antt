-- The records of an instance, and what they are once those of the affected units that stand by are live too.
use Rattle.standby_failover.proofs.Words.{◌≡◌, Bool, true, false, Option, Some, None, List, refl, sym, ap, ◌∙◌, if◌then◌else◌, is_some, slice_get, get-empty}
use Rattle.standby_failover.proofs.Words.{true≢false, unit_cmp, TableView, instance_node, Node, Instance, live_at, table_at, Failover, is_affected, standing}
use Rattle.standby_failover.proofs.Words.{IsLeft}
use Rattle.std.proofs.Common.{◌≢◌}
use Rattle.std.specs.Option.{option_or}
use Rattle.std.specs.FinMap as finite
use Rattle.std.specs.FinMap.{contains_key-keys}
use Rattle.nf_function.specs.declared.unit.Unit as units
use Rattle.record_table.specs.Table.{is_among}
use Rattle.net_world.specs.Records.{live_in}
use Rattle.net_world.specs.Standby.{standby_in}
use Rattle.net_world.specs.Tables.{table_in}

-- the records of a node by its table
pub live_table : {F R : Type 0} (o : Option (Node F R)) (u : units.Unit) → live_in u o ≡ finite.get (table_in o).live u
live_table (Some (Instance i)) u = refl
live_table other u = sym (get-empty unit_cmp u)

pub standby_table : {F R : Type 0} (o : Option (Node F R)) (u : units.Unit) → standby_in u o ≡ finite.get (table_in o).standby u
standby_table (Some (Instance i)) u = refl
standby_table other u = sym (get-empty unit_cmp u)

or_none : {X : Type 0} (o : Option X) → option_or o None ≡ o
or_none None = refl
or_none (Some r) = refl

module _ {F R : Type 0} (x : Failover F R) (left : IsLeft x) (two : x.failed ≢ x.to) where
  -- no unit has two live records
  not_there : (u : units.Unit) → is_affected x u ≡ true → live_at x.world x.to u ≡ None
  not_there u on = by_live (live_at x.world x.failed u) refl (live_at x.world x.to u) refl
    where
      by_live : (a : Option R) → live_at x.world x.failed u ≡ a → (b : Option R) → live_at x.world x.to u ≡ b → live_at x.world x.to u ≡ None
      by_live None e b k = absurd (true≢false (sym on ∙ ap is_some e))
      by_live (Some r) e None k = k
      by_live (Some r) e (Some q) k = absurd (two (left.promises.one_record u x.failed x.to r q e k))

  module _ (us : List units.Unit) (same : us ≡ finite.keys (table_at x.world x.failed).live) (u : units.Unit) where
    -- whether a unit is among the affected ones
    among : is_among us u ≡ is_affected x u
    among =
        ap (λ vs. is_among vs u) same ∙ sym (contains_key-keys (table_at x.world x.failed).live u)
        ∙ sym (ap is_some (live_table (slice_get x.world.nodes (instance_node x.failed)) u))

    abbrev owed : Bool → Option R
    owed b = if b then standing x u else live_at x.world x.to u

    module _ (table : TableView R) (is : table ≡ table_at x.world x.to) where
      abbrev shown : Bool → Option R
      shown b = option_or (if b then finite.get table.standby u else None) (finite.get table.live u)

      abbrev node : Option (Node F R)
      node = slice_get x.world.nodes (instance_node x.to)

      lives : finite.get table.live u ≡ live_at x.world x.to u
      lives = ap (λ t. finite.get t.live u) is ∙ sym (live_table node u)

      stood : finite.get table.standby u ≡ standing x u
      stood = ap (λ t. finite.get t.standby u) is ∙ sym (standby_table node u)

      -- what is live of it, where what stood by of the affected ones takes the place of what was live
      pub promoted_is : shown (is_among us u) ≡ owed (is_affected x u)
      promoted_is = by_test (is_affected x u) refl
        where
          by_test : (b : Bool) → is_affected x u ≡ b → shown (is_among us u) ≡ owed (is_affected x u)
          by_test true on =
              ap shown (among ∙ on) ∙ ap (option_or (finite.get table.standby u)) (lives ∙ not_there u on) ∙ or_none (finite.get table.standby u)
              ∙ stood ∙ sym (ap owed on)
          by_test false off = ap shown (among ∙ off) ∙ lives ∙ sym (ap owed off)
