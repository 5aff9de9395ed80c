-- The records of an instance: for each unit at most one that is live, which packets step, and at most one that stands by, which is
-- kept apart. This project's own.
use Rattle.std.specs.Prelude.{◌≡◌, Bool, true, false, not, List, ◌++◌, map, Option, None, Some, refl}
use Rattle.std.specs.Coded.{Coded, code_by, coded×}
use Rattle.std.specs.List.{list_any}
use Rattle.std.specs.Ordering.{eq_by_cmp}
use Rattle.std.specs.FinMap as finite
use Rattle.flow_filter.specs.declared.filter.Filter.{Filter}
use Rattle.flow_filter.specs.declared.packet.Packet.{Packet}
use Rattle.flow_filter.specs.declared.site.Site.{Site}
use Rattle.nf_function.specs.declared.unit.Unit as units
use Rattle.nf_function.specs.Units.{unit_cmp, takes}
use Rattle.nf_function.specs.Records.{newest}
use Rattle.nf_function.specs.Semantics.{Semantics, kept_after, is_sound, unit_at}

-- a finite map from units to records
abbrev pub Records : Type 0 → Type 0
Records R = finite.FinMap unit_cmp R

-- the units are equal
abbrev pub same_unit : units.Unit → units.Unit → Bool
same_unit = eq_by_cmp unit_cmp

-- the unit is one of these
abbrev pub is_among : List units.Unit → units.Unit → Bool
is_among us unit = list_any (same_unit unit) us

-- the records of an instance
pub record TableView (R : Type 0) : Type 0 where
  pub live : Records R
  pub standby : Records R

-- a table is stored as the pair of its maps
abbrev pub table_code : {R : Type 0} → Coded (Records R) → Coded (TableView R)
table_code {R} records =
    code_by (Records R × Records R) (coded× records records) (λ t. (t.live, t.standby)) (λ p. record { live = p.0; standby = p.1 }) (λ _. refl)

module _ {R : Type 0} where
  -- no records
  abbrev pub empty : TableView R
  empty = record { live = finite.empty; standby = finite.empty }

  -- the live records, or else those that stand by
  abbrev pub part : TableView R → Bool → Records R
  part table true = table.live
  part table false = table.standby

  -- the table with other records in that part
  abbrev pub with_part : TableView R → Bool → Records R → TableView R
  with_part table true records = record { live = records; standby = table.standby }
  with_part table false records = record { live = table.live; standby = records }

  -- the records with this one for a unit, or with none
  abbrev pub with_kept : Records R → units.Unit → Option R → Records R
  with_kept records unit None = finite.remove records unit
  with_kept records unit (Some r) = finite.insert records unit r

  -- the records after a packet has stepped that of its unit
  abbrev pub after_packet : Semantics R → Site → Records R → Packet → Records R
  after_packet f site records p =
      with_kept records (unit_at f.kind site p) (kept_after f site (finite.get records (unit_at f.kind site p)) p)

  -- the records of the units that a filter takes
  abbrev pub taken_by : Filter → Records R → Records R
  taken_by filter records = finite.retain_keys records (takes filter)

  -- the records of all units but these
  abbrev pub without : List units.Unit → Records R → Records R
  without us records = finite.retain_keys records (λ unit. not (is_among us unit))

  -- what is kept where one record is held and one comes: the choice of them, where both are there
  abbrev pub either : (R → R → R) → Option R → Option R → Option R
  either choose held None = held
  either choose None (Some coming) = Some coming
  either choose (Some held) (Some coming) = Some (choose held coming)

  -- what comes, or the choice of it and what is held
  abbrev pub choice_of : (R → R → R) → Option R → R → R
  choice_of choose None coming = coming
  choice_of choose (Some held) coming = choose held coming

  -- the records of two maps, and where both have one for a unit, the choice of them
  unfoldable pub union_of : (R → R → R) → Records R → Records R → Records R
  union_of choose held coming =
      finite.from_entries (map (λ e. (e.0, choice_of choose (finite.get held e.0) e.1)) (finite.entries coming) ++ finite.entries held)

  -- the newer records of two maps
  abbrev pub newest_of : Semantics R → Records R → Records R → Records R
  newest_of f = union_of (newest f)

  -- the records that come, and those that are held for other units
  abbrev pub replaced_by : Records R → Records R → Records R
  replaced_by = union_of (λ held coming. coming)

  -- each record is valid for its unit
  abbrev pub AreSound : Semantics R → Records R → Type 0
  AreSound f records = (unit : units.Unit) → is_sound f unit (finite.get records unit) ≡ true
