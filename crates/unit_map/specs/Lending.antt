-- Steps between code and definition, which nobody has to believe: what a map ends as, once the loan of a record has ended.
use Rattle.std.specs.Prelude.{ℕ, Option}
use Rattle.std.specs.Borrow.{Fml, RattleType, MutBor, Lends}
use Rattle.std.specs.BTreeMap.Lent.{OrdMembers}
use Rattle.std.specs.HashMap.Lent.{HashMembers}
use Rattle.std.specs.contracts.option.Option.{the_row as option_row}
use Rattle.unit_map.specs.Entries.{Entries, with_record}
use Rattle.unit_map.specs.contracts.map.UnitMap.{the_row}

module _ (K R : RattleType) (o : OrdMembers K.Denot) (h : HashMembers K.Denot) where
  -- the map's type
  abbrev pub map_row : RattleType
  map_row = the_row K R (record { cmp = o.cmp }) (record { eq = o.eq }) (record { partial_cmp = o.partial_cmp }) (record { hash_input = h.hash_input })

  -- the entry at the place has the record, or none, that was left after the loan
  abbrev pub LendsRecord : MutBor (Entries K.Denot R.Denot) → ℕ → MutBor (Option R.Denot) → Fml
  LendsRecord map place lent = Lends map_row (option_row R) map lent (with_record map.now place)
