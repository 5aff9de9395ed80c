-- The entries that stand in memory as a finite map: its look-ups are theirs.
use mir.Val.{bool_byte}
use Rattle.std.proofs.Common.{◌≡◌, ℕ, ◌+◌, ◌^◌, ◌<◌, ◌≤◌, Bool, true, false, cond, [], ◌∷◌, length, Option, Some, None, sym, ap, ◌∙◌, arith, is_some}
use Rattle.std.specs.Prelude.{not}
use Rattle.std.proofs.lemmas.Bool.{true≢false}
use Rattle.std.specs.Map.{lookup, update}
use Rattle.std.specs.FinMap as finite
use Rattle.std.specs.FinMap.{get-empty, len-empty}
use Rattle.nf_function.specs.declared.unit.Unit as units
use Rattle.nf_function.specs.Units.{unit_cmp}
use Rattle.unit_map.specs.Entries.{Entries, IsMap, record_of, record_at, is_place_of, with_record}
use Rattle.unit_map.proofs.EntryLemmas.{record_at_place, record_with_record, map_with_record, held-cond}
use Rattle.record_table.specs.Table.{same_unit, with_kept}
use Rattle.record_table.specs.Entries.{map_of}
use Rattle.record_table.proofs.UnitOrder.{unit_eq, tied, unit_eq_equiv, same_unit_equiv}
use Rattle.record_table.proofs.RecordLookUps.{same_records, get-with_kept, count, len-with_kept}

at_most_one_byte : (b : Bool) → bool_byte b ≤ 1
at_most_one_byte true = omega arith
at_most_one_byte false = omega arith

module _ {R : Type 0} where
  pub get-map_of : (es : Entries units.Unit R) (u : units.Unit) → finite.get (map_of es) u ≡ record_of unit_eq es u
  unfolding map_of
  get-map_of [] u = get-empty unit_cmp u
  get-map_of (e ∷ es) u =
      get-with_kept (map_of es) e.0 e.1 u ∙ ap (λ b. cond b e.1 (finite.get (map_of es) u)) (sym (tied u e.0))
      ∙ ap (cond (unit_eq u e.0) e.1) (get-map_of es u) ∙ sym (held-cond (unit_eq u e.0) e.1 (lookup (unit_eq u) es))

  pub map_of-same : (old new : Entries units.Unit R) → ((u : units.Unit) → record_of unit_eq new u ≡ record_of unit_eq old u) → map_of new ≡ map_of old
  map_of-same old new same = same_records (map_of new) (map_of old) (λ u. get-map_of new u ∙ same u ∙ sym (get-map_of old u))

  pub map_of-updated : (old new : Entries units.Unit R) (u : units.Unit) (o : Option R)
      → ((q : units.Unit) → record_of unit_eq new q ≡ update unit_eq (record_of unit_eq old) u o q) → map_of new ≡ with_kept (map_of old) u o
  map_of-updated old new u o updates = same_records (map_of new) (with_kept (map_of old) u o) (λ q.
      get-map_of new q ∙ updates q ∙ ap (λ b. cond b o (record_of unit_eq old q)) (tied u q ∙ same_unit_equiv.symm u q)
      ∙ ap (cond (same_unit q u) o) (sym (get-map_of old q)) ∙ sym (get-with_kept (map_of old) u o q))

  at_most_one : (o : Option R) → count o ≤ 1
  at_most_one None = omega arith
  at_most_one (Some r) = omega arith

  -- there are no more records than entries
  pub len-map_of : (es : Entries units.Unit R) → finite.len (map_of es) ≤ length es
  unfolding map_of
  len-map_of [] = omega (arith, len-empty unit_cmp R)
  len-map_of (e ∷ es) = omega (arith, len-with_kept (map_of es) e.0 e.1, at_most_one e.1, len-map_of es)

  -- what one unit's record does to the map and to the number of records
  pub record IsPut (old new : Entries units.Unit R) (u : units.Unit) (o : Option R) : Type 0 where
    pub map : map_of new ≡ with_kept (map_of old) u o
    pub counted : finite.len (map_of new) + count (record_of unit_eq old u) ≡ finite.len (map_of old) + count o

  pub put : (old new : Entries units.Unit R) (u : units.Unit) (o : Option R)
      → ((q : units.Unit) → record_of unit_eq new q ≡ update unit_eq (record_of unit_eq old) u o q) → IsPut old new u o
  put old new u o updates = record {
    map = map_of-updated old new u o updates;
    counted = rw (map_of-updated old new u o updates, ← get-map_of old u) (len-with_kept (map_of old) u o);
  }

  -- a record is counted where there was none
  pub counted_on : (n m x : ℕ) (is_new : Bool) (o : Option R) → is_some o ≡ not is_new → x ≡ bool_byte is_new → m + count o ≡ n + 1 → n + x ≡ m
  counted_on n m x true None is one after = omega (arith, one, after)
  counted_on n m x false (Some r) is one after = omega (arith, one, after)
  counted_on n m x true (Some r) is one after = absurd (true≢false is)
  counted_on n m x false None is one after = absurd (true≢false (sym is))

  -- it is counted off where there was one
  pub counted_off : (n m x : ℕ) (was_there : Bool) (o : Option R) → was_there ≡ is_some o → x ≡ bool_byte was_there → m + count o ≡ n + 0 → x + m ≡ n
  counted_off n m x true None is one after = absurd (true≢false is)
  counted_off n m x false None is one after = omega (arith, one, after)
  counted_off n m x true (Some r) is one after = omega (arith, one, after)
  counted_off n m x false (Some r) is one after = absurd (true≢false (sym is))

  -- the number of records after one unit's record was changed
  pub counted_by : (n m before after : ℕ) (old new : Option R) → before ≡ bool_byte (is_some old) → after ≡ bool_byte (is_some new)
      → m + count old ≡ n + count new → m + before ≡ n + after
  counted_by n m before after None None was is step = omega (arith, was, is, step)
  counted_by n m before after None (Some r) was is step = omega (arith, was, is, step)
  counted_by n m before after (Some r) None was is step = omega (arith, was, is, step)
  counted_by n m before after (Some r) (Some s) was is step = omega (arith, was, is, step)

  module _ (old placed : Entries units.Unit R) (place : ℕ) (u : units.Unit) (map : IsMap unit_eq placed)
      (found : is_place_of unit_eq placed place u ≡ true) (same : (q : units.Unit) → record_of unit_eq placed q ≡ record_of unit_eq old q) where
    -- what stands at a unit's place is what the map has for it
    pub kept_at : record_at placed place ≡ finite.get (map_of old) u
    kept_at = sym (record_at_place unit_eq unit_eq_equiv u placed place map.distinct found) ∙ same u ∙ sym (get-map_of old u)

    -- what is written at a unit's place is the unit's
    pub put_at : (o : Option R) → IsPut old (with_record placed place o) u o
    put_at o = put old (with_record placed place o) u o (λ q.
        record_with_record unit_eq unit_eq_equiv q placed place u o map.distinct found ∙ ap (cond (unit_eq u q) o) (same q))

    module _ (now o : Option R) (n before after : ℕ) (is : n ≡ finite.len (map_of old)) (read : now ≡ record_at placed place)
        (was : before ≡ bool_byte (is_some now)) (becomes : after ≡ bool_byte (is_some o)) where
      -- how many records there are then
      pub counted_at : finite.len (map_of (with_record placed place o)) + before ≡ n + after
      counted_at = rw is (counted_by (finite.len (map_of old)) (finite.len (map_of (with_record placed place o))) before after now o was becomes
          (rw (read, kept_at, get-map_of old u) (put_at o).counted))

      -- that number is within its type
      pub within_at : n + after < 2 ^ 32
      within_at = omega (
        arith,
        counted_at,
        len-map_of (with_record placed place o),
        (map_with_record unit_eq unit_eq_equiv placed place o map).few,
        at_most_one_byte (is_some now),
        was,
      )
