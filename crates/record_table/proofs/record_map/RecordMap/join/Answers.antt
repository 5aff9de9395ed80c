-- Each record that comes is put at the place of its unit, and counted where there was none.
use Rattle.std.proofs.Common.{◌≡◌, true, [], ◌∷◌, ◌++◌, length, refl, sym, ap, ◌∙◌, arith}
use mir.Val.{bool_byte}
use Rattle.std.specs.List.{AllZip, IsDistinct}
use Rattle.std.specs.Map.{keys_of}
use Rattle.std.specs.FinMap as finite
use Rattle.unit_map.specs.Entries.{is_place_of, with_record}
use Rattle.unit_map.proofs.EntryLemmas.{place_within, keys_added, map_with_record}
use Rattle.record_table.specs.Table.{union_of, either}
use Rattle.record_table.specs.Entries.{map_of}
use Rattle.record_table.specs.Keeping.{choice}
use Rattle.record_table.proofs.UnitOrder.{unit_eq, unit_eq_equiv}
use Rattle.record_table.proofs.EntryMaps.{put_at, kept_at, map_of-same, counted_at, within_at}
use Rattle.record_table.proofs.Joining.{zip_front, zip_none, zip_weaker, keys_front, no_keys, same_places, whole_more, whole_none}
use Rattle.record_table.proofs.Results.{on_err_given}
use Rattle.record_table.proofs.record_map.RecordMap.join.Given.{Over}
use Rattle.record_table.proofs.record_map.RecordMap.join.Goals as goal
use Rattle.record_table.proofs.record_map.RecordMap.join.Goals.{In-Some-pop}

pub invariant_of-self : goal.invariant_of-self
invariant_of-self g c = c.self.invariant ∙ sym (ap finite.len (map_of-same c.self.inside.records c.places.new.self c.in_err-places.ensures.same))

pub returns-in_err-places-clause-err : goal.returns-in_err-places-clause-err
returns-in_err-places-clause-err g c =
    on_err_given c.from_residual.result (map_of-same c.self.inside.records c.places.new.self c.in_err-places.ensures.same ∙ c.self.view_is)

pub loop-place-init : goal.loop-place-init
loop-place-init g c =
    let same = map_of-same c.self.inside.records c.places.new.self c.places.ensures.same in
    record {
      held = c.places.ensures.map;
      left = c.requires;
      found = rw (← c.deref.ensures.value) c.in_ok-places.ensures.found;
      count = c.self.invariant ∙ sym (ap finite.len same);
      whole = ap (λ m. union_of (choice g.F.Function.semantics c.args.keep) m (map_of c.args.entries.items)) (same ∙ c.self.view_is);
    }

-- the last unit has the last place
last : (g : Over) (c : In-Some-pop g)
    → AllZip (λ u place. is_place_of unit_eq c.loop-place.self-inside.records place u ≡ true) (keys_of c.pop-in-Some.new.self.items) c.pop.new.self.items
    × (is_place_of unit_eq c.loop-place.self-inside.records c.in-Some.place c.in-Some-pop.field-0-0 ≡ true)
last g c =
    let left = c.pop-in-Some.new.self.items in
    let keys : keys_of c.loop-place.entries.items ≡ keys_of left ++ c.in-Some-pop.field-0-0 ∷ [] =
    ap keys_of c.in-Some-pop.ensures.items ∙ keys_added unit_eq c.in-Some-pop.field-0-0 c.in-Some-pop.coming left in
    zip_front _ (keys_of left) c.pop.new.self.items c.in-Some-pop.field-0-0 c.in-Some.place (rw (keys, c.in-Some.ensures.items) at c.loop-place.invariant.found)

pub record_mut-kept-requires : goal.record_mut-kept-requires
record_mut-kept-requires g c = place_within unit_eq c.in-Some-pop.field-0-0 c.loop-place.self-inside.records c.in-Some.place
    (last g (goal.at.record_mut-kept-requires g c).In-Some-pop).1

pub overflow_add-self : goal.overflow_add-self
overflow_add-self g c =
    let now = c.loop-place.self-inside.records in
    omega (
      arith,
      within_at now now c.in-Some.place c.in-Some-pop.field-0-0 c.loop-place.invariant.held (last g (goal.at.overflow_add-self g c).In-Some-pop).1 (λ q. refl)
          c.record_mut-kept.result.now c.put.new.kept c.loop-place.self-inside.count c.from-before.result c.from-after.result c.loop-place.invariant.count
          c.record_mut-kept.ensures.value
          (c.from-before.ensures ∙ ap bool_byte c.is_some.ensures) (c.from-after.ensures ∙ ap bool_byte c.is_some-in-Some.ensures),
    )

pub loop-place-preserved : goal.loop-place-preserved
loop-place-preserved g c =
    let now = c.loop-place.self-inside.records in
    let place = c.in-Some.place in
    let u = c.in-Some-pop.field-0-0 in
    let left = c.pop-in-Some.new.self.items in
    let choose = choice g.F.Function.semantics c.args.keep in
    let ends = last g (goal.at.loop-place-preserved g c).In-Some-pop in
    let all : IsDistinct unit_eq (keys_of (left ++ (u, c.in-Some-pop.coming) ∷ [])) = rw c.in-Some-pop.ensures.items at c.loop-place.invariant.left in
    let held : c.put.new.kept ≡ either choose (finite.get (map_of now) u) c.in-Some-pop.coming =
    c.put.ensures ∙ ap (λ o. either choose o c.in-Some-pop.coming)
    (c.record_mut-kept.ensures.value ∙ kept_at now now place u c.loop-place.invariant.held ends.1 (λ q. refl)) in
    record {
      held = map_with_record unit_eq unit_eq_equiv now place c.put.new.kept c.loop-place.invariant.held;
      left = keys_front left u c.in-Some-pop.coming all;
      found = zip_weaker (λ v p. is_place_of unit_eq now p v ≡ true) (λ v p. is_place_of unit_eq (with_record now place c.put.new.kept) p v ≡ true)
          (λ v p h. rw (same_places now place c.put.new.kept p v) h) (keys_of left) c.pop.new.self.items ends.0;
      count = omega (
        arith,
        counted_at now now place u c.loop-place.invariant.held ends.1 (λ q. refl)
            c.record_mut-kept.result.now c.put.new.kept c.loop-place.self-inside.count c.from-before.result c.from-after.result c.loop-place.invariant.count
            c.record_mut-kept.ensures.value
            (c.from-before.ensures ∙ ap bool_byte c.is_some.ensures) (c.from-after.ensures ∙ ap bool_byte c.is_some-in-Some.ensures),
      );
      whole = whole_more choose now (with_record now place c.put.new.kept) left u c.in-Some-pop.coming
          (rw (← held) (put_at now now place u c.loop-place.invariant.held ends.1 (λ q. refl) c.put.new.kept)) all
          ∙ ap (λ es. union_of choose (map_of now) (map_of es)) (sym c.in-Some-pop.ensures.items) ∙ c.loop-place.invariant.whole;
    }

pub returns-clause-ok : goal.returns-clause-ok
returns-clause-ok g c =
    let places = c.loop-place.places in
    let entries = c.loop-place.entries.items in
    let choose = choice g.F.Function.semantics c.args.keep in
    let none : length places.items ≡ 0 = omega (arith, c.in_default.ensures.cases.0, places.ok) in
    let nothing : entries ≡ [] = no_keys entries (zip_none _ (keys_of entries) places.items none c.loop-place.invariant.found) in
    sym (whole_none choose (map_of c.loop-place.self-inside.records))
    ∙ ap (λ es. union_of choose (map_of c.loop-place.self-inside.records) (map_of es)) (sym nothing) ∙ c.loop-place.invariant.whole
