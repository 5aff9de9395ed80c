-- The record is stepped where it stands, at the place of the packet's unit, and counted where there was none.
use Rattle.std.proofs.Common.{◌≡◌, true, Option, ◌∙◌, sym, ap, subst, arith}
use mir.Val.{bool_byte}
use Rattle.std.specs.FinMap as finite
use Rattle.nf_function.specs.Units.{unit_of}
use Rattle.nf_function.specs.Semantics.{unit_at, kept_after, output_for, is_sound}
use Rattle.unit_map.specs.Entries.{with_record}
use Rattle.record_table.specs.Table.{AreSound, with_kept}
use Rattle.record_table.specs.Entries.{map_of}
use Rattle.record_table.proofs.RecordLookUps.{with_kept_same, sound_with_kept}
use Rattle.record_table.proofs.EntryMaps.{IsPut, put_at, kept_at, map_of-same, counted_at, within_at}
use Rattle.record_table.proofs.Results.{on_err_given}
use Rattle.record_table.proofs.record_map.RecordMap.step.Given.{Over}
use Rattle.record_table.proofs.record_map.RecordMap.step.Goals as goal
use Rattle.record_table.proofs.record_map.RecordMap.step.Goals.{In_err-place, After-record_mut-kept}

-- no record changes where no place is had
unchanged : (g : Over) (c : In_err-place g) → map_of c.place.new.self ≡ c.args.self.now
unchanged g c = map_of-same c.self.inside.records c.place.new.self c.in_err-place.ensures.same ∙ c.self.view_is

unit_is : (g : Over) (c : After-record_mut-kept g) → c.unit.result ≡ unit_at g.F.Function.semantics.kind c.args.site.now c.args.packet.now
unit_is g c = c.unit.ensures ∙ ap (λ p. unit_of g.F.Function.semantics.kind p.0) c.requires

-- what stands at the place is what the map has for the packet's unit
before_is : (g : Over) (c : After-record_mut-kept g) → c.record_mut-kept.result.now ≡ finite.get c.args.self.now c.unit.result
before_is g c =
    c.record_mut-kept.ensures.value
    ∙ kept_at c.self.inside.records c.place.new.self c.in_ok-place.place c.unit.result c.place.ensures.map c.in_ok-place.ensures.found c.place.ensures.same
    ∙ ap (λ m. finite.get m c.unit.result) c.self.view_is

written : (g : Over) (c : After-record_mut-kept g) (o : Option g.row.R.Denot)
    → IsPut c.self.inside.records (with_record c.place.new.self c.in_ok-place.place o) c.unit.result o
written g c o =
    put_at c.self.inside.records c.place.new.self c.in_ok-place.place c.unit.result c.place.ensures.map c.in_ok-place.ensures.found c.place.ensures.same o

-- a record that stays as it was leaves the map as it was
refused : (g : Over) (c : After-record_mut-kept g) (o : Option g.row.R.Denot) → o ≡ c.record_mut-kept.result.now
    → map_of (with_record c.place.new.self c.in_ok-place.place o) ≡ c.args.self.now
refused g c o same =
    (written g c o).map ∙ ap (λ m. with_kept m c.unit.result o) c.self.view_is ∙ with_kept_same c.args.self.now c.unit.result o (same ∙ before_is g c)

pub invariant_of-self : goal.invariant_of-self
invariant_of-self g c = c.self.invariant ∙ ap finite.len (c.self.view_is ∙ sym (unchanged g (goal.at.invariant_of-self g c).In_err-place))

pub returns-in_err-place-clause-sound : goal.returns-in_err-place-clause-sound
returns-in_err-place-clause-sound g c = subst (AreSound g.F.Function.semantics) (sym (unchanged g (goal.at.returns-in_err-place-clause-sound g c).In_err-place))

pub returns-in_err-place-clause-err : goal.returns-in_err-place-clause-err
returns-in_err-place-clause-err g c = on_err_given c.from_residual.result (unchanged g (goal.at.returns-in_err-place-clause-err g c).In_err-place)

pub invariant_of-self-in_err-output : goal.invariant_of-self-in_err-output
invariant_of-self-in_err-output g c = c.self.invariant ∙ ap finite.len
    (c.self.view_is ∙ sym (refused g (goal.at.invariant_of-self-in_err-output g c).After-record_mut-kept c.step_along.new.kept c.in_err-output.ensures.err))

pub returns-in_err-output-clause-sound : goal.returns-in_err-output-clause-sound
returns-in_err-output-clause-sound g c = subst (AreSound g.F.Function.semantics)
    (sym (refused g (goal.at.returns-in_err-output-clause-sound g c).After-record_mut-kept c.step_along.new.kept c.in_err-output.ensures.err))

pub returns-in_err-output-clause-err : goal.returns-in_err-output-clause-err
returns-in_err-output-clause-err g c = on_err_given c.from_residual-in_err-output.result
    (refused g (goal.at.returns-in_err-output-clause-err g c).After-record_mut-kept c.step_along.new.kept c.in_err-output.ensures.err)

pub overflow_add-self : goal.overflow_add-self
overflow_add-self g c =
    omega (
      arith,
      within_at c.self.inside.records c.place.new.self c.in_ok-place.place c.unit.result c.place.ensures.map c.in_ok-place.ensures.found c.place.ensures.same
          c.record_mut-kept.result.now c.step_along.new.kept c.self.inside.count c.from-before.result c.from-after.result c.self.invariant
          c.record_mut-kept.ensures.value
          (c.from-before.ensures ∙ ap bool_byte c.is_some.ensures) (c.from-after.ensures ∙ ap bool_byte c.is_some-2.ensures),
    )

pub invariant_of-self-2 : goal.invariant_of-self-2
invariant_of-self-2 g c =
    omega (
      arith,
      counted_at c.self.inside.records c.place.new.self c.in_ok-place.place c.unit.result c.place.ensures.map c.in_ok-place.ensures.found c.place.ensures.same
          c.record_mut-kept.result.now c.step_along.new.kept c.self.inside.count c.from-before.result c.from-after.result c.self.invariant
          c.record_mut-kept.ensures.value
          (c.from-before.ensures ∙ ap bool_byte c.is_some.ensures) (c.from-after.ensures ∙ ap bool_byte c.is_some-2.ensures),
    )

pub returns-clause-records : goal.returns-clause-records
returns-clause-records g c =
    let b = (goal.at.returns-clause-records g c).After-record_mut-kept in
    let f = g.F.Function.semantics in
    (written g b c.step_along.new.kept).map ∙ ap (λ m. with_kept m c.unit.result c.step_along.new.kept) c.self.view_is
    ∙ ap (λ o. with_kept c.args.self.now c.unit.result o)
    (c.in_ok-output.ensures.kept ∙ ap (λ o. kept_after f c.args.site.now o c.args.packet.now) (before_is g b))
    ∙ ap (λ u. with_kept c.args.self.now u (kept_after f c.args.site.now (finite.get c.args.self.now u) c.args.packet.now)) (unit_is g b)

pub returns-clause-output : goal.returns-clause-output
returns-clause-output g c =
    let b = (goal.at.returns-clause-output g c).After-record_mut-kept in
    c.in_ok-output.ensures.output
    ∙ ap (λ o. output_for g.F.Function.semantics c.args.site.now o c.args.packet.now) (before_is g b ∙ ap (finite.get c.args.self.now) (unit_is g b))

pub returns-clause-sound : goal.returns-clause-sound
returns-clause-sound g c = λ old.
    let b = (goal.at.returns-clause-sound g c).After-record_mut-kept in
    let f = g.F.Function.semantics in
    let was : is_sound f c.unit.result c.record_mut-kept.result.now ≡ true = rw (before_is g b) (old c.unit.result) in
    let is : is_sound f c.unit.result c.step_along.new.kept ≡ true = rw c.unit.ensures (c.step_along.ensures.sound (rw c.unit.ensures at was)) in
    rw ((written g b c.step_along.new.kept).map, c.self.view_is) (sound_with_kept f c.args.self.now c.unit.result c.step_along.new.kept old is)
