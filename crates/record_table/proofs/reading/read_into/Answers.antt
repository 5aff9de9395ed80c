-- A chunk brings its record, or is the first that is bad.
use Rattle.std.proofs.Common.{◌≡◌, Bool, true, false, [], ◌∷◌, ◌++◌, Some, sym, ap, ◌∙◌, refl, take}
use Rattle.std.proofs.lemmas.List.{take_more}
use Rattle.std.specs.Prelude.{not}
use Rattle.std.specs.FinMap as finite
use Rattle.std.specs.FinMap.{get-empty}
use Rattle.nf_function.specs.Units.{unit_cmp}
use Rattle.nf_function.specs.Semantics.{is_sound}
use Rattle.record_table.specs.Chunks.{spelled, records_of}
use Rattle.record_table.proofs.RecordLookUps.{sound_with_kept}
use Rattle.record_table.proofs.ChunkFronts.{brought_by_none, good_none, brings, good_more, bad_none, bad_again, first_bad}
use Rattle.record_table.proofs.reading.read_into.Given.{Over}
use Rattle.record_table.proofs.reading.read_into.Goals as goal
use Rattle.record_table.proofs.reading.read_into.Goals.{In_ok-insert}

was_new : (a b : Bool) → a ≡ not b → b ≡ not a
was_new a true h = ap not (sym h)
was_new a false h = ap not (sym h)

-- whether the records so far lack the unit
lacks : (g : Over) (c : In_ok-insert g)
    → finite.contains_key (records_of g.F.Function.semantics (take c.loop-index.index c.args.chunks.now)) c.in-Some.unit ≡ not c.in_ok-insert.field-0
lacks g c = rw (← c.loop-index.invariant.records) (was_new c.in_ok-insert.field-0 _ c.in_ok-insert.ensures.is_new)

found : (g : Over) (c : In_ok-insert g) → spelled g.F.Function.semantics c.index-chunks-index.result ≡ Some (c.in-Some.unit, c.in-Some.record)
found g c = sym c.in_ok-unit.ensures.found ∙ c.in-Some.is

pub loop-index-init : goal.loop-index-init
loop-index-init g c = record {
  records = c.in_ok-reserve.ensures ∙ c.requires ∙ sym (brought_by_none g.F.Function.semantics);
  good = good_none g.F.Function.semantics;
  sound = λ u. rw (c.in_ok-reserve.ensures, c.requires, get-empty unit_cmp u) refl;
}

pub returns-in_default-clause-bad : goal.returns-in_default-clause-bad
returns-in_default-clause-bad g c =
    let f = g.F.Function.semantics in
    first_bad f c.args.chunks.now c.loop-index.index c.index-chunks-index.result c.loop-index-test.true c.index-chunks-index.is c.loop-index.invariant.good
    (bad_none f _ c.index-chunks-index.result c.loop-index.invariant.good (sym c.in_ok-unit.ensures.found ∙ c.in_default.is))

pub returns-then-not-branch-clause-bad : goal.returns-then-not-branch-clause-bad
returns-then-not-branch-clause-bad g c =
    let f = g.F.Function.semantics in
    let b = (goal.at.returns-then-not-branch-clause-bad g c).In_ok-insert in
    first_bad f c.args.chunks.now c.loop-index.index c.index-chunks-index.result c.loop-index-test.true c.index-chunks-index.is c.loop-index.invariant.good
    (bad_again f _ c.index-chunks-index.result c.in-Some.unit c.in-Some.record c.loop-index.invariant.good (found g b)
    (lacks g b ∙ ap not c.if-not-branch.true))

pub loop-index-preserved : goal.loop-index-preserved
loop-index-preserved g c =
    let f = g.F.Function.semantics in
    let b = (goal.at.loop-index-preserved g c).In_ok-insert in
    let front = take c.loop-index.index c.args.chunks.now in
    let none = lacks g b ∙ ap not c.if-not-branch.false in
    let more = take_more c.args.chunks.now c.loop-index.index c.index-chunks-index.result c.loop-index-test.true
    ∙ ap (λ x. front ++ x ∷ []) (sym c.index-chunks-index.is) in
    let valid : is_sound f c.in-Some.unit (Some c.in-Some.record) ≡ true = rw c.in-Some.is at c.in_ok-unit.ensures.valid in
    record {
      records = c.in_ok-insert.ensures.ok ∙ ap (λ m. finite.insert m c.in-Some.unit c.in-Some.record) c.loop-index.invariant.records
          ∙ sym (brings f front c.index-chunks-index.result c.in-Some.unit c.in-Some.record (found g b) none) ∙ ap (records_of f) (sym more);
      good = rw more (good_more f front c.index-chunks-index.result c.in-Some.unit c.in-Some.record c.loop-index.invariant.good (found g b) none);
      sound = rw c.in_ok-insert.ensures.ok (sound_with_kept f c.loop-index.records c.in-Some.unit (Some c.in-Some.record) c.loop-index.invariant.sound valid);
    }
