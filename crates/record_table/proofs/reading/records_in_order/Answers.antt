-- A chunk of a unit after the last one brings its record.
use Rattle.std.proofs.Common.{append-nil, ◌≡◌, ◌∙◌, ◌+◌, ◌∷◌, ◌++◌, [], true, Some, sym, ap, take}
use Rattle.std.proofs.lemmas.List.{take_more}
use Rattle.record_table.specs.Chunks.{spelled}
use Rattle.record_table.specs.Keeping.{comes_after}
use Rattle.record_table.proofs.Lifetimes.{of_none, of_entry}
use Rattle.record_table.proofs.OrderedChunks.{none_in_order, one_more}
use Rattle.record_table.proofs.reading.records_in_order.Goals as goal

pub loop-chunk-init : goal.loop-chunk-init
loop-chunk-init g c = rw c.in_ok-entries.ensures.items (none_in_order g.F.Function.semantics)

pub loop-chunk-preserved : goal.loop-chunk-preserved
loop-chunk-preserved g c =
    let f = g.F.Function.semantics in
    let i = c.loop-chunk.chunk-index in
    let chunk = c.chunk-item.result in
    let front = take i c.args.chunks.now in
    let more : take (i + 1) c.args.chunks.now ≡ front ++ chunk ∷ [] = take_more c.args.chunks.now i chunk c.loop-chunk-test.true
    ∙ ap (λ x. front ++ x ∷ []) (sym c.chunk-item.is) in
    let spells : spelled f chunk ≡ Some (c.in-Some.unit, c.in-Some.record) = sym c.in_ok-unit.ensures.found ∙ c.in-Some.is in
    let valid : f.is_valid c.in-Some.unit c.in-Some.record ≡ true = rw c.in-Some.is at c.in_ok-unit.ensures.valid in
    let next : comes_after c.loop-chunk.last c.in-Some.unit ≡ true = sym c.comes_after.ensures ∙ c.if-not-comes_after.false in
    rw (more, c.in_ok-push.ensures.items)
    (one_more f front c.loop-chunk.entries.items c.loop-chunk.last chunk c.in-Some.unit c.in-Some.record c.loop-chunk.invariant spells valid next)

pub branch-entries-requires : goal.branch-entries-requires
branch-entries-requires g c κs = λ h. (simp append-nil (of_entry κs.0 g.row.F-Record.lives h), of_none κs.1.0)

pub branch-unit-requires : goal.branch-unit-requires
branch-unit-requires g c κs = λ h. (simp append-nil (of_entry κs.0 g.row.F-Record.lives h), of_none κs.1.0)
