-- Each record that is taken is valid for its unit, so that it has a chunk, which is read again.
use Rattle.std.proofs.Common.{◌≡◌, map, sym, ap, subst, ◌∙◌, arith}
use Rattle.std.proofs.lemmas.List.{take_all}
use Rattle.state_chunk.specs.Format.{record_chunk}
use Rattle.record_table.specs.Table.{taken_by, AreSound}
use Rattle.record_table.specs.Chunks.{chunks_of, AreReadAs}
use Rattle.record_table.proofs.RecordLookUps.{sound_retain_keys}
use Rattle.record_table.proofs.MadeChunks.{seen, seen_valid, chunks_seen, table_read}
use Rattle.record_table.proofs.table.Table.select.Given.{Over}
use Rattle.record_table.proofs.table.Table.select.Goals as goal
use Rattle.record_table.proofs.table.Table.select.Goals.{In_ok-records}

sound : (g : Over) (c : In_ok-records g) → AreSound g.F.Function.semantics (taken_by c.args.filter.now c.self.inside.live)
sound g c = sound_retain_keys g.F.Function.semantics c.self.inside.live _ c.self.invariant.0

pub encode-requires : goal.encode-requires
encode-requires g c =
    let m = taken_by c.args.filter.now c.self.inside.live in
    seen_valid g.F.Function.semantics c.deref-unit-items.result.now m (ap seen c.deref-unit-items.ensures.value ∙ c.in_ok-records.ensures)
    (sound g (goal.at.encode-requires g c).In_ok-records) c.loop-unit.unit-index c.loop-unit-item.result c.loop-unit-test.true c.loop-unit-item.is

selected : (g : Over) (c : goal.After-drop-records-2 g) → c.loop-unit.chunks ≡ chunks_of g.F.Function.semantics (taken_by c.args.filter.now c.self.inside.live)
selected g c =
    let f = g.F.Function.semantics in
    let items = c.deref-unit-items.result.now in
    c.loop-unit.invariant ∙ ap (map (λ e. record_chunk f e.0 e.1.now)) (take_all c.loop-unit.unit-index items (omega (arith, c.loop-unit-test.false)))
    ∙ chunks_seen f items (taken_by c.args.filter.now c.self.inside.live) (ap seen c.deref-unit-items.ensures.value ∙ c.in_ok-records.ensures)

pub returns-clause-chunks : goal.returns-clause-chunks
returns-clause-chunks g c = selected g c ∙ ap (λ t. chunks_of g.F.Function.semantics (taken_by c.args.filter.now t.live)) c.self.view_is

pub returns-clause-read : goal.returns-clause-read
returns-clause-read g c =
    let f = g.F.Function.semantics in
    let b = (goal.at.returns-clause-read g c).In_ok-records in
    let read = table_read f g.met.F.Function.laws (taken_by c.args.filter.now c.self.inside.live) (sound g b) in
    subst (λ chunks. AreReadAs f chunks (taken_by c.args.filter.now c.args.self.now.live)) (sym (selected g c))
    (subst (λ t. AreReadAs f (chunks_of f (taken_by c.args.filter.now c.self.inside.live)) (taken_by c.args.filter.now t.live)) c.self.view_is read)
