-- The units are those of the map, in its order.
use Rattle.std.proofs.Common.{map, ap, ◌∙◌, arith}
use Rattle.std.proofs.lemmas.List.{take_all}
use Rattle.std.specs.FinMap as finite
use Rattle.record_table.proofs.MadeChunks.{seen}
use Rattle.record_table.proofs.InOrder.{keys_listed}
use Rattle.record_table.proofs.table.Table.units.Goals as goal

pub returns : goal.returns
returns g c =
    let items = c.deref-entry-items.result.now in
    c.loop-entry.invariant ∙ ap (map (λ e. e.0)) (take_all c.loop-entry.entry-index items (omega (arith, c.loop-entry-test.false)))
    ∙ keys_listed items c.part.result.now (ap seen c.deref-entry-items.ensures.value ∙ c.in_ok-records.ensures) ∙ ap finite.keys c.part.ensures
