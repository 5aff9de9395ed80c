-- One unit more has no record.
use Rattle.std.proofs.Common.{◌∙◌, sym, ap, arith}
use Rattle.std.proofs.lemmas.List.{take_all}
use Rattle.record_table.specs.Table.{without}
use Rattle.record_table.proofs.RecordLookUps.{without_none, without_next}
use Rattle.record_table.proofs.record_map.RecordMap.remove.Goals as goal

pub loop-unit-init : goal.loop-unit-init
loop-unit-init g c = sym (without_none c.args.self.now)

pub loop-unit-preserved : goal.loop-unit-preserved
loop-unit-preserved g c =
    without_next c.args.units.now c.loop-unit.unit-index _ c.args.self.now c.loop-unit.self c.take.new.self c.take.ensures c.loop-unit.invariant
    c.loop-unit-test.true

pub returns : goal.returns
returns g c = c.drop_empty.ensures ∙ c.loop-unit.invariant
    ∙ ap (λ us. without us c.args.self.now) (take_all c.loop-unit.unit-index c.args.units.now (omega (arith, c.loop-unit-test.false)))
