-- One unit more has its record.
use Rattle.std.proofs.Common.{Some, sym, ap, ◌∙◌, arith}
use Rattle.std.proofs.lemmas.List.{take_all}
use Rattle.std.specs.Option.{option_copied}
use Rattle.record_table.proofs.CopiedRecords.{those, those_none, copied_next, passed_over}
use Rattle.record_table.proofs.record_map.RecordMap.copied.Goals as goal
use Rattle.record_table.proofs.record_map.RecordMap.copied.Goals.{in-Some+in_ok-copy+in_ok-insert, in_default}

pub loop-unit-init : goal.loop-unit-init
loop-unit-init g c = c.in_ok-reserve.ensures ∙ c.open-copies.ensures ∙ those_none c.args.self.now

pub loop-unit-preserved : goal.loop-unit-preserved
loop-unit-preserved g c = elim c.match-get.branch [
  | in-Some+in_ok-copy+in_ok-insert w ↦
      copied_next c.args.units.now c.loop-unit.unit-index _ c.args.self.now c.loop-unit.copies c.match-get.copies c.loop-unit-test.true
      c.loop-unit.invariant w.in_ok-copy.field-0
      (sym c.get.ensures ∙ ap option_copied w.in-Some.is ∙ ap Some (sym w.in_ok-copy.ensures)) (w.copies-is ∙ w.in_ok-insert.ensures.ok)
  | in_default w ↦
      passed_over c.args.units.now c.loop-unit.unit-index _ c.args.self.now c.loop-unit.copies c.match-get.copies c.loop-unit-test.true c.loop-unit.invariant
      (sym c.get.ensures ∙ ap option_copied w.in_default.is) w.copies-is
]

pub returns : goal.returns
returns g c =
    c.loop-unit.invariant ∙ ap (λ us. those us c.args.self.now) (take_all c.loop-unit.unit-index c.args.units.now (omega (arith, c.loop-unit-test.false)))
