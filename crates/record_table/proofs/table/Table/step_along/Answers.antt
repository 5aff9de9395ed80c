-- The record is stepped in the part that is named.
use Rattle.std.proofs.Common.{◌≡◌, refl}
use Rattle.record_table.specs.Table.{part, with_part, after_packet}
use Rattle.record_table.proofs.RecordLookUps.{get-stepped}
use Rattle.record_table.proofs.table.Table.step_along.Given.{Over}
use Rattle.record_table.proofs.table.Table.step_along.Goals as goal
use Rattle.record_table.proofs.table.Table.step_along.Goals.{After-unit, then-live+in_ok-output, else-live+in_ok-output-2}

table_is : (g : Over) (c : After-unit g)
    → c.if-live.self
    ≡ with_part c.args.self.now c.args.live (after_packet g.F.Function.semantics c.args.site.now (part c.args.self.now c.args.live) c.args.packet.now)
table_is g c = elim c.if-live.branch [
  | then-live+in_ok-output w ↦ rw (w.self-is, w.if-live.true, ← c.self.view_is, w.in_ok-output.ensures.records) refl
  | else-live+in_ok-output-2 w ↦ rw (w.self-is, w.if-live.false, ← c.self.view_is, w.in_ok-output-2.ensures.records) refl
]

pub returns-clause-each : goal.returns-clause-each
returns-clause-each g c = get-stepped g.F.Function.semantics c.args.site.now c.args.self.now c.if-live.self c.args.live c.args.packet.now (table_is g c)
