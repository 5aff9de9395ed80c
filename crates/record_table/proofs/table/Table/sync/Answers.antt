-- Each unit has the record that comes for it, if any.
use Rattle.std.proofs.lemmas.Result.{on_ok_weaker}
use Rattle.record_table.specs.Chunks.{records_of}
use Rattle.record_table.proofs.RecordLookUps.{each_replaced}
use Rattle.record_table.proofs.table.Table.sync.Goals as goal

pub returns-clause-each : goal.returns-clause-each
returns-clause-each g c = on_ok_weaker c.take_in.result
    (each_replaced c.args.self.now c.take_in.new.self c.args.live (records_of g.F.Function.semantics c.args.chunks)) c.take_in.ensures.table
