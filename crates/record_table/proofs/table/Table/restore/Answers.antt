-- Each unit has the newer of its two records.
use Rattle.std.proofs.Common.{ap}
use Rattle.std.proofs.lemmas.Result.{on_ok_weaker}
use Rattle.record_table.specs.Chunks.{records_of}
use Rattle.record_table.proofs.RecordLookUps.{each_newest}
use Rattle.record_table.proofs.table.Table.restore.Goals as goal

pub returns-clause-each : goal.returns-clause-each
returns-clause-each g c = on_ok_weaker c.take_in.result (λ is.
    each_newest g.F.Function.semantics c.args.self.now.live (records_of g.F.Function.semantics c.args.chunks) c.take_in.new.self.live (ap (λ t. t.live) is))
    c.take_in.ensures.table
