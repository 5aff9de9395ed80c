-- There is room for each record that comes.
use Rattle.std.proofs.Common.{ap, arith}
use Rattle.std.proofs.lemmas.Result.{on_ok_weaker}
use Rattle.std.specs.FinMap as finite
use Rattle.nf_function.specs.Records.{newest}
use Rattle.record_table.specs.Chunks.{records_of}
use Rattle.record_table.proofs.RecordLookUps.{len-joined}
use Rattle.record_table.proofs.ChunkFronts.{few_records}
use Rattle.record_table.proofs.table.Table.import.Goals as goal

pub returns-clause-within : goal.returns-clause-within
returns-clause-within g c = on_ok_weaker c.restore.result (λ is.
    let f = g.F.Function.semantics in
    let few = len-joined (newest f) c.args.self.now.live (records_of f c.args.chunks) in
    omega (
      arith,
      ap (λ t. finite.len t.live) is,
      few,
      few_records f c.args.chunks,
      c.live_count-held.ensures,
      c.from.ensures,
      c.from-2.ensures,
      c.from-3.ensures,
      c.if-from.false,
    )) c.restore.ensures.table
