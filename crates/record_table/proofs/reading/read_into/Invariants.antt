-- What was read so far are the records of the chunks so far, each of which is good.
use Rattle.std.proofs.Common.{◌≡◌, true, take}
use Rattle.record_table.specs.Table.{AreSound}
use Rattle.record_table.specs.Chunks.{records_of, are_good}
use Rattle.record_table.proofs.reading.read_into.Given as goal

abbrev pub invariant-loop-index : goal.invariant-loop-index
invariant-loop-index g l = record {
  records : l.records ≡ records_of g.F.Function.semantics (take l.index l.chunks);
  good : are_good g.F.Function.semantics (take l.index l.chunks) ≡ true;
  sound : AreSound g.F.Function.semantics l.records;
}
