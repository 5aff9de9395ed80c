-- What was read so far, and that the keeper has it. Each record makes the place grow.
use Rattle.std.proofs.Common.{◌≡◌, ◌-◌, ◌*◌, ◌^◌, ◌≤◌, None}
use Rattle.nf_io.specs.Meaning.{StaysOpen, untouched}
use Rattle.trace_reader.specs.Answers.{reading_of}
use Rattle.trace_reader.proofs.KeeperSoFar.{ReadSoFar}
use Rattle.trace_reader.proofs.trace.read_into.Given as goal

abbrev pub invariant-records : goal.invariant-records
invariant-records g l = record {
  running : l.reader.stop ≡ None;
  few : 16 * l.skipped ≤ l.reader.place;
  read : ReadSoFar g.K.Keeper.HasKept (g.S.Source.left l.fn.source) l.fn.keeper l.keeper (reading_of l.reader (g.S.Source.left l.source)) l.skipped;
  later : g.S.Source.faults l.fn.source ≤ g.S.Source.faults l.source;
  stays : StaysOpen g.S.Source.IsOpen (untouched g.S.Source.loan g.S.Source.rest) l.fn.source l.source;
}

abbrev pub decreases-records : goal.decreases-records
decreases-records g l = 2 ^ 32 - l.reader.place
