-- A front of the bytes was appended so far.
use Rattle.std.proofs.Common.{length, ◌-◌, ◌≤◌, take}
use Rattle.std.specs.Io.KnownBytes.{Appends}
use Rattle.nf_io.specs.Meaning.{StaysOpen, untouched}
use Rattle.nf_io.proofs.transfers.write_all.Given as goal

abbrev pub invariant-loop-at : goal.invariant-loop-at
invariant-loop-at g l = record {
  within : l.at ≤ length l.bytes;
  appended : Appends (g.S.Sink.written l.initial.sink) (g.S.Sink.written l.sink) (take l.at l.bytes);
  later : g.S.Sink.faults l.initial.sink ≤ g.S.Sink.faults l.sink;
  stays : StaysOpen g.S.Sink.IsOpen (untouched g.S.Sink.loan g.S.Sink.rest) l.initial.sink l.sink;
}

abbrev pub decreases-loop-at : goal.decreases-loop-at
decreases-loop-at g l = length l.bytes - l.at
