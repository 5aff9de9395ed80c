-- The front of the buffer holds what the source gave so far.
use Rattle.std.proofs.Common.{◌≤◌, ◌-◌, length, take}
use Rattle.std.specs.Io.KnownBytes.{Consumes}
use Rattle.nf_io.specs.Meaning.{StaysOpen, untouched}
use Rattle.trace_reader.proofs.takes.fill.Given as goal

abbrev pub invariant-loop-at : goal.invariant-loop-at
invariant-loop-at g l = record {
  within : l.at ≤ length l.buf;
  taken : Consumes (g.S.Source.left l.initial.source) (g.S.Source.left l.source) (take l.at l.buf);
  later : g.S.Source.faults l.initial.source ≤ g.S.Source.faults l.source;
  stays : StaysOpen g.S.Source.IsOpen (untouched g.S.Source.loan g.S.Source.rest) l.initial.source l.source;
}

abbrev pub decreases-loop-at : goal.decreases-loop-at
decreases-loop-at g l = length l.initial.buf - l.at
