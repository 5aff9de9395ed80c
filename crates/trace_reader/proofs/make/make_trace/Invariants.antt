-- What was written so far, and the records still to come.
use Rattle.std.proofs.Common.{◌≤◌, ◌-◌}
use Rattle.nf_io.specs.Meaning.{StaysOpen, untouched}
use Rattle.trace_reader.specs.Generated.{capture}
use Rattle.trace_reader.proofs.MadeSoFar.{MadeSoFar, rest_of}
use Rattle.trace_reader.proofs.make.make_trace.Given as goal

abbrev pub invariant-loop-made : goal.invariant-loop-made
invariant-loop-made g l = record {
  within : l.made ≤ l.packets;
  so_far : MadeSoFar (capture l.number l.packets l.hosts) (rest_of l.packets l.hosts l.made l.words) (g.S.Sink.written l.fn.sink) (g.S.Sink.written l.sink);
  later : g.S.Sink.faults l.fn.sink ≤ g.S.Sink.faults l.sink;
  stays : StaysOpen g.S.Sink.IsOpen (untouched g.S.Sink.loan g.S.Sink.rest) l.fn.sink l.sink;
}

abbrev pub decreases-loop-made : goal.decreases-loop-made
decreases-loop-made g l = l.packets - l.made
