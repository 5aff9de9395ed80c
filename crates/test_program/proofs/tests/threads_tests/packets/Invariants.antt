-- The packets so far are numbered from 1, and there are as many as numbers so far.
use Rattle.std.proofs.Common.{◌≡◌, true, length, All}
use Rattle.nf_function.specs.Units.{is_transport}
use Rattle.trace_reader.specs.Records.{AreNumbered}
use Rattle.test_program.proofs.tests.threads_tests.packets.Given as goal

abbrev pub invariant-loop-number : goal.invariant-loop-number
invariant-loop-number l = record {
  numbers : AreNumbered 1 l.packets;
  count : length l.packets ≡ l.number;
  steered : All (λ packet. is_transport packet.proto ≡ true) l.packets;
}
