-- A read that a signal interrupted took nothing.
use Rattle.std.proofs.Common.{◌≡◌, length}
use Rattle.std.specs.Io.KnownBytes.{Keeps}
use Rattle.nf_io.proofs.retry.read_retrying.Given as goal

abbrev pub invariant-loop : goal.invariant-loop
invariant-loop g l = record {
  same_length : length l.buf ≡ length l.initial.buf;
  kept : Keeps (g.R.Read.remaining l.initial.file) (g.R.Read.remaining l.file);
}
