-- Bytes at hand are the first of those that a file has left.
use Rattle.nf_io.proofs.TransferLemmas.{prepended_less}
use Rattle.nf_io.proofs.stream.Stream.skip.Goals as goal

pub returns-clause-left : goal.returns-clause-left
returns-clause-left g c = λ remaining told. rw c.skip.ensures (prepended_less _ _ _)
