-- A read gives the first of the bytes that are left.
use Rattle.std.proofs.Common.{rules}
use Rattle.nf_io.proofs.TransferLemmas.{front_moved}
use Rattle.nf_io.proofs.tape.Tape.read.Goals as goal

pub returns-clause-bytes : goal.returns-clause-bytes
returns-clause-bytes c =
    front_moved _ _ _ _ _ _ c.deref.ensures.value c.copy_from_slice.ensures.after (search rules)
