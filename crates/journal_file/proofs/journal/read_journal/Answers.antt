-- What is read has one spelling.
use Rattle.std.proofs.Common.{arith}
use Rattle.journal_file.proofs.OneSpelling.{given_spelled}
use Rattle.journal_file.proofs.journal.read_journal.Goals as goal

pub returns-clause-spelled : goal.returns-clause-spelled
returns-clause-spelled c =
    given_spelled c.args.kind c.args.instances c.args.bytes.now c.journal_of.result (λ i. omega (arith, c.type_inv.bytes i)) c.journal_of.ensures
