-- A new queue keeps the protocol, its first holder may give the right to take away, and nothing was done yet.
use Rattle.std.proofs.Common.{rules}
use Rattle.fifo_link.proofs.TransferLemmas.{no_sent, no_taken}
use Rattle.fifo_link.proofs.KnowledgeSteps.{begins, forks}
use Rattle.fifo_link.proofs.ends.Link.open.Goals as goal

pub ruled-requires-clause-rule : goal.ruled-requires-clause-rule
ruled-requires-clause-rule g c = begins

pub another-taker-requires-clause-rule : goal.another-taker-requires-clause-rule
another-taker-requires-clause-rule g c = forks _ _ (search rules) (search rules)

pub returns-clause-done : goal.returns-clause-done
returns-clause-done g c = (no_sent _ (search rules), no_taken _ (search rules))
