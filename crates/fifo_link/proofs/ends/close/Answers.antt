-- The send end's holder may take in the right to take.
use Rattle.fifo_link.proofs.KnowledgeSteps.{merges}
use Rattle.fifo_link.proofs.ends.close.Goals as goal

pub absorb-requires-clause-rule : goal.absorb-requires-clause-rule
absorb-requires-clause-rule g c = merges _ _ _ _ c.send.invariant.1 c.take.invariant.1
