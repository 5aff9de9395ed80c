-- A take end's holder may take, and learns from an empty queue that nothing was left.
use Rattle.fifo_link.proofs.KnowledgeSteps.{takes, was_empty}
use Rattle.fifo_link.proofs.ends.TakeEnd.take.Goals as goal

pub pop_as-requires-clause-rule : goal.pop_as-requires-clause-rule
pop_as-requires-clause-rule g c = (takes _ _ c.self.invariant.1, was_empty _ _ c.self.invariant.1)
