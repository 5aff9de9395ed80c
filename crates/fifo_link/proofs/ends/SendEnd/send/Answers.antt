-- A send end's holder may send, and learns from a full queue what it holds.
use Rattle.fifo_link.proofs.KnowledgeSteps.{sends, held_since}
use Rattle.fifo_link.proofs.ends.SendEnd.send.Goals as goal

pub push_as-requires-clause-rule : goal.push_as-requires-clause-rule
push_as-requires-clause-rule g c = (sends _ _ _ _ c.self.invariant.1, held_since _ _ c.self.invariant.1)
