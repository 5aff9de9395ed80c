-- The bit of the end tells whether it was seen, and is set.
use Rattle.std.proofs.Common.{arith}
use Rattle.addr_translator.specs.Ends.{number_of}
use Rattle.addr_translator.proofs.SeenEnds.{is_fresh, sees_end}
use Rattle.addr_translator.proofs.ends.Ends.see.Goals as goal

pub returns-clause-fresh : goal.returns-clause-fresh
returns-clause-fresh c = rw c.number_of-number.ensures.value (is_fresh c.args.self.now.words (number_of c.args.end))

pub returns-clause-added : goal.returns-clause-added
returns-clause-added c = rw c.number_of-number.ensures.value (sees_end c.args.self.now.words c.args.end c.requires (omega arith))
