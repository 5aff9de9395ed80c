-- The pieces of a text are its first piece and those after it.
use Rattle.basics.proofs.SplitLemmas.{split-Some, split-None}
use Rattle.basics.proofs.parsing.first_piece.Goals as goal

pub returns-in-Some-clause-pieces : goal.returns-in-Some-clause-pieces
returns-in-Some-clause-pieces c = split-Some c.args.separator c.args.text.now c.in-Some.first.now c.in-Some.more.now c.in-Some.ensures.value

pub returns-in-None-clause-pieces : goal.returns-in-None-clause-pieces
returns-in-None-clause-pieces c = split-None c.args.separator c.args.text.now c.in-None.ensures.value
