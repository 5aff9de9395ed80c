-- A list is empty where its length is 0.
use Rattle.std.proofs.Common.{rules}
use Rattle.move_op.proofs.EmptyLists.{nil_by_length}
use Rattle.move_op.proofs.pieces.Pieces.is_empty.Goals as goal

pub returns : goal.returns
returns c = rw (← nil_by_length c.args.self.now) (search rules)
