-- A message that the table doesn't name leaves the copy as it is.
use Rattle.std.proofs.Common.{rules}
use Rattle.copy_share.proofs.OtherMessages.{other_of_destination}
use Rattle.copy_share.proofs.copy.CopyOp.kept.Goals as goal

pub returns-in_default : goal.returns-in_default
returns-in_default c = rw (other_of_destination c.args.self.now.plan c.args.message.now c.in_default.not-Kept) (search rules)
