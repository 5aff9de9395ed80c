-- A message that the table doesn't name leaves the copy as it is.
use Rattle.std.proofs.Common.{rules}
use Rattle.copy_share.proofs.OtherMessages.{other_of_source}
use Rattle.copy_share.proofs.copy.CopyOp.hand_on.Goals as goal

pub returns-in_default : goal.returns-in_default
returns-in_default c =
    let no = c.in_default in
    rw (other_of_source c.args.self.now.plan c.args.message no.not-Chunks no.not-AllChunk) (search rules)
