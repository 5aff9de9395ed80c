-- A message that the table doesn't name leaves the share as it is.
use Rattle.std.proofs.Common.{rules}
use Rattle.copy_share.proofs.OtherMessages.{other_of_member}
use Rattle.copy_share.proofs.share.ShareOp.on.Goals as goal

pub returns-in_default : goal.returns-in_default
returns-in_default c =
    let no = c.in_default in
    rw (other_of_member c.args.self.now c.args.sender c.args.message no.not-Fenced no.not-Chunks no.not-Shared no.not-Synced) (search rules)
