-- A message that the table doesn't name leaves the move as it is.
use Rattle.std.proofs.Common.{rules}
use Rattle.move_op.specs.Phases.{phase_of}
use Rattle.move_op.proofs.OtherMessages.{other_of_source}
use Rattle.move_op.proofs.plan.Plan.from_source.Goals as goal

pub returns-in_default : goal.returns-in_default
returns-in_default c =
    let no = c.in_default in
    rw (other_of_source c.args.self.now (phase_of c.args.phase) _ c.args.message no.not-Enabled no.not-Piece no.not-Deleted no.not-Restored no.not-Event
    no.not-Fenced) (search rules)
