-- An error that is given back is no interruption.
use Rattle.std.proofs.Common.{sym, ◌∙◌}
use Rattle.nf_io.proofs.retry.read_retrying.Goals as goal

pub returns-in_default-clause-retried : goal.returns-in_default-clause-retried
returns-in_default-clause-retried g c = λ same. absurd (cc (rw (c.kind.ensures ∙ same) at (c.if-eq.ensures)))

pub returns-clause-retried : goal.returns-clause-retried
returns-clause-retried g c = λ same. absurd (cc (sym c.from.ensures ∙ same))
