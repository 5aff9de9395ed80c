-- The front is filled and the rest skipped, or the source ends before.
use Rattle.std.proofs.Common.{arith}
use Rattle.trace_reader.proofs.SourceReads.{body_short, body_rest}
use Rattle.trace_reader.proofs.takes.take_body.Goals as goal

pub returns-then-branch-front-clause-bytes : goal.returns-then-branch-front-clause-bytes
returns-then-branch-front-clause-bytes g c =
    body_short _ _ _ c.args.len _ c.in_ok-fill.ensures.bytes c.if-branch-front.true (omega (arith, c.fill.auto.buf))

pub returns-clause-bytes : goal.returns-clause-bytes
returns-clause-bytes g c =
    body_rest _ _ _ _ c.args.len _ _ c.in_ok-fill.ensures.bytes c.if-branch-front.false (omega (arith, c.fill.auto.buf)) c.in_ok-skip.ensures.bytes
