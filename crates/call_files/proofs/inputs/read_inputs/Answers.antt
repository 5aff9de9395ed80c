-- The inputs are those that are given, or the status has its cause.
use Rattle.std.proofs.Common.{refl}
use Rattle.std.proofs.lemmas.Result.{err_from_is_err_and}
use Rattle.command_words.specs.RequestViews.{network_view}
use Rattle.call_files.proofs.InputRows.{both_read, trace_fails}
use Rattle.call_files.proofs.inputs.read_inputs.Goals as goal

pub returns-in_err-trace-clause-given : goal.returns-in_err-trace-clause-given
returns-in_err-trace-clause-given g c =
    let failed = err_from_is_err_and c.from_residual-in_err-trace.result c.from_residual-in_err-trace.ensures.1 in
    rw (failed.1, failed.2)
    (trace_fails (network_view c.args.asked.now) _ _ c.in_ok-script.script c.in_ok-script.ensures.alone c.in_ok-script.ensures.said
    _ c.in_err-trace.ensures.alone c.in_err-trace.field-0.0 c.in_err-trace.ensures.trace c.in_err-trace.ensures.cause)

pub returns-clause-given : goal.returns-clause-given
returns-clause-given g c =
    both_read (network_view c.args.asked.now) _ _ c.in_ok-script.script c.in_ok-script.ensures.alone c.in_ok-script.ensures.said
    _ c.in_ok-trace.ensures.alone c.args.asked.now.site refl refl c.in_ok-trace.trace c.in_ok-trace.ensures.trace
