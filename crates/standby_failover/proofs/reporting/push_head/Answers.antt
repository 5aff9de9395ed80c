-- The three lines come one after another.
use Rattle.std.proofs.Common.{◌++◌, append_assoc, codes, length, ap, ◌∙◌}
use Rattle.std.proofs.lemmas.Result.{on_ok_weaker}
use Rattle.report_lines.specs.Lines.{function_line, trace_line}
use Rattle.standby_failover.specs.Lines.{head_lines}
use Rattle.standby_failover.proofs.reporting.push_head.Goals as goal

pub returns : goal.returns
unfolding head_lines
returns c =
    let head = c.args.head.now in
    let start = c.args.text.now ++ codes "opennf failover 1\n" in
    let trace = trace_line head.packets head.skipped head.cut in
    let function = function_line head.kind (length head.names) head.window in
    on_ok_weaker c.push_trace_line.result (λ is. is
    ∙ ap (λ t. t ++ trace) (c.in_ok-push_function_line.ensures
    ∙ ap (λ ns. c.push_bytes.new.self ++ function_line head.kind (length ns) head.window) c.items.ensures
    ∙ ap (λ t. t ++ function) c.in_ok-push_bytes.ensures.ok)
    ∙ append_assoc start function trace ∙ append_assoc c.args.text.now (codes "opennf failover 1\n") (function ++ trace)) c.push_trace_line.ensures
