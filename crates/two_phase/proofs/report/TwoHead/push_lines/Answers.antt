-- The lines at the top, put together.
use Rattle.std.specs.Prelude.{codes, OnOk}
use Rattle.std.proofs.Common.{◌≡◌, ◌++◌, ap, ◌∙◌, subst}
use Rattle.report_lines.specs.Lines.{function_line, trace_line}
use Rattle.two_phase.specs.Report.{head_lines}
use Rattle.two_phase.proofs.SentMessages.{three_after}
use Rattle.two_phase.proofs.report.TwoHead.push_lines.Goals as goal

pub returns : goal.returns
unfolding head_lines
returns c =
    let head = c.args.self.now in
    let trace = trace_line head.packets head.skipped head.cut in
    let line = function_line head.kind 2 head.window in
    let first = c.in_ok-push_bytes.ensures.ok in
    let second = c.in_ok-push_function_line.ensures in
    let third = c.push_trace_line.ensures in
    three_after c.push_trace_line.result c.push_trace_line.new.text c.args.text.now (codes "opennf published 1\n") line trace
    (subst (λ l. OnOk c.push_trace_line.result (c.push_trace_line.new.text ≡ l ++ trace)) (second ∙ ap (λ l. l ++ line) first) third)
