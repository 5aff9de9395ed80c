-- What is made is what the command gives for its capture, or the status has its row.
use Rattle.opennf_calls.proofs.Words.{refl, err_from_is_err_and, asks_published, published_view}
use Rattle.network_calls.specs.UpdateRuns.{scene_of}
use Rattle.opennf_calls.proofs.CaptureRows.{capture_report, capture_row, update_reads}
use Rattle.opennf_calls.proofs.published.make.Goals as goal

pub returns-in_err-trace-clause-row : goal.returns-in_err-trace-clause-row
returns-in_err-trace-clause-row g c =
    let p = published_view c.args.asked.now in
    let failed = err_from_is_err_and c.from_residual.result c.from_residual.ensures.1 in
    rw (failed.1, failed.2)
    (capture_row (asks_published p c.args.schedule) (update_reads p c.args.schedule) (g.O.Outside.seen c.args.outside.now)
    (g.O.Outside.seen c.read_packets.new.outside) c.requires c.in_err-trace.ensures.alone c.in_err-trace.field-0.0 c.in_err-trace.ensures.trace
    c.in_err-trace.ensures.cause)

pub returns-clause-row : goal.returns-clause-row
returns-clause-row g c =
    let p = published_view c.args.asked.now in
    capture_report (asks_published p c.args.schedule) (update_reads p c.args.schedule) (g.O.Outside.seen c.args.outside.now)
    (g.O.Outside.seen c.read_packets.new.outside) c.requires c.in_ok-trace.ensures.alone c.in_ok-trace.trace c.in_ok-trace.ensures.trace c.in_ok-made.made
    (λ bytes read. record {
      scene = scene_of c.args.asked.now c.in_ok-trace.trace;
      is_scene = record { read = read; inside = refl; outside = refl; filter = refl };
      holds = c.in_ok-made.ensures;
    })
