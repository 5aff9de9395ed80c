-- What was made was written, or nothing was.
use Rattle.opennf_calls.proofs.Words.{refl, Trace, asks_published, published_view}
use Rattle.opennf_calls.proofs.RowLemmas.{report_alone}
use Rattle.opennf_calls.proofs.CaptureRows.{update_reads}
use Rattle.opennf_calls.proofs.WrittenRuns.{report_performs}
use Rattle.opennf_calls.proofs.published.publish.Goals as goal

pub returns-in-Ok : goal.returns-in-Ok
returns-in-Ok g c =
    let p = published_view c.args.asked.now in
    report_performs (asks_published p c.args.schedule) (g.O.Outside.seen c.args.outside.now) (g.O.Outside.seen c.make.new.outside) c.in-Ok.ensures.only
    c.requires
    c.in-Ok.made c.in-Ok.ensures.row (report_alone (asks_published p c.args.schedule) Trace (update_reads p c.args.schedule).one refl)
    (g.O.Outside.seen c.write_report.new.outside) c.write_report.result c.write_report.ensures
