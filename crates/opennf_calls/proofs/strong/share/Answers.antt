-- What was made was written, or nothing was.
use Rattle.opennf_calls.proofs.Words.{refl, Trace, asks_strong, strong_view}
use Rattle.opennf_calls.proofs.RowLemmas.{report_alone}
use Rattle.opennf_calls.proofs.CaptureRows.{sharing_reads}
use Rattle.opennf_calls.proofs.WrittenRuns.{report_performs}
use Rattle.opennf_calls.proofs.strong.share.Goals as goal

pub returns-in-Ok : goal.returns-in-Ok
returns-in-Ok g c =
    let s = strong_view c.args.asked.now in
    report_performs (asks_strong s c.args.schedule) (g.O.Outside.seen c.args.outside.now) (g.O.Outside.seen c.make.new.outside) c.in-Ok.ensures.only c.requires
    c.in-Ok.made c.in-Ok.ensures.row (report_alone (asks_strong s c.args.schedule) Trace (sharing_reads s c.args.schedule).one refl)
    (g.O.Outside.seen c.write_report.new.outside) c.write_report.result c.write_report.ensures
