-- The report was written, whole or in part.
use Rattle.opennf_calls.proofs.Words.{asks_fail, fail_view}
use Rattle.opennf_calls.proofs.WrittenRuns.{fail_writes, report_performs}
use Rattle.opennf_calls.proofs.fail.fail.Goals as goal

pub returns-in-Ok : goal.returns-in-Ok
returns-in-Ok g c =
    report_performs (asks_fail (fail_view c.args.asked.now)) (g.O.Outside.seen c.args.outside.now) (g.O.Outside.seen c.make.new.outside)
    c.in-Ok.ensures.only c.requires c.in-Ok.made c.in-Ok.ensures.row (fail_writes (fail_view c.args.asked.now))
    (g.O.Outside.seen c.write_report.new.outside) c.write_report.result c.write_report.ensures
