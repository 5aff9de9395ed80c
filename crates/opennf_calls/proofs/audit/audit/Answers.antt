-- The report was written, whole or in part.
use Rattle.opennf_calls.proofs.Words.{asks_audit, network_view}
use Rattle.opennf_calls.proofs.WrittenRuns.{audit_writes, run_report_performs}
use Rattle.opennf_calls.proofs.audit.audit.Goals as goal

pub returns-in-Ok : goal.returns-in-Ok
returns-in-Ok g c =
    run_report_performs (network_view c.args.asked.now.network) (asks_audit (network_view c.args.asked.now.network))
    (g.O.Outside.seen c.args.outside.now) (g.O.Outside.seen c.make.new.outside)
    c.in-Ok.ensures.only c.requires c.in-Ok.made c.in-Ok.ensures.row (audit_writes (network_view c.args.asked.now.network))
    (g.O.Outside.seen c.write_report.new.outside) c.write_report.result c.write_report.ensures
