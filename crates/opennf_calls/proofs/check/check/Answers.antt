-- What the command did is known from what it read and what it wrote.
use Rattle.opennf_calls.proofs.Words.{ℕ, List, [], refl, subst, Script, asks_check, check_view, WroteReport, one_read}
use Rattle.opennf_calls.proofs.RowLemmas.{ends, one_file-check, report_alone}
use Rattle.opennf_calls.proofs.WrittenRuns.{report_performs}
use Rattle.opennf_calls.proofs.check.check.Goals as goal

pub returns-in-Err : goal.returns-in-Err
returns-in-Err g c = ends _ _ (one_read Script _ _ refl c.read_canonical.ensures.alone) _ _ c.in-Err.ensures.row

pub returns-in-Ok : goal.returns-in-Ok
returns-in-Ok g c =
    let asked = asks_check (check_view c.args.asked.now) in
    report_performs asked _ _ (one_read Script _ _ refl c.read_canonical.ensures.alone) c.requires (record { choices = []; report = c.in-Ok.text })
    c.in-Ok.ensures.row (report_alone asked Script (one_file-check (check_view c.args.asked.now)) refl) (g.O.Outside.seen c.put_report.new.outside)
    (record { status = c.put_report.result; choices = [] })
    (subst (λ (text : List ℕ). WroteReport (record { choices = []; report = text }) (g.O.Outside.seen c.read_canonical.new.outside)
    (g.O.Outside.seen c.put_report.new.outside) (record { status = c.put_report.result; choices = [] })) c.items.ensures c.put_report.ensures)
