-- What is made is what the command gives for its inputs, or the status has its row.
use Rattle.opennf_calls.proofs.Words.{rules, Ok, Err, err_from_is_err_and, asks_audit, network_view, scenario_of, still_named}
use Rattle.opennf_calls.proofs.AuditRows.{audits_journal, told_row}
use Rattle.opennf_calls.proofs.JournalRows.{counted, journal_row, journal_told, only}
use Rattle.opennf_calls.proofs.RunRows.{audit_reads, fails_row}
use Rattle.opennf_calls.proofs.audit.make.Goals as goal

pub returns-in_err-inputs-clause-row : goal.returns-in_err-inputs-clause-row
returns-in_err-inputs-clause-row g c =
    let s = network_view c.args.asked.now.network in
    let failed = err_from_is_err_and c.from_residual.result c.from_residual.ensures.1 in
    rw (failed.1, failed.2)
    (fails_row s (asks_audit s) (audit_reads s) (g.O.Outside.seen c.args.outside.now) (g.O.Outside.seen c.read_inputs.new.outside)
    c.in_err-inputs.ensures.only c.requires c.in_err-inputs.field-0.0 c.in_err-inputs.ensures.given)

pub returns-in_err-choices-clause-row : goal.returns-in_err-choices-clause-row
returns-in_err-choices-clause-row g c =
    let s = network_view c.args.asked.now.network in
    let named = still_named c.args.asked.now.network.journal c.args.asked.now.has_journal in
    let failed = err_from_is_err_and c.from_residual-in_err-choices.result c.from_residual-in_err-choices.ensures.1 in
    rw (failed.1, failed.2)
    (journal_row s (asks_audit s) (audits_journal s named) (scenario_of c.args.asked.now.network.site c.in_ok-inputs.inputs)
    (g.O.Outside.seen c.args.outside.now)
    (g.O.Outside.seen c.read_inputs.new.outside) (g.O.Outside.seen c.read_choices.new.outside) c.requires c.in_ok-inputs.ensures.only
    c.in_ok-inputs.ensures.given c.in_err-choices.ensures.alone c.in_err-choices.field-0.0
    (counted s (g.O.Outside.seen c.read_inputs.new.outside) (g.O.Outside.seen c.read_choices.new.outside) (Err c.in_err-choices.field-0.0)
    c.len-count.result c.in_err-choices.ensures.journal (search rules)) c.in_err-choices.ensures.cause)

pub returns-clause-row : goal.returns-clause-row
returns-clause-row g c =
    let s = network_view c.args.asked.now.network in
    let named = still_named c.args.asked.now.network.journal c.args.asked.now.has_journal in
    let scenario = scenario_of c.args.asked.now.network.site c.in_ok-inputs.inputs in
    let old = g.O.Outside.seen c.args.outside.now in
    let mid = g.O.Outside.seen c.read_inputs.new.outside in
    let new = g.O.Outside.seen c.read_choices.new.outside in
    let answers = counted s mid new (Ok c.in_ok-choices.choices) c.len-count.result c.in_ok-choices.ensures.journal (search rules) in
    told_row (record { words = s; scenario = scenario; choices = c.in_ok-choices.choices }) old new c.requires
    (only s (asks_audit s) (audits_journal s named) scenario old mid new c.requires c.in_ok-inputs.ensures.only c.in_ok-inputs.ensures.given
    c.in_ok-choices.ensures.alone)
    (journal_told s (asks_audit s) (audits_journal s named) scenario old mid new c.requires c.in_ok-inputs.ensures.only c.in_ok-inputs.ensures.given
    c.in_ok-choices.ensures.alone
    c.in_ok-choices.choices answers) c.run_told.result c.run_told.ensures
