-- What is made is what the command gives for its inputs, or the status has its row.
use Rattle.opennf_calls.proofs.Words.{rules, Ok, Err, err_from_is_err_and, asks_fail, fail_view, scenario_of, still_named}
use Rattle.opennf_calls.proofs.FailRows.{failed_row, fails_journal}
use Rattle.opennf_calls.proofs.JournalRows.{counted, journal_row, journal_told, only}
use Rattle.opennf_calls.proofs.RunRows.{fail_reads, fails_row}
use Rattle.opennf_calls.proofs.fail.make.Goals as goal

pub returns-in_err-inputs-clause-row : goal.returns-in_err-inputs-clause-row
returns-in_err-inputs-clause-row g c =
    let f = fail_view c.args.asked.now in
    let failed = err_from_is_err_and c.from_residual.result c.from_residual.ensures.1 in
    rw (failed.1, failed.2)
    (fails_row f.network (asks_fail f) (fail_reads f) (g.O.Outside.seen c.args.outside.now) (g.O.Outside.seen c.read_inputs.new.outside)
    c.in_err-inputs.ensures.only c.requires c.in_err-inputs.field-0.0 c.in_err-inputs.ensures.given)

pub returns-in_err-choices-clause-row : goal.returns-in_err-choices-clause-row
returns-in_err-choices-clause-row g c =
    let f = fail_view c.args.asked.now in
    let named = still_named c.args.asked.now.network.journal c.args.asked.now.has_journal in
    let failed = err_from_is_err_and c.from_residual-in_err-choices.result c.from_residual-in_err-choices.ensures.1 in
    rw (failed.1, failed.2)
    (journal_row f.network (asks_fail f) (fails_journal f named) (scenario_of c.args.asked.now.network.site c.in_ok-inputs.inputs)
    (g.O.Outside.seen c.args.outside.now) (g.O.Outside.seen c.read_inputs.new.outside) (g.O.Outside.seen c.read_choices.new.outside)
    c.requires c.in_ok-inputs.ensures.only c.in_ok-inputs.ensures.given c.in_err-choices.ensures.alone c.in_err-choices.field-0.0
    (counted f.network (g.O.Outside.seen c.read_inputs.new.outside) (g.O.Outside.seen c.read_choices.new.outside) (Err c.in_err-choices.field-0.0)
    c.len-count.result c.in_err-choices.ensures.journal (search rules)) c.in_err-choices.ensures.cause)

pub returns-clause-row : goal.returns-clause-row
returns-clause-row g c =
    let f = fail_view c.args.asked.now in
    let named = still_named c.args.asked.now.network.journal c.args.asked.now.has_journal in
    let scenario = scenario_of c.args.asked.now.network.site c.in_ok-inputs.inputs in
    let old = g.O.Outside.seen c.args.outside.now in
    let mid = g.O.Outside.seen c.read_inputs.new.outside in
    let new = g.O.Outside.seen c.read_choices.new.outside in
    let journal = fails_journal f named in
    let answers = counted f.network mid new (Ok c.in_ok-choices.choices) c.len-count.result c.in_ok-choices.ensures.journal (search rules) in
    failed_row f scenario c.in_ok-choices.choices old new c.requires
    (only f.network (asks_fail f) journal scenario old mid new c.requires c.in_ok-inputs.ensures.only c.in_ok-inputs.ensures.given
    c.in_ok-choices.ensures.alone)
    (journal_told f.network (asks_fail f) journal scenario old mid new c.requires c.in_ok-inputs.ensures.only c.in_ok-inputs.ensures.given
    c.in_ok-choices.ensures.alone c.in_ok-choices.choices answers) c.run_failed.result c.run_failed.ensures
