-- What is made is what the command gives for its inputs, or the status has its row.
use Rattle.opennf_calls.proofs.Words.{err_from_is_err_and, asks_sim, network_view, scenario_of, gives}
use Rattle.opennf_calls.proofs.RunRows.{fails_row, sim_reads, sim_results}
use Rattle.opennf_calls.proofs.sim.make.Goals as goal

pub returns-in_err-inputs-clause-row : goal.returns-in_err-inputs-clause-row
returns-in_err-inputs-clause-row g c =
    let s = network_view c.args.asked.now in
    let failed = err_from_is_err_and c.from_residual.result c.from_residual.ensures.1 in
    rw (failed.1, failed.2)
    (fails_row s (asks_sim s c.args.schedule) (sim_reads s c.args.schedule) (g.O.Outside.seen c.args.outside.now)
    (g.O.Outside.seen c.read_inputs.new.outside) c.in_err-inputs.ensures.only c.requires c.in_err-inputs.field-0.0 c.in_err-inputs.ensures.given)

pub returns-clause-row : goal.returns-clause-row
returns-clause-row g c =
    let s = network_view c.args.asked.now in
    sim_results s (g.O.Outside.seen c.args.outside.now) (g.O.Outside.seen c.read_inputs.new.outside)
    (scenario_of c.args.asked.now.site c.in_ok-inputs.inputs) c.in_ok-inputs.ensures.given c.args.schedule (gives s c.in_ok-made.made) c.in_ok-made.ensures
