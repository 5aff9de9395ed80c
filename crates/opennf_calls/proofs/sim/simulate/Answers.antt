-- What was made was written, or nothing was.
use Rattle.opennf_calls.proofs.Words.{asks_sim, network_view}
use Rattle.opennf_calls.proofs.WrittenRuns.{run_performs, sim_writes}
use Rattle.opennf_calls.proofs.sim.simulate.Goals as goal

pub returns-in-Ok : goal.returns-in-Ok
returns-in-Ok g c =
    run_performs (network_view c.args.asked.now) (asks_sim (network_view c.args.asked.now) c.args.schedule)
    (sim_writes (network_view c.args.asked.now) c.args.schedule)
    (g.O.Outside.seen c.args.outside.now) (g.O.Outside.seen c.make.new.outside) (g.O.Outside.seen c.write_results.new.outside)
    c.in-Ok.ensures.only c.requires c.in-Ok.made c.in-Ok.ensures.row c.write_results.result c.write_results.ensures
