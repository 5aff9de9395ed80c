-- The row of a run's status, seen from before its files were bound.
use Rattle.opennf_calls.proofs.Words.{rules, asks_run, network_view}
use Rattle.opennf_calls.proofs.EndedCommands.{ended, ended_unbound}
use Rattle.opennf_calls.proofs.top.perform_run.Goals as goal

pub returns-in-Ok : goal.returns-in-Ok
returns-in-Ok g c =
    let old = c.args.outside.now in
    ended (asks_run (network_view c.args.asked.now)) (g.O.Outside.shown old) (g.O.Outside.seen old)
    (g.O.Outside.seen c.bind_run.new.outside) (g.O.Outside.seen c.run.new.outside)
    c.run.result c.requires c.bind_run.ensures.binds (search rules) c.run.ensures

pub returns-in-Err : goal.returns-in-Err
returns-in-Err g c =
    let old = c.args.outside.now in
    rw c.without_run.ensures
    (ended_unbound (asks_run (network_view c.args.asked.now)) (g.O.Outside.shown old) (g.O.Outside.seen old)
    (g.O.Outside.seen c.bind_run.new.outside) c.requires c.bind_run.ensures.binds c.bind_run.ensures.names)
