-- The row of the command's status, seen from before its files were bound.
use Rattle.opennf_calls.proofs.Words.{rules, calm_view}
use Rattle.opennf_calls.proofs.EndedCommands.{ended, ended_unbound}
use Rattle.opennf_calls.proofs.top.perform_calm.Goals as goal

pub returns-in-Ok : goal.returns-in-Ok
returns-in-Ok g c =
    let old = c.args.outside.now in
    ended (calm_view c.args.asked.now) (g.O.Outside.shown old) (g.O.Outside.seen old)
    (g.O.Outside.seen c.bind_files.new.outside) (g.O.Outside.seen c.do_calm.new.outside)
    c.do_calm.result c.requires c.bind_files.ensures.binds (search rules) c.do_calm.ensures

pub returns-in-Err : goal.returns-in-Err
returns-in-Err g c =
    let old = c.args.outside.now in
    rw c.without_run.ensures
    (ended_unbound (calm_view c.args.asked.now) (g.O.Outside.shown old) (g.O.Outside.seen old)
    (g.O.Outside.seen c.bind_files.new.outside) c.requires c.bind_files.ensures.binds c.bind_files.ensures.names)
