-- What a run by threads ends with is what its words ask for.
use Rattle.opennf_calls.proofs.Words.{map, string_bytes, as_named, asks_run, request_of, network_view}
use Rattle.opennf_calls.proofs.EndedCommands.{ended_words}
use Rattle.opennf_calls.proofs.top.opennf_run.Goals as goal

pub returns-in-Ok : goal.returns-in-Ok
returns-in-Ok g c =
    let request = request_of (map string_bytes c.args.words.now) in
    let shown = g.O.Outside.shown c.args.outside.now in
    let old = g.O.Outside.seen c.args.outside.now in
    c.tell.ensures request shown old (ended_words request (asks_run (network_view c.in-Ok.asked)) (as_named shown old
    (g.O.Outside.seen c.perform_run.new.outside)) (g.O.Outside.seen c.perform_run.new.outside) c.perform_run.result c.in-Ok.ensures c.perform_run.ensures)
