-- What is done is what the words ask for, with threads or without.
use Rattle.opennf_calls.proofs.Words.{rules, ◌≡◌, Some, map, string_bytes, as_named, asks_run, request_of, calm_view, network_view}
use Rattle.opennf_calls.proofs.EndedCommands.{ended_words}
use Rattle.opennf_calls.proofs.top.opennf_top.Goals as goal

pub returns-in-Run : goal.returns-in-Run
returns-in-Run g c =
    let request = request_of (map string_bytes c.args.words.now) in
    let shown = g.O.Outside.shown c.args.outside.now in
    let old = g.O.Outside.seen c.args.outside.now in
    let is : request ≡ Some (asks_run (network_view c.in-Run.asked)) = search rules in
    c.tell.ensures request shown old (ended_words request (asks_run (network_view c.in-Run.asked)) (as_named shown old
    (g.O.Outside.seen c.perform_run.new.outside)) (g.O.Outside.seen c.perform_run.new.outside) c.perform_run.result is c.perform_run.ensures)

pub returns-in-Calm : goal.returns-in-Calm
returns-in-Calm g c =
    let request = request_of (map string_bytes c.args.words.now) in
    let shown = g.O.Outside.shown c.args.outside.now in
    let old = g.O.Outside.seen c.args.outside.now in
    let is : request ≡ Some (calm_view c.in-Calm.asked) = search rules in
    c.tell-in-Calm.ensures request shown old (ended_words request (calm_view c.in-Calm.asked) (as_named shown old
    (g.O.Outside.seen c.perform_calm.new.outside)) (g.O.Outside.seen c.perform_calm.new.outside) c.perform_calm.result is c.perform_calm.ensures)
