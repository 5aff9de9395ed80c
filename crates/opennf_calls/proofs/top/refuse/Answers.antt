-- The end of words that were refused, whatever they ask for.
use Rattle.std.proofs.Common.{rules}
use Rattle.opennf_calls.proofs.EndedCommands.{refused_words}
use Rattle.opennf_calls.proofs.top.refuse.Goals as goal

pub returns : goal.returns
returns g c = λ request refuses.
    let shown = g.O.Outside.shown c.args.outside.now in
    let old = g.O.Outside.seen c.args.outside.now in
    c.tell.ensures request shown old (refused_words request shown old c.args.fault c.without_run.result refuses c.requires (search rules))
