-- A packet without payload that is at hand whole is the next one.
use Rattle.std.proofs.Common.{◌∙◌, rules}
use Rattle.trace_reader.proofs.NextRecord.{gives_at_hand}
use Rattle.trace_reader.proofs.record.bare_at_hand.Goals as goal

pub returns-clause-gives : goal.returns-clause-gives
returns-clause-gives c = λ bytes begins.
    let gives = gives_at_hand c.args.form c.args.place c.args.count c.in_ok-len.len bytes c.args.ahead.now _ begins c.in_ok-len.ensures (search rules)
    c.in_ok-packet.ensures.bytes in
    (gives.0 ∙ c.in_ok-packet.ensures.gives, gives.1)
