-- A packet without payload that was at hand is the next one, and its record is taken.
use Rattle.std.proofs.Common.{◌+◌, ◌∙◌, Some, ap, drop, sym}
use Rattle.trace_reader.proofs.NextRecord.{skipped_ahead}
use Rattle.trace_reader.proofs.reader.TraceReader.next_bare.Goals as goal

pub returns-clause-answers : goal.returns-clause-answers
returns-clause-answers g c = λ bytes told.
    let begins = c.at_hand-ahead.ensures.next bytes told in
    let gives = c.in_ok-packet.ensures.gives bytes begins in
    let taken = rw (sym c.at_hand-ahead.ensures.bytes) at c.skip.ensures.bytes in
    let left = skipped_ahead _ _ bytes c.at_hand-ahead.result.now c.in_ok-packet.size told c.in_ok-packet.ensures.within taken in
    (gives.0, ap (λ m. c.args.self.now.place + m) gives.1, left ∙ ap (λ m. Some (drop m bytes)) gives.1)
