-- A record that is at hand whole is the next one.
use Rattle.std.proofs.Common.{Some, drop, ap, sym, ◌∙◌, rules, Ok, ◌+◌}
use Rattle.std.proofs.lemmas.Result.{err_from_is_err_and}
use Rattle.trace_reader.specs.Answers.{count_after, reading}
use Rattle.trace_reader.proofs.NextRecord.{gives_at_hand, skipped_ahead, gives_fault, gives_record}
use Rattle.trace_reader.proofs.record.read_record.Goals as goal

pub returns-in_err-next-clause-answers : goal.returns-in_err-next-clause-answers
returns-in_err-next-clause-answers g c = λ bytes told.
    let gives = gives_at_hand c.args.form c.args.place c.args.count c.in-Some.len bytes c.at_hand-ahead.result.now _
    (c.at_hand-ahead.ensures.next bytes told) c.in-Some.ensures (search rules) c.in_err-next.ensures.bytes in
    let p = err_from_is_err_and c.from_residual.result c.from_residual.ensures.1 in
    rw (p.1, p.2) (gives_fault (reading c.args.form c.args.place c.args.count (g.S.Source.left c.args.source.now)) bytes
    (reading c.args.form (c.args.place + 0) c.args.count (g.S.Source.left c.args.source.now)) _ (gives.0 ∙ sym c.in_err-next.ensures.gives))

pub returns-clause-answers : goal.returns-clause-answers
returns-clause-answers g c = λ bytes told.
    let gives = gives_at_hand c.args.form c.args.place c.args.count c.in-Some.len bytes c.at_hand-ahead.result.now _
    (c.at_hand-ahead.ensures.next bytes told) c.in-Some.ensures (search rules) c.in_ok-next.ensures.bytes in
    let taken = rw (sym c.at_hand-ahead.ensures.bytes) at c.skip.ensures.bytes in
    let left = skipped_ahead _ _ bytes c.at_hand-ahead.result.now (16 + c.in-Some.len) told c.in-Some.ensures.2 taken in
    gives_record (reading c.args.form c.args.place c.args.count (g.S.Source.left c.args.source.now)) (count_after c.args.count (Ok c.in_ok-next.next))
    c.in-Some.len bytes _ c.in_ok-next.next
    (gives.0 ∙ sym c.in_ok-next.ensures.gives) c.in_ok-next.ensures.fits gives.1 (left ∙ ap (λ m. Some (drop m bytes)) gives.1)
