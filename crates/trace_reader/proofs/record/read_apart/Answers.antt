-- A record that is read in parts is the next one.
use Rattle.std.proofs.Common.{◌≡◌, ◌+◌, None, Ok, sym, subst, add-zero, ◌∙◌, arith, rules}
use Rattle.std.proofs.lemmas.Result.{err_from_is_err_and}
use Rattle.trace_reader.proofs.NextRecord.{head_taken, gives_end, gives_short, gives_long, gives_cut, gives_whole, gives_fault, gives_record}
use Rattle.trace_reader.specs.Answers.{Advances, count_after, reading}
use Rattle.trace_reader.proofs.record.read_apart.Goals as goal

pub returns-then-got-eq0-clause-answers : goal.returns-then-got-eq0-clause-answers
returns-then-got-eq0-clause-answers g c = λ bytes told.
    let gives = gives_end c.args.form c.args.place c.args.count _ _ _ bytes _ c.in_ok-got.ensures.bytes told (omega (arith, c.fill.auto.buf))
    c.if-got-eq0.true in
    (gives.0, add-zero c.args.place, gives.1)

pub returns-then-got-lt16-clause-answers : goal.returns-then-got-lt16-clause-answers
returns-then-got-lt16-clause-answers g c = λ bytes told.
    let gives = gives_short c.args.form c.args.place c.args.count _ _ _ bytes _ c.in_ok-got.ensures.bytes told (omega (arith, c.fill.auto.buf))
    c.if-got-eq0.false c.if-got-lt16.true in
    (gives.0, add-zero c.args.place, gives.1)

pub returns-then-captured-gt-MOST_CAPTURED-clause-answers :
    goal.returns-then-captured-gt-MOST_CAPTURED-clause-answers
returns-then-captured-gt-MOST_CAPTURED-clause-answers g c = λ bytes told.
    let head = head_taken _ _ _ bytes _ c.in_ok-got.ensures.bytes told (omega (arith, c.fill.auto.buf)) c.if-got-lt16.false in
    gives_long c.args.form c.args.place c.args.count _ _ _ bytes head c.captured-captured.ensures c.if-captured-gt-MOST_CAPTURED.true

pub returns-then-not-branch-clause-answers : goal.returns-then-not-branch-clause-answers
returns-then-not-branch-clause-answers g c = λ bytes told.
    let head = head_taken _ _ _ bytes _ c.in_ok-got.ensures.bytes told (omega (arith, c.fill.auto.buf)) c.if-got-lt16.false in
    let gives = gives_cut c.args.form c.args.place c.args.count _ _ _ _ _ bytes head c.captured-captured.ensures c.if-captured-gt-MOST_CAPTURED.false _
    c.in_ok-take_body.ensures.bytes (search rules) in
    (gives.0, add-zero c.args.place, gives.1)

pub returns-in_err-next-clause-answers : goal.returns-in_err-next-clause-answers
returns-in_err-next-clause-answers g c = λ bytes told.
    let head = head_taken _ _ _ bytes _ c.in_ok-got.ensures.bytes told (omega (arith, c.fill.auto.buf)) c.if-got-lt16.false in
    let gives = gives_whole c.args.form c.args.place c.args.count _ _ _ _ c.take_body.new.front bytes head c.captured-captured.ensures
    c.if-captured-gt-MOST_CAPTURED.false (search rules) c.in_err-next.ensures.bytes _ c.in_ok-take_body.ensures.bytes (search rules) in
    let p = err_from_is_err_and c.from_residual-in_err-next.result c.from_residual-in_err-next.ensures.1 in
    rw (p.1, p.2) (gives_fault (reading c.args.form c.args.place c.args.count (g.S.Source.left c.args.source.now)) bytes
    (reading c.args.form (c.args.place + 0) c.args.count (g.S.Source.left c.take_body.new.source)) _ (gives.0 ∙ sym c.in_err-next.ensures.gives))

pub returns-clause-answers : goal.returns-clause-answers
returns-clause-answers g c = λ bytes told.
    let head = head_taken _ _ _ bytes _ c.in_ok-got.ensures.bytes told (omega (arith, c.fill.auto.buf)) c.if-got-lt16.false in
    let gives = gives_whole c.args.form c.args.place c.args.count _ _ _ _ c.take_body.new.front bytes head c.captured-captured.ensures
    c.if-captured-gt-MOST_CAPTURED.false (search rules) c.in_ok-next.ensures.bytes _ c.in_ok-take_body.ensures.bytes (search rules) in
    let size : 16 + c.from-size.result ≡ 16 + c.captured-captured.result = omega arith in
    gives_record (reading c.args.form c.args.place c.args.count (g.S.Source.left c.args.source.now)) (count_after c.args.count (Ok c.in_ok-next.next))
    c.from-size.result bytes _ c.in_ok-next.next (gives.0 ∙ sym c.in_ok-next.ensures.gives)
    (subst (λ m. Advances (reading c.args.form c.args.place c.args.count None)
    (reading c.args.form (c.args.place + m) (count_after c.args.count (Ok c.in_ok-next.next)) None) (Ok c.in_ok-next.next))
    (sym size) c.in_ok-next.ensures.fits) (size ∙ gives.1) gives.2
