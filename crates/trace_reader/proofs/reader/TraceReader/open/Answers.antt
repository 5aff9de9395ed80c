-- The form is that of the first 24 bytes.
use Rattle.std.proofs.Common.{sym, ◌∙◌, arith, drop}
use Rattle.std.proofs.lemmas.Result.{err_from_is_err_and}
use Rattle.trace_reader.proofs.ReaderOpening.{opened_is, opened_rest, opened_fault}
use Rattle.trace_reader.proofs.reader.TraceReader.open.Goals as goal

pub returns-in_err-form-clause-form : goal.returns-in_err-form-clause-form
returns-in_err-form-clause-form g c = λ bytes told.
    let p = err_from_is_err_and c.from_residual-in_err-form.result c.from_residual-in_err-form.ensures.1 in
    let is = opened_is _ _ _ bytes _ c.in_ok-got.ensures.bytes told (omega (arith, c.fill.auto.buf)) in
    rw (p.1, p.2) (opened_fault bytes (drop 24 bytes) (g.S.Source.left c.fill.new.source) _ (sym is ∙ sym c.in_err-form.ensures.form))

pub returns-clause-form : goal.returns-clause-form
returns-clause-form g c = λ bytes told.
    let is = opened_is _ _ _ bytes _ c.in_ok-got.ensures.bytes told (omega (arith, c.fill.auto.buf)) in
    (sym is ∙ sym c.in_ok-form.ensures.form, opened_rest _ _ _ bytes _ c.in_ok-got.ensures.bytes told (omega (arith, c.fill.auto.buf)))
