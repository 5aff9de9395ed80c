-- A field up to the first comma, and then the others.
use Rattle.std.proofs.lemmas.Result.{err_from_is_err_and}
use Rattle.flow_filter.specs.FilterText.{fields_of}
use Rattle.flow_filter.proofs.ParsedFields.{one_field, first_wrong, first_field}
use Rattle.flow_filter.proofs.filter_text.+with_fields.Goals as goal

pub returns-in_err-with_field-in-Some : goal.returns-in_err-with_field-in-Some
returns-in_err-with_field-in-Some t c =
    let passed = err_from_is_err_and c.from_residual.result c.from_residual.ensures.1 in
    rw (passed.1, passed.2) (first_wrong (fields_of c.args.so_far) c.args.text.now c.in-Some.first.now c.in-Some.more.now
    c.in_err-with_field-in-Some.field-0.0 c.in-Some.ensures.value c.in_err-with_field-in-Some.ensures)

pub returns-in_ok-with_field-in-Some : goal.returns-in_ok-with_field-in-Some
returns-in_ok-with_field-in-Some t c =
    first_field (fields_of c.args.so_far) (fields_of c.in_ok-with_field-in-Some.field-0) c.args.text.now c.in-Some.first.now c.in-Some.more.now
    c.with_fields.result c.in-Some.ensures.value c.in_ok-with_field-in-Some.ensures c.with_fields.ensures

pub returns-in-None : goal.returns-in-None
returns-in-None t c = one_field (fields_of c.args.so_far) c.args.text.now c.with_field-in-None.result c.in-None.ensures.value c.with_field-in-None.ensures
