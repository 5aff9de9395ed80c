-- What is a number begins as one does, and is what `decimal` writes of its value.
use Rattle.std.proofs.Common.{◌∙◌, sym, arith}
use Rattle.basics.proofs.DecimalLemmas.{parse_number-None, parse_number-decimal, decimal_plain, plain_decimal, no_decimal}
use Rattle.basics.proofs.parsing.parse_number.Goals as goal

pub returns-then-not-is_plain-clause-value : goal.returns-then-not-is_plain-clause-value
returns-then-not-is_plain-clause-value c = sym (parse_number-None c.args.most c.args.text.now (omega arith) (λ small is.
    let plain = c.is_plain.ensures.1 (decimal_plain _ c.args.text.now small is) in cc))

pub returns-in_err-value-clause-value : goal.returns-in_err-value-clause-value
returns-in_err-value-clause-value c =
    let plain = c.is_plain.ensures.0 c.if-not-is_plain.false in
    c.from_residual.ensures ∙ sym (parse_number-None c.args.most c.args.text.now (omega arith) (no_decimal c.args.text.now plain.1 c.in_err-value.ensures))

pub returns-clause-value : goal.returns-clause-value
returns-clause-value c =
    let plain = c.is_plain.ensures.0 c.if-not-is_plain.false in
    let is = plain_decimal c.args.text.now c.in_ok-value.value plain.0 plain.1 plain.2 c.in_ok-value.ensures in
    c.then_some.ensures ∙ sym (parse_number-decimal c.args.most c.in_ok-value.value c.args.text.now is.0 is.1)
