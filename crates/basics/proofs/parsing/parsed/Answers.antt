-- Digits are UTF-8, so what isn't UTF-8 is no number.
use Rattle.basics.proofs.DecimalLemmas.{numeral_utf8}
use Rattle.basics.proofs.parsing.parsed.Goals as goal

pub returns-in-Err : goal.returns-in-Err
returns-in-Err c = λ numeral. c.in-Err.ensures.cases.0 (numeral_utf8 c.args.text.now numeral.0)
