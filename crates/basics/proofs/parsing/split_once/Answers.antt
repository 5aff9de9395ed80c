-- A text is split at the first place of the separator.
use Rattle.std.proofs.Common.{◌∙◌, sym, refl}
use Rattle.basics.proofs.SplitLemmas.{split_once-Some, split_once-None}
use Rattle.basics.proofs.parsing.split_once.Goals as goal

pub returns-clause-value : goal.returns-clause-value
returns-clause-value c = split_once-Some c.args.separator c.args.text.now c.in_ok-at.at (sym c.first_place.ensures ∙ c.in_ok-at.was)

pub returns-in_err-at-clause-value : goal.returns-in_err-at-clause-value
returns-in_err-at-clause-value c =
    let nothing = split_once-None c.args.separator c.args.text.now (sym c.first_place.ensures ∙ c.in_err-at.was) in
    rw (c.from_residual.ensures, nothing) refl
