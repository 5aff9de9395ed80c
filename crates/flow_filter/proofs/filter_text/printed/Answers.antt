-- Five fields, one after another, from no text on.
use Rattle.std.proofs.Common.{◌++◌, ◌∙◌, ap, rules}
use Rattle.flow_filter.specs.FilterText.{print, pieces, joined}
use Rattle.flow_filter.proofs.PrintedPieces.{write_fields, written_some, written_none}
use Rattle.flow_filter.proofs.PrintedFilters.{parse-print}
use Rattle.flow_filter.proofs.filter_text.printed.Goals as goal

pub returns-then-not-begun-clause-text : goal.returns-then-not-begun-clause-text
unfolding print
returns-then-not-begun-clause-text c = c.push_str.ensures.bytes ∙ written_none _ _ _ _ (write_fields c.args.filter _ _ _ _ _ _ _ _ _ _ _
    (c.print_proto-begun.ensures.begun, c.print_proto-begun.ensures.text) (c.print_prefix-begun.ensures.begun, c.print_prefix-begun.ensures.text)
    (c.print_port-begun.ensures.begun, c.print_port-begun.ensures.text) (c.print_prefix-begun-2.ensures.begun, c.print_prefix-begun-2.ensures.text)
    (c.print_port-begun-2.ensures.begun, c.print_port-begun-2.ensures.text)) c.if-not-begun.true
    ∙ ap (λ t. t ++ joined (pieces c.args.filter)) c.new-out.ensures

pub returns-else-not-begun-clause-text : goal.returns-else-not-begun-clause-text
unfolding print
returns-else-not-begun-clause-text c = written_some _ _ _ _ (write_fields c.args.filter _ _ _ _ _ _ _ _ _ _ _
    (c.print_proto-begun.ensures.begun, c.print_proto-begun.ensures.text) (c.print_prefix-begun.ensures.begun, c.print_prefix-begun.ensures.text)
    (c.print_port-begun.ensures.begun, c.print_port-begun.ensures.text) (c.print_prefix-begun-2.ensures.begun, c.print_prefix-begun-2.ensures.text)
    (c.print_port-begun-2.ensures.begun, c.print_port-begun-2.ensures.text)) c.if-not-begun.false
    ∙ ap (λ t. t ++ joined (pieces c.args.filter)) c.new-out.ensures

pub returns-then-not-begun-clause-again : goal.returns-then-not-begun-clause-again
returns-then-not-begun-clause-again c = parse-print c.args.filter (search rules) c.requires

pub returns-else-not-begun-clause-again : goal.returns-else-not-begun-clause-again
returns-else-not-begun-clause-again c = parse-print c.args.filter (search rules) c.requires
