-- Steps between code and definition, which nobody has to believe: which shares are noted by the masks of their filters.
use Rattle.std.specs.Prelude.{◌≡◌, ℕ, true, List, Some}
use Rattle.std.specs.FinMap as finite
use Rattle.flow_filter.specs.declared.filter.Filter.{Filter}
use Rattle.switch_rules.specs.declared.span_group.SpanGroup.{SpanGroup}
use Rattle.switch_rules.specs.declared.target.Target.TheVariants.{Controller}
use Rattle.switch_rules.specs.Spans.{is_noted}
use Rattle.ctrl_node.specs.declared.operation.Operation.{Operation}
use Rattle.ctrl_node.specs.Operations.{OpenOperations, share_filter}

-- each open share is noted at its number: it takes the flows that go to the controller
abbrev pub AreNoted : List SpanGroup → OpenOperations → Type 0
AreNoted groups operations = (op : ℕ) (operation : Operation) (f : Filter) → finite.get operations op ≡ Some operation → share_filter operation ≡ Some f
    → is_noted groups op f Controller ≡ true
