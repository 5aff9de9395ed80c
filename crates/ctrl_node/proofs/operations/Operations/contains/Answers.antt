-- The table has what the map has.
use Rattle.std.proofs.Common.{sym, ap, ◌∙◌, is_some}
use Rattle.std.specs.FinMap as finite
use Rattle.ctrl_node.proofs.OperationLookUps.{get-view}
use Rattle.ctrl_node.proofs.operations.Operations.contains.Goals as goal

pub returns : goal.returns
returns c = c.contains_key.ensures ∙ ap is_some (sym (get-view c.self.inside.by_number.entries c.args.op))
    ∙ ap (λ m. finite.contains_key m c.args.op) c.self.view_is
