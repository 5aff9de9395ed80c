-- The table has what the map has.
use Rattle.std.proofs.Common.{sym, ap, ◌∙◌}
use Rattle.std.specs.FinMap as finite
use Rattle.ctrl_node.specs.Operations.{lasts}
use Rattle.ctrl_node.proofs.OperationLookUps.{get-view}
use Rattle.ctrl_node.proofs.operations.Operations.lasts.Goals as goal

pub returns-in-Some : goal.returns-in-Some
returns-in-Some c = c.lasts.ensures
    ∙ ap lasts (c.in-Some.ensures.value ∙ sym (get-view c.self.inside.by_number.entries c.args.op) ∙ ap (λ m. finite.get m c.args.op) c.self.view_is)

pub returns-in-None : goal.returns-in-None
returns-in-None c =
    ap lasts (c.in-None.ensures.value ∙ sym (get-view c.self.inside.by_number.entries c.args.op) ∙ ap (λ m. finite.get m c.args.op) c.self.view_is)
