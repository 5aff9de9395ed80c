-- Without a filter all records are listed.
use Rattle.std.proofs.Common.{ap, ◌∙◌}
use Rattle.std.proofs.lemmas.Result.{IfOk-weaker}
use Rattle.std.specs.FinMap as finite
use Rattle.record_table.proofs.InOrder.{all_taken}
use Rattle.record_table.proofs.table.Table.records.Goals as goal

pub returns : goal.returns
returns g c = IfOk-weaker c.ordered.result _ _ (λ found is. is ∙ ap finite.entries (all_taken c.part.result.now ∙ c.part.ensures)) c.ordered.ensures
