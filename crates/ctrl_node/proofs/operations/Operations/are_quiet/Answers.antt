-- The table's entries are those of the map.
use Rattle.std.proofs.Common.{rules, tests, sym, ap, ◌∙◌}
use Rattle.std.specs.List.{list_all}
use Rattle.std.specs.Map.{values_of}
use Rattle.std.proofs.lemmas.Iterator.Search.{all_from_yields_List}
use Rattle.std.proofs.lemmas.Iterator.Consumers.{YieldsList-from_rest}
use Rattle.std.proofs.lemmas.List.Folds.{list_all-map}
use Rattle.ctrl_node.specs.Operations.{is_quiet, are_quiet}
use Rattle.ctrl_node.proofs.OperationLookUps.{entries-view}
use Rattle.ctrl_node.proofs.operations.Operations.are_quiet.Goals as goal

pub returns : goal.returns
returns c =
    let es = c.self.inside.by_number.entries in
    let quiet = is_quiet c.args.store.now in
    all_from_yields_List quiet _ _ c.all.result c.all.ensures.ran (YieldsList-from_rest (values_of es) c.values.ensures.rest) (λ x b q k. search (rules, tests))
    ∙ list_all-map quiet (λ entry. entry.1) es
    ∙ ap (list_all (λ entry. quiet entry.1)) (sym (entries-view es c.self.invariant.0)) ∙ ap (λ m. are_quiet m c.args.store.now) c.self.view_is
