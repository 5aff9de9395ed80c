-- The table's entries are those of the map.
use Rattle.std.proofs.Common.{◌≡◌, rules, tests, sym, ap, ◌∙◌}
use Rattle.std.specs.Prelude.{find, option_map}
use Rattle.std.specs.Map.Iter.{deref_pair}
use Rattle.std.proofs.lemmas.Iterator.Search.{find_from_yields_List}
use Rattle.std.proofs.lemmas.Iterator.Consumers.{YieldsList-from_rest}
use Rattle.ctrl_node.specs.Operations.{is_shared_by, share_of}
use Rattle.ctrl_node.proofs.OperationLookUps.{entries-view}
use Rattle.ctrl_node.proofs.operations.Operations.first_share.Goals as goal

pub returns : goal.returns
returns c =
    let es = c.self.inside.by_number.entries in
    let first = find_from_yields_List (λ entry. is_shared_by c.args.flow.now entry.1) _ _ c.find.result c.find.ensures.ran
    (YieldsList-from_rest es c.iter.ensures.rest) (λ x b q k. search (rules, tests)) in
    let named : c.map.result ≡ option_map (λ entry. entry.0) (option_map deref_pair c.find.result) = search (rules, tests) in
    named
    ∙ ap (option_map (λ entry. entry.0)) (first ∙ ap (find (λ entry. is_shared_by c.args.flow.now entry.1)) (sym (entries-view es c.self.invariant.0)))
    ∙ ap (λ m. share_of m c.args.flow.now) c.self.view_is
