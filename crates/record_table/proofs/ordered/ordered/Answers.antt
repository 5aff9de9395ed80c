-- What was found, sorted by the units' numbers, is what the map lists.
use Rattle.std.proofs.Common.{map, ap, ◌∙◌, rules}
use Rattle.std.proofs.lemmas.Result.{IfOk-weaker}
use Rattle.std.proofs.lemmas.List.Sorted.{answers_always, All-permutation, IsPermutation-map}
use Rattle.std.specs.Option.{option_copied}
use Rattle.record_table.specs.Keeping.{IsNumbered, pairs_of}
use Rattle.record_table.proofs.InOrder.{sorted_is}
use Rattle.record_table.proofs.Numbers.{sorted_pairs}
use Rattle.record_table.proofs.ordered.ordered.Goals as goal

pub returns : goal.returns
returns g c =
    let before = c.in_ok-found.found.items in
    let after = c.sort_by_key.new.self.items in
    let moved = c.sort_by_key.ensures.permutation in
    let sorted = c.in_ok-sort_by_key.ensures.sorted (λ e. e.number) (answers_always _ _ _ (λ f a r f' q. search rules)) in
    let each = All-permutation IsNumbered before after moved c.in_ok-found.ensures.numbered in
    IfOk-weaker c.pairs_of.result _ _ (λ pairs is.
    ap (map (λ e. (e.0, e.1.now))) (is ∙ ap pairs_of c.deref.ensures.value)
    ∙ sorted_is (option_copied c.args.filter) (pairs_of before) (pairs_of after) c.args.entries.now c.requires.distinct c.in_ok-found.ensures.found
    (IsPermutation-map (λ e. (e.unit.now, e.record)) before after moved) (sorted_pairs after each sorted)) c.pairs_of.ensures
