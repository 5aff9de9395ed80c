-- What was sorted is the sort.
use Rattle.std.proofs.Common.{rules, ap, ◌∙◌}
use Rattle.std.specs.Ordering.{nat_cmp}
use Rattle.std.specs.Cmp.{nat_cmp_total}
use Rattle.std.proofs.lemmas.List.Sorted.{answers_always}
use Rattle.report_lines.specs.Sorting.{sorted_by}
use Rattle.report_lines.proofs.SortLemmas.{is_sort}
use Rattle.report_lines.proofs.outs.outputs_by_number.Goals as goal

pub returns : goal.returns
returns c =
    is_sort (λ x. x.0) nat_cmp nat_cmp_total c.in_ok-found.found.items c.sort_by_key.new.self.items
    (c.in_ok-sort_by_key.ensures.sorted (λ x. x.0) (answers_always _ _ _ (λ f a r f' q. search rules)))
    (c.in_ok-sort_by_key.ensures.stable (λ x. x.0) (answers_always _ _ _ (λ f a r f' q. search rules)))
    ∙ ap (sorted_by (λ x. x.0) nat_cmp) c.in_ok-found.ensures
