-- What was sorted is the sort.
use Rattle.std.proofs.Common.{rules}
use Rattle.std.proofs.lemmas.List.Sorted.{answers_always}
use Rattle.nf_function.specs.Units.{unit_cmp}
use Rattle.nf_function.specs.UnitOrder.{units_total}
use Rattle.report_lines.specs.Seen.{record_seen}
use Rattle.report_lines.proofs.SortLemmas.{is_sort_seen}
use Rattle.report_lines.proofs.states.records_by_unit.Goals as goal

pub returns : goal.returns
returns g c =
    is_sort_seen record_seen (λ x. x.unit) unit_cmp units_total c.in_ok-found.found.items c.sort_by_key.new.self.items _ c.in_ok-found.ensures
    (c.in_ok-sort_by_key.ensures.sorted (λ x. x.unit) (answers_always _ _ _ (λ f a r f' q. search rules)))
    (c.in_ok-sort_by_key.ensures.stable (λ x. x.unit) (answers_always _ _ _ (λ f a r f' q. search rules)))
