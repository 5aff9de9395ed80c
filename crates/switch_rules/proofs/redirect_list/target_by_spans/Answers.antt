-- The sections near a place lead the flow's target on, and those up to the next place don't take it.
use Rattle.std.proofs.Common.{ap, sym, ◌∙◌, drop, arith}
use Rattle.std.specs.Prelude.{slice_range}
use Rattle.std.proofs.lemmas.List.Folds.{drop_split}
use Rattle.std.proofs.lemmas.List.Sums.{fold-append}
use Rattle.switch_rules.specs.Rules.{target_after}
use Rattle.switch_rules.specs.Sections.{target_after_sections}
use Rattle.switch_rules.proofs.redirect_list.target_by_spans.Goals as goal

pub loop-place-preserved : goal.loop-place-preserved
loop-place-preserved c =
    let sections = c.args.sections.now in let flow = c.args.flow in let place = c.loop-place.place in let end = c.min-end.result in
    record {
      some = omega (arith, c.saturating_mul-near.ensures, c.loop-place.invariant.some);
      same = c.next_place-place.ensures.same
          ∙ ap (target_after_sections (drop end sections) flow) c.target_after_sections-target.ensures
          ∙ sym (fold-append (λ target section. target_after section flow target) c.loop-place.target (slice_range sections place end) (drop end sections))
          ∙ sym (ap (λ xs. target_after_sections xs flow c.loop-place.target)
          (drop_split sections place end (omega (arith, c.min-end.ensures, c.saturating_add.ensures, c.loop-place-test.true))))
          ∙ c.loop-place.invariant.same;
    }
