-- What is left leads the flow's target so far to where all sections lead the first.
use Rattle.std.proofs.Common.{◌≡◌, ◌≤◌, ◌-◌, drop, length}
use Rattle.switch_rules.specs.Sections.{target_after_sections}
use Rattle.switch_rules.proofs.redirect_list.target_by_spans.Given as goal

abbrev pub invariant-loop-place : goal.invariant-loop-place
invariant-loop-place l = record {
  some : 1 ≤ l.near;
  same : target_after_sections (drop l.place l.sections) l.flow l.target ≡ target_after_sections l.sections l.flow l.fn.before;
}

abbrev pub decreases-loop-place : goal.decreases-loop-place
decreases-loop-place l = length l.sections - l.place
