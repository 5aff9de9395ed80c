-- The first of the places that the groups so far tell.
use Rattle.std.proofs.Common.{◌≡◌, ℕ, ◌≤◌, true, take}
use Rattle.std.specs.Prelude.{IfSome}
use Rattle.std.specs.List.{list_any}
use Rattle.switch_rules.specs.Spans.{is_up_to, may_take}
use Rattle.switch_rules.proofs.spans.next_place.Given as goal

abbrev pub invariant-loop-group : goal.invariant-loop-group
invariant-loop-group l = record {
  later : IfSome l.first (λ next. l.place ≤ next);
  before : (i : ℕ) → l.place ≤ i → list_any (may_take l.flow l.target i) (take l.group-index l.groups) ≡ true → is_up_to l.first i ≡ true;
}
