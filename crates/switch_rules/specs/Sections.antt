-- Steps between code and definition, which nobody has to believe: redirects in sections, each of redirects that match the same flows.
use Rattle.std.specs.Prelude.{◌≡◌, if◌then◌else◌, List}
use Rattle.std.specs.List.{fold}
use Rattle.flow_filter.specs.declared.flow.Flow.{Flow}
use Rattle.switch_rules.specs.declared.target.Target.{Target}
use Rattle.switch_rules.specs.Masks.{mask_of, values_of}
use Rattle.switch_rules.specs.Rules.{Redirect, target_after, target_eq}

-- the filters of two redirects say the same of the same fields
pub record IsAlike (one other : Redirect) : Type 0 where
  pub mask : mask_of other.filter ≡ mask_of one.filter
  pub values : values_of other.filter ≡ values_of one.filter

-- the target after redirects of a flow that their filters match
abbrev pub target_of_matched : List Redirect → Target → Target
target_of_matched redirects before = fold (λ target r. if target_eq target r.from then r.to else target) before redirects

-- the target of a flow after sections, one after another
abbrev pub target_after_sections : List (List Redirect) → Flow → Target → Target
target_after_sections sections flow before = fold (λ target section. target_after section flow target) before sections
