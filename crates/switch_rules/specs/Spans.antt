-- Steps between code and definition, which nobody has to believe: between which places filters stand that may match a flow.
use Rattle.std.specs.Prelude.{◌≡◌, ◌&&◌, ℕ, Bool, true, false, nat_le, min, max, if◌then◌else◌, List, All, slice_get, Option, None, Some}
use Rattle.std.specs.List.{list_any}
use Rattle.flow_filter.specs.declared.flow.Flow.{Flow}
use Rattle.flow_filter.specs.declared.filter.Filter.{Filter}
use Rattle.flow_filter.specs.Flow.{flow_eq}
use Rattle.unit_map.specs.Entries.{record_of}
use Rattle.switch_rules.specs.declared.target.Target.{Target}
use Rattle.switch_rules.specs.declared.span_group.SpanGroup.{SpanGroup}
use Rattle.switch_rules.specs.declared.span_group.Span.{Span}
use Rattle.switch_rules.specs.Masks.{mask_of, values_of, masked, mask_eq}
use Rattle.switch_rules.specs.Rules.{Redirect, target_eq}

-- the span of a group at a masked flow
abbrev pub span : SpanGroup → Flow → Option Span
span group key = record_of flow_eq group.spans key

-- the span with one place more
abbrev pub widened : Option Span → ℕ → Span
widened None place = record { first = place; last = place }
widened (Some s) place = record { first = min s.first place; last = max s.last place }

-- whether a place stands in the span
abbrev pub holds : Option Span → ℕ → Bool
holds None place = false
holds (Some s) place = nat_le s.first place && nat_le place s.last

-- the group is that of the filter's mask and of the target
abbrev pub is_of : Filter → Target → SpanGroup → Bool
is_of f from g = mask_eq g.mask (mask_of f) && target_eq g.from from

-- the group is that of the filter and the target, and the place stands in the span of what the filter says
abbrev pub notes : ℕ → Filter → Target → SpanGroup → Bool
notes place f from g = is_of f from g && holds (span g (values_of f)) place

-- a group notes the filter, which takes flows from the target, at the place
abbrev pub is_noted : List SpanGroup → ℕ → Filter → Target → Bool
is_noted groups place f from = list_any (notes place f from) groups

-- each redirect of the sections is noted at its section's place
abbrev pub AreNoted : List SpanGroup → List (List Redirect) → Type 0
AreNoted groups sections = (place : ℕ) (section : List Redirect) → slice_get sections place ≡ Some section
    → All (λ r. is_noted groups place r.filter r.from ≡ true) section

-- at the place a filter of the group may match the flow, whose target is this one
abbrev pub may_take : Flow → Target → ℕ → SpanGroup → Bool
may_take flow target place g = target_eq g.from target && holds (span g (masked g.mask flow)) place

-- the first place from one on that a span holds
abbrev pub next_of : Option Span → ℕ → Option ℕ
next_of None place = None
next_of (Some s) place = if nat_le place s.last then Some (max s.first place) else None

-- the first place from one on at which a filter of the group may match the flow, whose target is this one
abbrev pub next_in : SpanGroup → Flow → Target → ℕ → Option ℕ
next_in g flow target place = if target_eq g.from target then next_of (span g (masked g.mask flow)) place else None

-- of two places the one that stands first
abbrev pub earlier : Option ℕ → Option ℕ → Option ℕ
earlier (Some a) (Some b) = Some (min a b)
earlier (Some a) None = Some a
earlier None b = b

-- whether a place is given, and this one isn't before it
abbrev pub is_up_to : Option ℕ → ℕ → Bool
is_up_to None i = false
is_up_to (Some next) i = nat_le next i
