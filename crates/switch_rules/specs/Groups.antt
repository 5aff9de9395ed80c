-- The classifier: the rules in groups by their masks. A flow is looked up once in each group, and the entry with the least place is
-- the first rule that matches. This project's own, after tuple space search (Srinivasan, Suri and Varghese, 1999).
use Rattle.std.specs.Prelude.{◌≡◌, ◌&&◌, Bool, nat_lt, if◌then◌else◌, List, [], ◌∷◌, map, find, All, Option, None, Some, IsSome, option_map}
use Rattle.std.specs.List.{enumerate_from, filter_map}
use Rattle.flow_filter.specs.declared.flow.Flow.{Flow}
use Rattle.flow_filter.specs.Flow.{flow_eq}
use Rattle.unit_map.specs.Entries.{record_of}
use Rattle.switch_rules.specs.declared.target.Target.{Target}
use Rattle.switch_rules.specs.declared.mask.Mask.{Mask}
use Rattle.switch_rules.specs.declared.group.Group.{Group}
use Rattle.switch_rules.specs.declared.group.Placed.{Placed}
use Rattle.switch_rules.specs.Masks.{mask_of, values_of, masked, mask_eq}
use Rattle.switch_rules.specs.Rules.{Rule, first_match, firsts, AreFilters}

-- the masks of the rules, each once, in the order in which they come first
abbrev pub masks_of : List Rule → List Mask
masks_of rules = firsts mask_eq (map (λ r. mask_of r.0) rules)

-- a rule has the mask, and the masked flow as its values
abbrev pub has_key : Mask → Flow → Rule → Bool
has_key mask key rule = mask_eq (mask_of rule.0) mask && flow_eq (values_of rule.0) key

-- the place of the first rule with the mask and the masked flow, from 0, with its target
abbrev pub first_placed : List Rule → Mask → Flow → Option Placed
first_placed rules mask key =
    option_map (λ r. record { place = r.0; target = r.1.1 }) (find (λ r. has_key mask key r.1) (enumerate_from 0 rules))

-- the entry of a group at a masked flow
abbrev pub entry : Group → Flow → Option Placed
entry group key = record_of flow_eq group.entries key

-- the groups are those of the rules: one for each mask, with an entry for each first rule of a masked flow, and no other entry
pub record AreGroups (rules : List Rule) (groups : List Group) : Type 0 where
  pub masks : map (λ g. g.mask) groups ≡ masks_of rules
  pub entries : All (λ g. (key : Flow) → entry g key ≡ first_placed rules g.mask key) groups

-- the entries that a flow meets: one at most in each group
abbrev pub entries_met : List Group → Flow → List Placed
entries_met groups flow = filter_map (λ g. entry g (masked g.mask flow)) groups

-- of two entries the one with the lesser place
abbrev pub nearer : Option Placed → Option Placed → Option Placed
nearer None found = found
nearer (Some p) None = Some p
nearer (Some p) (Some q) = Some (if nat_lt q.place p.place then q else p)

-- the entry with the least place
abbrev pub least : List Placed → Option Placed
least [] = None
least (p ∷ ps) = nearer (Some p) (least ps)

-- the target of the entry with the least place
abbrev pub answer : List Group → Flow → Option Target
answer groups flow = option_map (λ p. p.target) (least (entries_met groups flow))

-- rules with their groups, where each flow has a rule
pub record AreClassified (rules : List Rule) (groups : List Group) : Type 0 where
  pub grouped : AreGroups rules groups
  pub filters : AreFilters rules
  pub all : (flow : Flow) → IsSome (first_match rules flow)
