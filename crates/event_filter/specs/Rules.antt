-- Event rules: which packets an instance processes, hands to an operation, or holds for it.
-- This project's own, after the events of OpenNF with their actions process, buffer and drop.
use Rattle.std.specs.Prelude.{ℕ, not, ◌==◌, nat_eq, if◌then◌else◌, List, [], ◌∷◌, ◌++◌, map, filter, find, Option, None, Some, is_some}
use Rattle.std.specs.List.{IsDistinct}
use Rattle.std.specs.Option.{option_map_or}
use Rattle.flow_filter.specs.Filter.{matches}
use Rattle.flow_filter.specs.declared.flow.Flow.{Flow}
use Rattle.flow_filter.specs.declared.filter.Filter.{Filter}
use Rattle.event_filter.specs.declared.action.Action.{Action}
use Rattle.event_filter.specs.declared.action.Action.TheVariants as action
use Rattle.event_filter.specs.declared.mark.Mark.{Mark}
use Rattle.event_filter.specs.declared.mark.Mark.TheVariants.{Plain}
use Rattle.event_filter.specs.declared.decide.Decide.{Decide}
use Rattle.event_filter.specs.declared.decide.Decide.TheVariants.{Process, ProcessAndEvent, Event, Buffer}
use Rattle.event_filter.specs.declared.rule.Rule.{Rule}

-- what is done with a packet that a rule of this operation with this action takes
abbrev pub decided : ℕ → Action → Decide
decided op action.Process = ProcessAndEvent op
decided op action.Buffer = Buffer op
decided op action.Drop = Event op

-- the operation that a decision names
abbrev pub named_by : Decide → Option ℕ
named_by Process = None
named_by (ProcessAndEvent op) = Some op
named_by (Event op) = Some op
named_by (Buffer op) = Some op

module _ {P : Type 0} where
  -- the first rule whose filter matches the flow
  abbrev pub first_rule : List (Rule P) → Flow → Option (Rule P)
  first_rule rules flow = find (λ r. matches r.filter flow) rules

  -- what is done with a packet that this rule takes, or none
  abbrev pub decided_by : Option (Rule P) → Decide
  decided_by None = Process
  decided_by (Some r) = decided r.op r.action

  -- what is done with a packet of the flow that comes with this mark: the rules take plain ones alone
  abbrev pub decide : List (Rule P) → Flow → Mark → Decide
  decide rules flow Plain = decided_by (first_rule rules flow)
  decide rules flow mark = Process

  -- the rule of an operation
  abbrev pub rule_at : List (Rule P) → ℕ → Option (Rule P)
  rule_at rules op = find (λ r. r.op == op) rules

  -- the parcels that are held for an operation: none where it has no rule
  abbrev pub held_at : List (Rule P) → ℕ → List P
  held_at rules op = option_map_or (λ r. r.held) (rule_at rules op) []

  -- no two rules are of one operation
  abbrev pub HaveOneEach : List (Rule P) → Type 0
  HaveOneEach rules = IsDistinct nat_eq (map (λ r. r.op) rules)

  -- an operation's rule changed in its place
  abbrev pub with_change : List (Rule P) → ℕ → (Rule P → Rule P) → List (Rule P)
  with_change rules op change = map (λ r. if r.op == op then change r else r) rules

  -- a rule with another filter and action
  abbrev pub with_rule_of : Filter → Action → Rule P → Rule P
  with_rule_of f act r = record r { filter = f; action = act }

  -- a rule with one more parcel after those that it holds
  abbrev pub holding : P → Rule P → Rule P
  holding parcel r = record r { held = r.held ++ parcel ∷ [] }

  -- an operation's rule set in its place, where it has one, and else last; what is held for it stays
  abbrev pub with_rule : List (Rule P) → ℕ → Filter → Action → List (Rule P)
  with_rule rules op f act =
      if is_some (rule_at rules op) then with_change rules op (with_rule_of f act)
      else rules ++ (record { op = op; filter = f; action = act; held = [] }) ∷ []

  -- one more parcel held for an operation, after the others
  abbrev pub with_held : List (Rule P) → ℕ → P → List (Rule P)
  with_held rules op parcel = with_change rules op (holding parcel)

  -- the rules of the other operations
  abbrev pub without_rule : List (Rule P) → ℕ → List (Rule P)
  without_rule rules op = filter (λ r. not (r.op == op)) rules
