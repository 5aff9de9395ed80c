-- What is decided for a flow, after each change of the rules, and that the rule that decides is the one of its operation.
use Rattle.std.proofs.Common.{◌≡◌, ℕ, Bool, true, false, cond, not, eqb, List, [], ◌∷◌, ◌++◌, map, Option, None, Some, refl, sym, ap, ◌∙◌}
use Rattle.std.specs.Prelude.{nat_eq, is_some, IsSome, IfSome}
use Rattle.std.specs.List.{AllByRecursion}
use Rattle.std.proofs.lemmas.Bool.{eqb-true, eq-eqb}
use Rattle.std.proofs.lemmas.Map.Keys.{IsDistinct-head, IsDistinct-tail}
use Rattle.flow_filter.specs.Filter.{matches}
use Rattle.flow_filter.specs.declared.flow.Flow.{Flow}
use Rattle.flow_filter.specs.declared.filter.Filter.{Filter}
use Rattle.event_filter.specs.declared.action.Action.{Action}
use Rattle.event_filter.specs.declared.action.Action.TheVariants as action
use Rattle.event_filter.specs.declared.decide.Decide.{Decide}
use Rattle.event_filter.specs.declared.mark.Mark.{Mark}
use Rattle.event_filter.specs.declared.mark.Mark.TheVariants.{Plain, Pass, Shared}
use Rattle.event_filter.specs.declared.rule.Rule.{Rule}
use Rattle.event_filter.specs.Rules.{first_rule, decided, decided_by, named_by, decide, rule_at}
use Rattle.event_filter.specs.Rules.{HaveOneEach, with_change, with_rule_of, with_rule, without_rule}
use Rattle.event_filter.proofs.RulePlaces.{HasNone, without-none, none_behind}

module _ {P : Type 0} where
  -- what is held decides nothing
  either : (m n : Bool) (x y : Rule P) (o u : Option (Rule P)) → m ≡ n → decided_by (Some x) ≡ decided_by (Some y) → decided_by o ≡ decided_by u
      → decided_by (cond m (Some x) o) ≡ decided_by (cond n (Some y) u)
  either true true x y o u tests e f = e
  either false false x y o u tests e f = f
  either true false x y o u tests e f = cc
  either false true x y o u tests e f = cc

  fate_changed : (rules : List (Rule P)) (op : ℕ) (change : Rule P → Rule P) (flow : Flow) → ((r : Rule P) → (change r).filter ≡ r.filter)
      → ((r : Rule P) → decided_by (Some (change r)) ≡ decided_by (Some r))
      → decided_by (first_rule (with_change rules op change) flow) ≡ decided_by (first_rule rules flow)
  fate_changed [] op change flow keeps same = refl
  fate_changed (x ∷ rules) op change flow keeps same = elim (eqb x.op op)
      as (λ b. decided_by (first_rule (cond b (change x) x ∷ with_change rules op change) flow) ≡ decided_by (first_rule (x ∷ rules) flow)) [
        | true ↦ either _ _ (change x) x (first_rule (with_change rules op change) flow) (first_rule rules flow) (ap (λ f. matches f flow) (keeps x)) (same x)
            (fate_changed rules op change flow keeps same)
        | false ↦ either _ _ x x (first_rule (with_change rules op change) flow) (first_rule rules flow) refl refl
            (fate_changed rules op change flow keeps same)
      ]

  pub decide-changed : (rules : List (Rule P)) (op : ℕ) (change : Rule P → Rule P) (flow : Flow) (mark : Mark) → ((r : Rule P) → (change r).filter ≡ r.filter)
      → ((r : Rule P) → decided_by (Some (change r)) ≡ decided_by (Some r)) → decide (with_change rules op change) flow mark ≡ decide rules flow mark
  decide-changed rules op change flow Plain keeps same = fate_changed rules op change flow keeps same
  decide-changed rules op change flow mark keeps same = refl

  -- a rule that doesn't match the flow leaves it to the others
  fate_passed : (rules : List (Rule P)) (op : ℕ) (f : Filter) (act : Action) (flow : Flow) → matches f flow ≡ false
      → first_rule (with_change rules op (with_rule_of f act)) flow ≡ first_rule (without_rule rules op) flow
  fate_passed [] op f act flow off = refl
  fate_passed (x ∷ rules) op f act flow off =
      elim (eqb x.op op) as (λ b. first_rule (cond b (with_rule_of f act x) x ∷ with_change rules op (with_rule_of f act)) flow
      ≡ first_rule (cond (not b) (x ∷ without_rule rules op) (without_rule rules op)) flow) [
        | true ↦ rw off (fate_passed rules op f act flow off)
        | false ↦ ap (λ o. cond (matches x.filter flow) (Some x) o) (fate_passed rules op f act flow off)
      ]

  none_of-rule_at : (rules : List (Rule P)) (op : ℕ) → rule_at rules op ≡ None → HasNone op rules
  none_of-rule_at [] op e = tt
  none_of-rule_at (x ∷ rules) op e =
      elim (eqb x.op op) as (λ b. eqb x.op op ≡ b → cond b (Some x) (rule_at rules op) ≡ None → (eqb x.op op ≡ false) × HasNone op rules) [
        | true ↦ λ here is. cc
        | false ↦ λ off is. (off, none_of-rule_at rules op is)
      ] refl e

  push_off : (rules : List (Rule P)) (r : Rule P) (flow : Flow) → matches r.filter flow ≡ false → first_rule (rules ++ r ∷ []) flow ≡ first_rule rules flow
  push_off [] r flow off = rw off refl
  push_off (x ∷ rules) r flow off = ap (λ o. cond (matches x.filter flow) (Some x) o) (push_off rules r flow off)

  push_on : (rules : List (Rule P)) (r : Rule P) (flow : Flow) → matches r.filter flow ≡ true → first_rule rules flow ≡ None
      → first_rule (rules ++ r ∷ []) flow ≡ Some r
  push_on [] r flow on none = rw on refl
  push_on (x ∷ rules) r flow on none =
      elim (matches x.filter flow) as (λ m. cond m (Some x) (first_rule rules flow) ≡ None → cond m (Some x) (first_rule (rules ++ r ∷ []) flow) ≡ Some r) [
        | true ↦ λ is. cc
        | false ↦ λ is. push_on rules r flow on is
      ] none

  -- a flow that the filter doesn't match is decided by the rules of the other operations
  pub decide-with_rule_passed : (rules : List (Rule P)) (op : ℕ) (f : Filter) (act : Action) (flow : Flow) (mark : Mark) → matches f flow ≡ false
      → decide (with_rule rules op f act) flow mark ≡ decide (without_rule rules op) flow mark
  decide-with_rule_passed rules op f act flow Plain off = elim (rule_at rules op) as (λ o. rule_at rules op ≡ o
      → decided_by (first_rule
      (cond (is_some o) (with_change rules op (with_rule_of f act)) (rules ++ (record { op = op; filter = f; action = act; held = [] }) ∷ [])) flow)
      ≡ decided_by (first_rule (without_rule rules op) flow)) [
        | None ↦ λ none. ap decided_by (push_off rules (record { op = op; filter = f; action = act; held = [] }) flow off
            ∙ ap (λ rs. first_rule rs flow) (sym (without-none rules op (none_of-rule_at rules op none))))
        | Some r ↦ λ is. ap decided_by (fate_passed rules op f act flow off)
      ] refl
  decide-with_rule_passed rules op f act flow mark off = refl

  fate_behind : (x : Rule P) (new rest : List (Rule P)) (flow : Flow) (fate : Decide) → first_rule (x ∷ rest) flow ≡ None
      → (first_rule rest flow ≡ None → decided_by (first_rule new flow) ≡ fate) → decided_by (first_rule (x ∷ new) flow) ≡ fate
  fate_behind x new rest flow fate none then =
      elim (matches x.filter flow) as (λ m. cond m (Some x) (first_rule rest flow) ≡ None → decided_by (cond m (Some x) (first_rule new flow)) ≡ fate) [
        | true ↦ λ is. cc
        | false ↦ λ is. then is
      ] none

  fate_taken : (rules : List (Rule P)) (op : ℕ) (f : Filter) (act : Action) (flow : Flow) → matches f flow ≡ true
      → first_rule (without_rule rules op) flow ≡ None
      → IsSome (rule_at rules op) → decided_by (first_rule (with_change rules op (with_rule_of f act)) flow) ≡ decided op act
  fate_taken [] op f act flow on none some = cc
  fate_taken (x ∷ rules) op f act flow on none some = elim (eqb x.op op) as (λ b. eqb x.op op ≡ b
      → first_rule (cond (not b) (x ∷ without_rule rules op) (without_rule rules op)) flow ≡ None → IsSome (cond b (Some x) (rule_at rules op))
      → decided_by (first_rule (cond b (with_rule_of f act x) x ∷ with_change rules op (with_rule_of f act)) flow) ≡ decided op act) [
        | true ↦ λ here out has. rw (on, eqb-true x.op op here) refl
        | false ↦ λ off out has. fate_behind x (with_change rules op (with_rule_of f act)) (without_rule rules op) flow (decided op act) out
            (λ rest. fate_taken rules op f act flow on rest has)
      ] refl none some

  -- a flow that no other operation's rule matches is decided by the rule that was set
  pub decide-with_rule_taken : (rules : List (Rule P)) (op : ℕ) (f : Filter) (act : Action) (flow : Flow) → matches f flow ≡ true
      → first_rule (without_rule rules op) flow ≡ None
      → decide (with_rule rules op f act) flow Plain ≡ decided op act
  decide-with_rule_taken rules op f act flow on none = elim (rule_at rules op) as (λ o. rule_at rules op ≡ o
      → decided_by (first_rule
      (cond (is_some o) (with_change rules op (with_rule_of f act)) (rules ++ (record { op = op; filter = f; action = act; held = [] }) ∷ [])) flow)
      ≡ decided op act) [
        | None ↦ λ absent. ap decided_by (push_on rules (record { op = op; filter = f; action = act; held = [] }) flow on
            (ap (λ rs. first_rule rs flow) (sym (without-none rules op (none_of-rule_at rules op absent))) ∙ none))
        | Some r ↦ λ is. fate_taken rules op f act flow on none (ap is_some is)
      ] refl

  -- without a rule that doesn't match the flow, it is decided as before
  fate_without : (rules : List (Rule P)) (op : ℕ) (flow : Flow) → HaveOneEach rules → IfSome (rule_at rules op) (λ r. matches r.filter flow ≡ false)
      → first_rule (without_rule rules op) flow ≡ first_rule rules flow
  fate_without [] op flow one off = refl
  fate_without (x ∷ rules) op flow one off =
      elim (eqb x.op op) as (λ b. eqb x.op op ≡ b → IfSome (cond b (Some x) (rule_at rules op)) (λ r. matches r.filter flow ≡ false)
      → first_rule (cond (not b) (x ∷ without_rule rules op) (without_rule rules op)) flow ≡ cond (matches x.filter flow) (Some x) (first_rule rules flow)) [
        | true ↦ λ here is. rw (is, without-none rules op (none_behind rules op x.op here (IsDistinct-head nat_eq x.op (map (λ y. y.op) rules) one))) refl
        | false ↦ λ other is. ap (λ o. cond (matches x.filter flow) (Some x) o)
            (fate_without rules op flow (IsDistinct-tail nat_eq x.op (map (λ y. y.op) rules) one) is)
      ] refl off

  pub decide-without : (rules : List (Rule P)) (op : ℕ) (flow : Flow) (mark : Mark) → HaveOneEach rules
      → IfSome (rule_at rules op) (λ r. matches r.filter flow ≡ false)
      → decide (without_rule rules op) flow mark ≡ decide rules flow mark
  decide-without rules op flow Plain one off = ap decided_by (fate_without rules op flow one off)
  decide-without rules op flow mark one off = refl

  other_op : (rules : List (Rule P)) (op q : ℕ) (r : Rule P) → AllByRecursion (λ y. eqb op y ≡ false) (map (λ x. x.op) rules) → rule_at rules q ≡ Some r
      → eqb op q ≡ false
  other_op [] op q r apart is = cc
  other_op (x ∷ rules) op q r apart is = elim (eqb x.op q) as (λ b. eqb x.op q ≡ b → cond b (Some x) (rule_at rules q) ≡ Some r → eqb op q ≡ false) [
    | true ↦ λ here e. rw (← eqb-true x.op q here) apart.0
    | false ↦ λ off e. other_op rules op q r apart.1 e
  ] refl is

  -- the first rule that matches a flow is the rule of its operation
  pub first_rule-own : (rules : List (Rule P)) (flow : Flow) (r : Rule P) → HaveOneEach rules → first_rule rules flow ≡ Some r → rule_at rules r.op ≡ Some r
  first_rule-own [] flow r one e = cc
  first_rule-own (x ∷ rules) flow r one e = elim (matches x.filter flow)
      as (λ m. cond m (Some x) (first_rule rules flow) ≡ Some r → cond (eqb x.op r.op) (Some x) (rule_at rules r.op) ≡ Some r) [
        | true ↦ λ is. let same : x ≡ r = cc in rw (same, eq-eqb r.op r.op refl) refl
        | false ↦ λ is. let own = first_rule-own rules flow r (IsDistinct-tail nat_eq x.op (map (λ y. y.op) rules) one) is in
            rw (other_op rules x.op r.op r (IsDistinct-head nat_eq x.op (map (λ y. y.op) rules) one) own) own
      ] e

  pub own_rule : (rules : List (Rule P)) (flow : Flow) → HaveOneEach rules → IfSome (first_rule rules flow) (λ r. rule_at rules r.op ≡ Some r)
  own_rule rules flow one = elim (first_rule rules flow) as (λ o. first_rule rules flow ≡ o → IfSome o (λ r. rule_at rules r.op ≡ Some r)) [
    | None ↦ λ e. tt
    | Some r ↦ λ e. first_rule-own rules flow r one e
  ] refl

  -- a decision names an operation that has a rule
  decided_names : (r : Rule P) (op : ℕ) → named_by (decided r.op r.action) ≡ Some op → r.op ≡ op
  decided_names r op e = elim r.action as (λ a. named_by (decided r.op a) ≡ Some op → r.op ≡ op)
      [ action.Process ↦ λ is. cc | action.Buffer ↦ λ is. cc | action.Drop ↦ λ is. cc ] e

  fate_names : (rules : List (Rule P)) (o : Option (Rule P)) (op : ℕ) → IfSome o (λ r. rule_at rules r.op ≡ Some r) → named_by (decided_by o) ≡ Some op
      → IsSome (rule_at rules op)
  fate_names rules None op own e = cc
  fate_names rules (Some r) op own e = ap (λ n. is_some (rule_at rules n)) (sym (decided_names r op e)) ∙ ap is_some own

  pub named_rule : (rules : List (Rule P)) (flow : Flow) (mark : Mark) (op : ℕ) → HaveOneEach rules → named_by (decide rules flow mark) ≡ Some op
      → IsSome (rule_at rules op)
  named_rule rules flow Plain op one e = fate_names rules (first_rule rules flow) op (own_rule rules flow one) e
  named_rule rules flow (Pass n) op one e = cc
  named_rule rules flow (Shared n home) op one e = cc
