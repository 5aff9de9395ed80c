-- The place of an operation's rule in the list, and what a write or a removal there leaves.
use Rattle.std.proofs.Common.{◌≡◌, ℕ, zero, suc, ◌<◌, ◌≤◌, true, false, cond, not, eqb, List, [], ◌∷◌}
use Rattle.std.proofs.Common.{◌++◌, length, map, get_or, set, None, Some, refl, sym, ap, ◌∙◌, arith}
use Rattle.std.specs.Prelude.{nat_eq, remove, position}
use Rattle.std.specs.List.{IsDistinct, AllByRecursion, list_any, position_or_len}
use Rattle.std.specs.Cmp.{nat_eq_equiv}
use Rattle.std.proofs.lemmas.List.{map-append, set-get_or}
use Rattle.std.proofs.lemmas.List.Sums.{fails_before_first}
use Rattle.std.proofs.lemmas.List.Quantifiers.{position-Some}
use Rattle.std.proofs.lemmas.Map.Keys.{IsDistinct-head, IsDistinct-tail, IsDistinct-cons, IsDistinct-push}
use Rattle.std.proofs.lemmas.Bool.{eqb-true}
use Rattle.std.proofs.lemmas.Bool.Decides.{nat_tests}
use Rattle.basics.proofs.ListLemmas.{past_the_end}
use Rattle.flow_filter.specs.declared.filter.Filter.{Filter}
use Rattle.event_filter.specs.declared.action.Action.{Action}
use Rattle.event_filter.specs.declared.rule.Rule.{Rule}
use Rattle.event_filter.specs.Rules.{rule_at, HaveOneEach, with_change, with_rule_of, with_rule, without_rule}

-- no rules are one for each operation
pub one_each-none : (P : Type 0) → HaveOneEach {P = P} []
unfolding IsDistinct
one_each-none P = tt

module _ {P : Type 0} where
  -- no rule of the list is of this operation
  abbrev pub HasNone : ℕ → List (Rule P) → Type 0
  HasNone op rules = AllByRecursion (λ r. eqb r.op op ≡ false) rules

  -- then a change of its rule, or a removal, leaves the list as it is
  pub changed-none : (rules : List (Rule P)) (op : ℕ) (change : Rule P → Rule P) → HasNone op rules → with_change rules op change ≡ rules
  changed-none [] op change none = refl
  changed-none (r ∷ rules) op change none = rw none.0 (ap (λ rs. r ∷ rs) (changed-none rules op change none.1))

  pub without-none : (rules : List (Rule P)) (op : ℕ) → HasNone op rules → without_rule rules op ≡ rules
  without-none [] op none = refl
  without-none (r ∷ rules) op none = rw none.0 (ap (λ rs. r ∷ rs) (without-none rules op none.1))

  pub rule_at-none : (rules : List (Rule P)) (op : ℕ) → HasNone op rules → rule_at rules op ≡ None
  rule_at-none [] op none = refl
  rule_at-none (r ∷ rules) op none = rw none.0 (rule_at-none rules op none.1)

  -- behind the rule of an operation no other is of it
  pub none_behind : (rules : List (Rule P)) (op here : ℕ) → eqb here op ≡ true → AllByRecursion (λ y. eqb here y ≡ false) (map (λ r. r.op) rules)
      → HasNone op rules
  none_behind [] op here is apart = tt
  none_behind (r ∷ rules) op here is apart = (
    let same : here ≡ op = eqb-true here op is in grind (arith, nat_tests, apart.0),
    none_behind rules op here is apart.1,
  )

  -- the first place at which a rule of the operation stands
  record IsPlace (rules : List (Rule P)) (op i : ℕ) (r : Rule P) : Type 0 where
    within : i < length rules
    here : eqb (get_or rules i r).op op ≡ true
    before : (k : ℕ) → k < i → eqb (get_or rules k r).op op ≡ false

  behind : (x : Rule P) (rules : List (Rule P)) (op i : ℕ) (r : Rule P) → IsPlace (x ∷ rules) op (suc i) r → IsPlace rules op i r
  behind x rules op i r p = record { within = omega arith; here = p.here; before = λ k lt. p.before (suc k) (omega arith) }

  first_here : (x : Rule P) (rules : List (Rule P)) (op : ℕ) (r : Rule P) → IsPlace (x ∷ rules) op 0 r → HaveOneEach (x ∷ rules) → HasNone op rules
  first_here x rules op r p one = none_behind rules op x.op p.here (IsDistinct-head nat_eq x.op (map (λ y. y.op) rules) one)

  one_less : (x : Rule P) (rules : List (Rule P)) → HaveOneEach (x ∷ rules) → HaveOneEach rules
  one_less x rules one = IsDistinct-tail nat_eq x.op (map (λ y. y.op) rules) one

  -- a change that is written at the place
  set_place : (rules : List (Rule P)) (op i : ℕ) (r : Rule P) (change : Rule P → Rule P) → IsPlace rules op i r → HaveOneEach rules
      → set rules i (change (get_or rules i r)) ≡ with_change rules op change
  set_place [] op i r change p one = absurd (omega (arith, p.within))
  set_place (x ∷ rules) op zero r change p one = rw (p.here, changed-none rules op change (first_here x rules op r p one)) refl
  set_place (x ∷ rules) op (suc i) r change p one =
      rw (p.before 0 (omega arith)) (ap (λ rs. x ∷ rs) (set_place rules op i r change (behind x rules op i r p) (one_less x rules one)))

  -- what is left without the place
  remove_place : (rules : List (Rule P)) (op i : ℕ) (r : Rule P) → IsPlace rules op i r → HaveOneEach rules → remove rules i ≡ without_rule rules op
  remove_place [] op i r p one = absurd (omega (arith, p.within))
  remove_place (x ∷ rules) op zero r p one = rw (p.here, without-none rules op (first_here x rules op r p one)) refl
  remove_place (x ∷ rules) op (suc i) r p one =
      rw (p.before 0 (omega arith)) (ap (λ rs. x ∷ rs) (remove_place rules op i r (behind x rules op i r p) (one_less x rules one)))

  rule_at_place : (rules : List (Rule P)) (op i : ℕ) (r : Rule P) → IsPlace rules op i r → rule_at rules op ≡ Some (get_or rules i r)
  rule_at_place [] op i r p = absurd (omega (arith, p.within))
  rule_at_place (x ∷ rules) op zero r p = rw p.here refl
  rule_at_place (x ∷ rules) op (suc i) r p = rw (p.before 0 (omega arith)) (rule_at_place rules op i r (behind x rules op i r p))

  at_place : (rules : List (Rule P)) (op i : ℕ) (r : Rule P) → position (λ x. eqb x.op op) rules ≡ Some i → IsPlace rules op i r
  at_place rules op i r e = let p = position-Some (λ x. eqb x.op op) rules i r e in record { within = p.0; here = p.1; before = p.2 }

  -- the same, for the place that `position` finds
  pub set-changed : (rules : List (Rule P)) (op i : ℕ) (r : Rule P) (change : Rule P → Rule P) → position (λ x. eqb x.op op) rules ≡ Some i
      → r ≡ get_or rules i r → HaveOneEach rules → set rules i (change r) ≡ with_change rules op change
  set-changed rules op i r change e is one = ap (λ x. set rules i (change x)) is ∙ set_place rules op i r change (at_place rules op i r e) one

  -- a rule that is written back leaves the list as it is
  pub set-same : (rules : List (Rule P)) (i : ℕ) (r : Rule P) → r ≡ get_or rules i r → set rules i r ≡ rules
  set-same rules i r is = ap (set rules i) is ∙ set-get_or rules i r

  pub remove-without : (rules : List (Rule P)) (op i : ℕ) (r : Rule P) → position (λ x. eqb x.op op) rules ≡ Some i → HaveOneEach rules
      → remove rules i ≡ without_rule rules op
  remove-without rules op i r e one = remove_place rules op i r (at_place rules op i r e) one

  pub rule_at-position : (rules : List (Rule P)) (op i : ℕ) (r : Rule P) → position (λ x. eqb x.op op) rules ≡ Some i → r ≡ get_or rules i r
      → rule_at rules op ≡ Some r
  rule_at-position rules op i r e is = rule_at_place rules op i r (at_place rules op i r e) ∙ ap (λ x. Some x) (sym is)

  -- where there is no place, no rule is of the operation
  none_anywhere : (rules : List (Rule P)) (op : ℕ) → ((k : ℕ) (d : Rule P) → k < length rules → eqb (get_or rules k d).op op ≡ false) → HasNone op rules
  none_anywhere [] op none = tt
  none_anywhere (x ∷ rules) op none = (none 0 x (omega arith), none_anywhere rules op (λ k d lt. none (suc k) d (omega arith)))

  pub none-position : (rules : List (Rule P)) (op : ℕ) → position (λ x. eqb x.op op) rules ≡ None → HasNone op rules
  none-position rules op e =
      let past : length rules ≤ position_or_len (λ x. eqb x.op op) rules = past_the_end _ rules e in
      none_anywhere rules op (λ k d lt. fails_before_first (λ x. eqb x.op op) rules k d (omega arith))

  -- each operation keeps at most one rule
  ops-changed : (rules : List (Rule P)) (op : ℕ) (change : Rule P → Rule P) → ((r : Rule P) → (change r).op ≡ r.op)
      → map (λ r. r.op) (with_change rules op change) ≡ map (λ r. r.op) rules
  ops-changed [] op change keeps = refl
  ops-changed (x ∷ rules) op change keeps =
      elim (eqb x.op op) as (λ b. (cond b (change x) x).op ∷ map (λ r. r.op) (with_change rules op change) ≡ x.op ∷ map (λ r. r.op) rules) [
        | true ↦ rw (keeps x, ops-changed rules op change keeps) refl
        | false ↦ rw (ops-changed rules op change keeps) refl
      ]

  pub one_each-changed : (rules : List (Rule P)) (op : ℕ) (change : Rule P → Rule P) → ((r : Rule P) → (change r).op ≡ r.op)
      → HaveOneEach rules → HaveOneEach (with_change rules op change)
  one_each-changed rules op change keeps one = rw (ops-changed rules op change keeps) one

  any-none : (rules : List (Rule P)) (op : ℕ) → HasNone op rules → list_any (eqb op) (map (λ r. r.op) rules) ≡ false
  any-none [] op none = refl
  any-none (x ∷ rules) op none = rw (nat_eq_equiv.symm op x.op, none.0) (any-none rules op none.1)

  pub one_each-push : (rules : List (Rule P)) (r : Rule P) → HasNone r.op rules → HaveOneEach rules → HaveOneEach (rules ++ r ∷ [])
  one_each-push rules r none one =
      rw (map-append (λ x. x.op) rules (r ∷ [])) (IsDistinct-push nat_eq_equiv (map (λ x. x.op) rules) r.op one (any-none rules r.op none))

  apart-without : (rules : List (Rule P)) (op here : ℕ) → AllByRecursion (λ y. eqb here y ≡ false) (map (λ r. r.op) rules)
      → AllByRecursion (λ y. eqb here y ≡ false) (map (λ r. r.op) (without_rule rules op))
  apart-without [] op here apart = tt
  apart-without (x ∷ rules) op here apart = elim (eqb x.op op)
      as (λ b. AllByRecursion (λ y. eqb here y ≡ false) (map (λ r. r.op) (cond (not b) (x ∷ without_rule rules op) (without_rule rules op)))) [
        | true ↦ apart-without rules op here apart.1
        | false ↦ (apart.0, apart-without rules op here apart.1)
      ]

  pub one_each-without : (rules : List (Rule P)) (op : ℕ) → HaveOneEach rules → HaveOneEach (without_rule rules op)
  one_each-without [] op one = one
  one_each-without (x ∷ rules) op one = elim (eqb x.op op) as (λ b. HaveOneEach (cond (not b) (x ∷ without_rule rules op) (without_rule rules op))) [
    | true ↦ one_each-without rules op (one_less x rules one)
    | false ↦ IsDistinct-cons nat_eq x.op (map (λ r. r.op) (without_rule rules op))
        (apart-without rules op x.op (IsDistinct-head nat_eq x.op (map (λ r. r.op) rules) one)) (one_each-without rules op (one_less x rules one))
  ]

  -- a rule set where the operation has one, and where it has none
  pub with_rule-some : (rules : List (Rule P)) (op : ℕ) (r : Rule P) (f : Filter) (act : Action) → rule_at rules op ≡ Some r
      → with_rule rules op f act ≡ with_change rules op (with_rule_of f act)
  with_rule-some rules op r f act e = rw e refl

  pub with_rule-none : (rules : List (Rule P)) (op : ℕ) (f : Filter) (act : Action) → HasNone op rules
      → with_rule rules op f act ≡ rules ++ (record { op = op; filter = f; action = act; held = [] }) ∷ []
  with_rule-none rules op f act none = rw (rule_at-none rules op none) refl
