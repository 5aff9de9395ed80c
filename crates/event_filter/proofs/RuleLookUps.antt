-- What a look-up by operation gives, and what is decided for a flow, after each change of the rules.
use Rattle.std.proofs.Common.{◌≡◌, ℕ, Bool, true, false, cond, not, eqb, List, [], ◌∷◌, ◌++◌, Option, None, Some, refl, sym, ap, ◌∙◌, arith}
use Rattle.std.specs.Prelude.{is_some, IsSome}
use Rattle.std.specs.Option.{option_map, option_map_or}
use Rattle.std.proofs.lemmas.Bool.{eqb-true}
use Rattle.std.proofs.lemmas.Bool.Decides.{nat_tests}
use Rattle.std.proofs.lemmas.Cmp.{nat_eq_equiv}
use Rattle.flow_filter.specs.declared.filter.Filter.{Filter}
use Rattle.event_filter.specs.declared.action.Action.{Action}
use Rattle.event_filter.specs.declared.rule.Rule.{Rule}
use Rattle.event_filter.specs.Rules.{rule_at, held_at, with_change, with_rule_of, holding, with_rule, with_held, without_rule}

module _ {P : Type 0} where
  -- a change that keeps the operation's number is seen at that operation alone
  keep_other : (x : Rule P) (op q : ℕ) (change : Rule P → Rule P) (rest : Option (Rule P)) (new : Option (Rule P))
      → (change x).op ≡ x.op → new ≡ cond (eqb q op) (option_map change rest) rest
      → cond (eqb (cond (eqb x.op op) (change x) x).op q) (Some (cond (eqb x.op op) (change x) x)) new
      ≡ cond (eqb q op) (option_map change (cond (eqb x.op q) (Some x) rest)) (cond (eqb x.op q) (Some x) rest)
  keep_other x op q change rest new keeps e = grind (arith, nat_tests)

  pub rule_at-changed : (rules : List (Rule P)) (op q : ℕ) (change : Rule P → Rule P) → ((r : Rule P) → (change r).op ≡ r.op)
      → rule_at (with_change rules op change) q ≡ cond (eqb q op) (option_map change (rule_at rules q)) (rule_at rules q)
  rule_at-changed [] op q change keeps = elim (eqb q op) as (λ b. None ≡ cond b (option_map change None) None) [ true ↦ refl | false ↦ refl ]
  rule_at-changed (x ∷ rules) op q change keeps =
      keep_other x op q change (rule_at rules q) (rule_at (with_change rules op change) q) (keeps x) (rule_at-changed rules op q change keeps)

  -- one more rule behind the others
  push_case : (b : Bool) (x : Rule P) (rest new other : Option (Rule P)) → new ≡ cond (is_some rest) rest other
      → cond b (Some x) new ≡ cond (is_some (cond b (Some x) rest)) (cond b (Some x) rest) other
  push_case true x rest new other e = refl
  push_case false x rest new other e = e

  pub rule_at-push : (rules : List (Rule P)) (r : Rule P) (q : ℕ)
      → rule_at (rules ++ r ∷ []) q ≡ cond (is_some (rule_at rules q)) (rule_at rules q) (cond (eqb r.op q) (Some r) None)
  rule_at-push [] r q = refl
  rule_at-push (x ∷ rules) r q =
      push_case (eqb x.op q) x (rule_at rules q) (rule_at (rules ++ r ∷ []) q) (cond (eqb r.op q) (Some r) None) (rule_at-push rules r q)

  -- a rule that is found by its operation is of it
  pub op-rule_at : (rules : List (Rule P)) (q : ℕ) (r : Rule P) → rule_at rules q ≡ Some r → r.op ≡ q
  op-rule_at [] q r e = cc
  op-rule_at (x ∷ rules) q r e = elim (eqb x.op q) as (λ b. eqb x.op q ≡ b → cond b (Some x) (rule_at rules q) ≡ Some r → r.op ≡ q) [
    | true ↦ λ here is. let same : x ≡ r = cc in rw (← same) (eqb-true x.op q here)
    | false ↦ λ here is. op-rule_at rules q r is
  ] refl e

  -- the rule of an operation that was set
  abbrev pub set_to : (rules : List (Rule P)) (op : ℕ) (f : Filter) (act : Action) → Rule P
  set_to rules op f act = record { op = op; filter = f; action = act; held = held_at rules op }

  put_case : (o own : Option (Rule P)) (r s : Rule P) (op q : ℕ) → own ≡ None → (q ≡ op → o ≡ own) → r ≡ s
      → cond (is_some o) o (cond (eqb op q) (Some r) None) ≡ cond (eqb q op) (Some s) o
  put_case None own r s op q none at is = rw (is, nat_eq_equiv.symm op q) refl
  put_case (Some x) own r s op q none at is = elim (eqb q op) as (λ b. eqb q op ≡ b → Some x ≡ cond b (Some s) (Some x)) [
    | true ↦ λ e. let here = at (eqb-true q op e) in cc
    | false ↦ λ e. refl
  ] refl

  put_first : (rules : List (Rule P)) (op q : ℕ) (f : Filter) (act : Action) → rule_at rules op ≡ None
      → rule_at (rules ++ (record { op = op; filter = f; action = act; held = [] }) ∷ []) q ≡ cond (eqb q op) (Some (set_to rules op f act)) (rule_at rules q)
  put_first rules op q f act none = rule_at-push rules (record { op = op; filter = f; action = act; held = [] }) q
      ∙ put_case (rule_at rules q) (rule_at rules op) (record { op = op; filter = f; action = act; held = [] }) (set_to rules op f act) op q none
      (λ e. ap (rule_at rules) e) (rw none refl)

  replace_case : (o : Option (Rule P)) (r s : Rule P) (op q : ℕ) (change : Rule P → Rule P) → (q ≡ op → o ≡ Some r) → change r ≡ s
      → cond (eqb q op) (option_map change o) o ≡ cond (eqb q op) (Some s) o
  replace_case o r s op q change at is = elim (eqb q op) as (λ b. eqb q op ≡ b → cond b (option_map change o) o ≡ cond b (Some s) o) [
    | true ↦ λ e. ap (option_map change) (at (eqb-true q op e)) ∙ ap (λ x. Some x) is
    | false ↦ λ e. refl
  ] refl

  pub rule_at-with_rule : (rules : List (Rule P)) (op q : ℕ) (f : Filter) (act : Action)
      → rule_at (with_rule rules op f act) q ≡ cond (eqb q op) (Some (set_to rules op f act)) (rule_at rules q)
  rule_at-with_rule rules op q f act = elim (rule_at rules op) as (λ o. rule_at rules op ≡ o
      → rule_at (cond (is_some o) (with_change rules op (with_rule_of f act)) (rules ++ (record { op = op; filter = f; action = act; held = [] }) ∷ [])) q
      ≡ cond (eqb q op) (Some (set_to rules op f act)) (rule_at rules q)) [
        | None ↦ λ none. put_first rules op q f act none
        | Some r ↦ λ is. rule_at-changed rules op q (with_rule_of f act) (λ x. refl)
            ∙ replace_case (rule_at rules q) r (set_to rules op f act) op q (with_rule_of f act) (λ e. ap (rule_at rules) e ∙ is)
            (rw (op-rule_at rules op r is, is) refl)
      ] refl

  -- what is held stays where a rule is set
  pub held_at-with_rule : (rules : List (Rule P)) (op q : ℕ) (f : Filter) (act : Action) → held_at (with_rule rules op f act) q ≡ held_at rules q
  held_at-with_rule rules op q f act = ap (λ o. option_map_or (λ r. r.held) o []) (rule_at-with_rule rules op q f act)
      ∙ elim (eqb q op) as (λ b. eqb q op ≡ b → option_map_or (λ r. r.held) (cond b (Some (set_to rules op f act)) (rule_at rules q)) [] ≡ held_at rules q) [
        | true ↦ λ e. ap (held_at rules) (sym (eqb-true q op e))
        | false ↦ λ e. refl
      ] refl

  grown : (o : Option (Rule P)) (parcel : P) → IsSome o
      → option_map_or (λ r. r.held) (option_map (holding parcel) o) [] ≡ option_map_or (λ r. r.held) o [] ++ parcel ∷ []
  grown None parcel some = cc
  grown (Some r) parcel some = refl

  -- one more parcel is held for an operation that has a rule
  pub held_at-with_held : (rules : List (Rule P)) (op q : ℕ) (parcel : P) → IsSome (rule_at rules op)
      → held_at (with_held rules op parcel) q ≡ cond (eqb q op) (held_at rules q ++ parcel ∷ []) (held_at rules q)
  held_at-with_held rules op q parcel some = ap (λ o. option_map_or (λ r. r.held) o []) (rule_at-changed rules op q (holding parcel) (λ x. refl))
      ∙ elim (eqb q op) as (λ b. eqb q op ≡ b → option_map_or (λ r. r.held) (cond b (option_map (holding parcel) (rule_at rules q)) (rule_at rules q)) []
      ≡ cond b (held_at rules q ++ parcel ∷ []) (held_at rules q)) [
        | true ↦ λ e. grown (rule_at rules q) parcel (ap (λ n. is_some (rule_at rules n)) (eqb-true q op e) ∙ some)
        | false ↦ λ e. refl
      ] refl

  left_out : (x : Rule P) (op q : ℕ) (o : Option (Rule P)) (rest : List (Rule P)) → rule_at rest q ≡ cond (eqb q op) None o
      → rule_at (cond (not (eqb x.op op)) (x ∷ rest) rest) q ≡ cond (eqb q op) None (cond (eqb x.op q) (Some x) o)
  left_out x op q o rest e =
      elim (eqb x.op op) as (λ b. eqb x.op op ≡ b → rule_at (cond (not b) (x ∷ rest) rest) q ≡ cond (eqb q op) None (cond (eqb x.op q) (Some x) o)) [
        | true ↦ λ here. grind (arith, nat_tests)
        | false ↦ λ off. grind (arith, nat_tests)
      ] refl

  -- the rules of other operations are found as before
  pub rule_at-without : (rules : List (Rule P)) (op q : ℕ) → rule_at (without_rule rules op) q ≡ cond (eqb q op) None (rule_at rules q)
  rule_at-without [] op q = elim (eqb q op) as (λ b. ◌≡◌ {A = Option (Rule P)} None (cond b None None)) [ true ↦ refl | false ↦ refl ]
  rule_at-without (x ∷ rules) op q = left_out x op q (rule_at rules q) (without_rule rules op) (rule_at-without rules op q)

  pub held_at-without : (rules : List (Rule P)) (op q : ℕ) → held_at (without_rule rules op) q ≡ cond (eqb q op) [] (held_at rules q)
  held_at-without rules op q = ap (λ o. option_map_or (λ r. r.held) o []) (rule_at-without rules op q)
      ∙ elim (eqb q op) as (λ b. option_map_or (λ r. r.held) (cond b None (rule_at rules q)) [] ≡ cond b [] (held_at rules q)) [ true ↦ refl | false ↦ refl ]
