-- What a unit sees of an instance's rules and of the controller's open moves is its packets that are held and stored.
use Rattle.nf_net.proofs.Words.{◌≡◌, ◌≢◌, ℕ, Bool, true, false, cond, Option, Some, None, List, [], ◌∷◌, ◌++◌, map, refl, sym, ap, ◌∙◌, append-nil, arith, T}
use Rattle.nf_net.proofs.Words.{nat_eq, if◌then◌else◌, unwrap_or, filter, flat_map, nat_cmp, eq_by_cmp, is_lt, is_eq, Ordering, Less, Equal, Greater, is_sorted}
use Rattle.nf_net.proofs.Words.{entries_sorted, get-entries, below_all, nat_tests, Decides-eqb, IsDistinct-head, IsDistinct-tail, and_yes, Semantics, same_unit}
use Rattle.nf_net.proofs.Words.{HaveOneEach, stored_of, FullCell, Each, each-append, only_mine, find_rule, held_of, Seeing, frame, RuleLabel, none_mine}
use Rattle.nf_net.proofs.Words.{RestRule, Given, S, Unit, split}
use Rattle.std.proofs.Common.{eqb}
use Rattle.std.specs.FinMap as finite
use Rattle.std.specs.FinMap.{find}
use Rattle.std.proofs.lemmas.Bool.{eqb-true}
use Rattle.event_filter.specs.declared.rule.Rule.{Rule as EventRule}
use Rattle.event_filter.proofs.RulePlaces.{HasNone, none_behind}
use Rattle.event_store.proofs.StoreLookUps.{order_test}
use Rattle.net_world.specs.Path.{numbers}
use Rattle.proof_outlines.proofs.outline.Outline.{outline_rule}

not_tied : (o : Ordering) → T (is_lt o) → is_eq o ≡ false
not_tied Less h = refl
not_tied Equal h = absurd h
not_tied Greater h = absurd h

absent : {V : Type 0} (k : ℕ) (es : List (ℕ × V)) → T (below_all nat_cmp k es) → find nat_cmp k es ≡ None
absent k [] h = refl
absent k (e ∷ es) h =
    let apart : eq_by_cmp nat_cmp k e.0 ≡ false = not_tied (nat_cmp k e.0) (and_yes (is_lt (nat_cmp k e.0)) (below_all nat_cmp k es) h).0 in
    ap (λ b. cond b (Some e.1) (find nat_cmp k es)) apart ∙ absent k es (and_yes (is_lt (nat_cmp k e.0)) (below_all nat_cmp k es) h).1

own_tie : (k : ℕ) → eq_by_cmp nat_cmp k k ≡ true
own_tie k = order_test k k ∙ (let self : eqb k k ≡ true = grind (arith, nat_tests) in self)

module _ {V Y : Type 0} (of : ℕ → Option V → List Y) (none : (k : ℕ) → of k None ≡ []) (op : ℕ) where
  -- what stands under one key alone is all that stands
  entries_of : (es : List (ℕ × V)) → T (is_sorted nat_cmp es) → ((k : ℕ) → k ≢ op → of k (find nat_cmp k es) ≡ [])
      → flat_map (λ e. of e.0 (Some e.1)) es ≡ of op (find nat_cmp op es)
  entries_of [] up h = sym (none op)
  entries_of (e ∷ es) up h =
      let below = (and_yes (below_all nat_cmp e.0 es) (is_sorted nat_cmp es) up).0 in
      let more = (and_yes (below_all nat_cmp e.0 es) (is_sorted nat_cmp es) up).1 in
      let gone = absent e.0 es below in
      let later : (k : ℕ) → k ≢ op → of k (find nat_cmp k es) ≡ [] = λ k off. split (eqb k e.0) (λ _. of k (find nat_cmp k es) ≡ [])
      (λ is. (let same : k ≡ e.0 = eqb-true k e.0 is in ap (λ q. of k (find nat_cmp q es)) same ∙ ap (of k) gone ∙ none k))
      (λ is. ap (λ b. of k (cond b (Some e.1) (find nat_cmp k es))) (sym (order_test k e.0 ∙ is)) ∙ h k off) in
      let rest = entries_of es more later in
      split (eqb op e.0) (λ _. of e.0 (Some e.1) ++ flat_map (λ x. of x.0 (Some x.1)) es ≡ of op (find nat_cmp op (e ∷ es)))
      (λ is.
      let same : op ≡ e.0 = eqb-true op e.0 is in
      let left : flat_map (λ x. of x.0 (Some x.1)) es ≡ [] = rest ∙ ap (λ q. of op (find nat_cmp q es)) same ∙ ap (of op) gone ∙ none op in
      ap (λ v. of e.0 (Some e.1) ++ v) left ∙ append-nil (of e.0 (Some e.1)) ∙ ap (λ q. of q (Some e.1)) (sym same)
      ∙ ap (λ b. of op (cond b (Some e.1) (find nat_cmp op es))) (sym (order_test op e.0 ∙ is)))
      (λ is.
      let own : of e.0 (Some e.1) ≡ [] = ap (λ b. of e.0 (cond b (Some e.1) (find nat_cmp e.0 es))) (sym (own_tie e.0))
      ∙ h e.0 (λ same. (let never : false ≡ true = sym is ∙ (Decides-eqb op e.0).1 (sym same) in cc)) in
      ap (λ v. v ++ flat_map (λ x. of x.0 (Some x.1)) es) own ∙ rest
      ∙ ap (λ b. of op (cond b (Some e.1) (find nat_cmp op es))) (sym (order_test op e.0 ∙ is)))

  pub map_of : (m : finite.FinMap nat_cmp V) → ((k : ℕ) → k ≢ op → of k (finite.get m k) ≡ [])
      → flat_map (λ e. of e.0 (Some e.1)) (finite.entries m) ≡ of op (finite.get m op)
  map_of m h = entries_of (finite.entries m) (entries_sorted m) (λ k off. ap (of k) (sym (get-entries m k)) ∙ h k off) ∙ ap (of op) (sym (get-entries m op))

-- what holds of all that stands under each key holds of all
module _ {V Y : Type 0} (P : Y → Type 0) (of : ℕ → V → List Y) where
  each_of : (es : List (ℕ × V)) → T (is_sorted nat_cmp es) → ((k : ℕ) (v : V) → find nat_cmp k es ≡ Some v → Each P (of k v))
      → Each P (flat_map (λ e. of e.0 e.1) es)
  each_of [] up h = tt
  each_of (e ∷ es) up h =
      let gone = absent e.0 es (and_yes (below_all nat_cmp e.0 es) (is_sorted nat_cmp es) up).0 in
      let own = h e.0 e.1 (ap (λ b. cond b (Some e.1) (find nat_cmp e.0 es)) (own_tie e.0)) in
      each-append P (of e.0 e.1) (flat_map (λ x. of x.0 x.1) es) own (each_of es (and_yes (below_all nat_cmp e.0 es) (is_sorted nat_cmp es) up).1
      (λ k v there. h k v (split (eqb k e.0) (λ _. find nat_cmp k (e ∷ es) ≡ Some v)
      (λ is. (let never : None ≡ Some v = sym gone ∙ ap (λ q. find nat_cmp q es) (sym (eqb-true k e.0 is)) ∙ there in cc))
      (λ is. ap (λ b. cond b (Some e.1) (find nat_cmp k es)) (order_test k e.0 ∙ is) ∙ there))))

  pub each_entry : (m : finite.FinMap nat_cmp V) → ((k : ℕ) (v : V) → finite.get m k ≡ Some v → Each P (of k v))
      → Each P (flat_map (λ e. of e.0 e.1) (finite.entries m))
  each_entry m h = each_of (finite.entries m) (entries_sorted m) (λ k v there. h k v (get-entries m k ∙ there))

pub store_of : (of : ℕ → List FullCell → List ℕ) → ((k : ℕ) → of k [] ≡ []) → (op : ℕ) (store : finite.FinMap nat_cmp (List FullCell))
    → ((k : ℕ) → k ≢ op → of k (stored_of store k) ≡ []) → flat_map (λ e. of e.0 e.1) (finite.entries store) ≡ of op (stored_of store op)
store_of of none op store h = map_of (λ k o. of k (unwrap_or o [])) none op store h

module _ {R : Type 0} (f : Semantics R) (g : Given) (z : Seeing) where
  abbrev mine : ℕ → Bool
  mine = (frame (S f g) z).mine

  pub only_those : (ps : List ℕ) → only_mine (frame (S f g) z) ps ≡ filter mine ps
  only_those [] = refl
  only_those (p ∷ ps) = ap (λ v. if mine p then p ∷ v else v) (only_those ps)

  abbrev held_in : EventRule FullCell → List ℕ
  held_in r = filter mine (numbers r.held)

  -- the rules of other moves hold nothing of the unit
  other_rule : (r : EventRule FullCell) → RuleLabel (S f g) z (outline_rule r) → eqb r.op z.op.num ≡ false → held_in r ≡ []
  other_rule r label off = sym (only_those (numbers r.held)) ∙ label.1 off

  other_rules : (rs : List (EventRule FullCell)) → HasNone z.op.num rs → Each (RuleLabel (S f g) z) (map outline_rule rs) → flat_map held_in rs ≡ []
  other_rules [] none h = refl
  other_rules (r ∷ rs) none h = rw (other_rule r h.0 none.0, other_rules rs none.1 h.1) refl

  pub held_is : (rs : List (EventRule FullCell)) → HaveOneEach rs → Each (RuleLabel (S f g) z) (map outline_rule rs)
      → flat_map held_in rs ≡ only_mine (frame (S f g) z) (held_of (find_rule z.op.num (map outline_rule rs)))
  held_is [] one h = refl
  held_is (r ∷ rs) one h =
      split (eqb r.op z.op.num)
      (λ b. held_in r ++ flat_map held_in rs ≡ only_mine (frame (S f g) z)
      (held_of (if b then Some (outline_rule r) else find_rule z.op.num (map outline_rule rs))))
      (λ is.
      let rest = other_rules rs (none_behind rs z.op.num r.op is (IsDistinct-head nat_eq r.op (map (λ x. x.op) rs) one)) h.1 in
      ap (λ v. held_in r ++ v) rest ∙ append-nil (held_in r) ∙ sym (only_those (numbers r.held)))
      (λ off. ap (λ v. v ++ flat_map held_in rs) (other_rule r h.0 off) ∙ held_is rs (IsDistinct-tail nat_eq r.op (map (λ x. x.op) rs) one) h.1)

-- Of a unit that no move has, rules hold nothing.
module _ {R : Type 0} (f : Semantics R) (g : Given) (u : Unit) where
  abbrev its : ℕ → Bool
  its p = same_unit ((S f g).packet_unit p) u

  pub those_mine : (ps : List ℕ) → filter its ps ≡ none_mine (S f g) u ps
  those_mine [] = refl
  those_mine (p ∷ ps) = ap (λ v. if its p then p ∷ v else v) (those_mine ps)

  pub held_none : (rs : List (EventRule FullCell)) → Each (RestRule (S f g) u) (map outline_rule rs) → flat_map (λ r. filter its (numbers r.held)) rs ≡ []
  held_none [] h = refl
  held_none (r ∷ rs) h =
      let own : filter its (numbers r.held) ≡ [] = those_mine (numbers r.held) ∙ h.0.1 in
      rw (own, held_none rs h.1) refl
