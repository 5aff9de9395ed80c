-- Of the entries that a flow meets, one at most in each group, the one with the least place is the first rule that matches.
use Rattle.std.proofs.Common.{◌≡◌, ℕ, ◌+◌, ◌<◌, ◌≤◌, Bool, true, false, cond, ltb, ◌&&◌, ◌||◌, List, [], ◌∷◌, ◌++◌}
use Rattle.std.proofs.Common.{map, length, take, get_or, Option, None, Some, refl, ap, sym, subst, ◌∙◌, arith}
use Rattle.std.specs.Prelude.{find, option_map}
use Rattle.std.specs.List.{list_any, enumerate_from, filter_map, cons_option, AllByRecursion}
use Rattle.std.proofs.lemmas.Bool.{lt-ltb, le-ltb, ltb-true, ltb-false}
use Rattle.std.proofs.lemmas.Option.{same_Some}
use Rattle.std.proofs.lemmas.List.Elements.{recursion_from_All, filter_map-append}
use Rattle.std.proofs.lemmas.List.{take_more}
use Rattle.std.proofs.lemmas.List.Folds.{list_any_at}
use Rattle.flow_filter.specs.declared.flow.Flow.{Flow}
use Rattle.flow_filter.specs.Flow.{flow_eq}
use Rattle.flow_filter.specs.Filter.{matches, IsFlow}
use Rattle.switch_rules.specs.declared.mask.Mask.{Mask}
use Rattle.switch_rules.specs.declared.group.Group.{Group}
use Rattle.switch_rules.specs.declared.group.Placed.{Placed}
use Rattle.switch_rules.specs.Masks.{mask_of, values_of, masked, mask_eq}
use Rattle.switch_rules.specs.Rules.{Rule, first_match}
use Rattle.switch_rules.specs.Groups.{AreGroups, masks_of, has_key, first_placed, entry, entries_met, nearer, least, answer}
use Rattle.switch_rules.proofs.MaskLemmas.{mask_eq_same, mask_eq_refl, mask_eq_flips, matches-masked}
use Rattle.switch_rules.proofs.MaskLists.{has_mask, any-masks_of}
use Rattle.switch_rules.proofs.PlacedRules.{placed, place_from, find-enumerate_from}

-- the first of numbered rules with the mask that matches the flow
abbrev candidate : Flow → ℕ → List Rule → Mask → Option Placed
candidate flow n rules m = option_map placed (find (λ x. has_mask m x.1 && matches x.1.0 flow) (enumerate_from n rules))

nearer_three : (a b c : Option Placed) → nearer (nearer a b) c ≡ nearer a (nearer b c)
nearer_three None b c = refl
nearer_three (Some p) None c = refl
nearer_three (Some p) (Some q) None = refl
nearer_three (Some p) (Some q) (Some r) = elim (ltb q.place p.place) as (λ b. ltb q.place p.place ≡ b
    → nearer (Some (cond b q p)) (Some r) ≡ Some (cond (ltb (cond (ltb r.place q.place) r q).place p.place) (cond (ltb r.place q.place) r q) p)) [
      | true ↦ λ first. elim (ltb r.place q.place)
          as (λ b. ltb r.place q.place ≡ b → Some (cond b r q) ≡ Some (cond (ltb (cond b r q).place p.place) (cond b r q) p)) [
            | true ↦ λ second. rw (lt-ltb r.place p.place (let a = ltb-true _ _ first in let b = ltb-true _ _ second in omega arith)) refl
            | false ↦ λ second. rw first refl
          ] refl
      | false ↦ λ first. elim (ltb r.place q.place)
          as (λ b. ltb r.place q.place ≡ b → Some (cond (ltb r.place p.place) r p) ≡ Some (cond (ltb (cond b r q).place p.place) (cond b r q) p)) [
            | true ↦ λ second. refl
            | false ↦ λ second. rw (first, le-ltb r.place p.place (let a = ltb-false _ _ first in let b = ltb-false _ _ second in omega arith)) refl
          ] refl
    ] refl

-- one more entry, or none
pub least-push : (ps : List Placed) (o : Option Placed) → least (ps ++ cons_option o []) ≡ nearer (least ps) o
least-push [] None = refl
least-push [] (Some p) = refl
least-push (p ∷ ps) o = ap (nearer (Some p)) (least-push ps o) ∙ sym (nearer_three (Some p) (least ps) o)

-- one more group
pub least-met_more : (gs : List Group) (flow : Flow) (i : ℕ) (g : Group) → i < length gs → g ≡ get_or gs i g
    → least (entries_met (take (i + 1) gs) flow) ≡ nearer (least (entries_met (take i gs) flow)) (entry g (masked g.mask flow))
least-met_more gs flow i g within read =
    ap (λ xs. least (entries_met xs flow)) (take_more gs i g within ∙ ap (λ x. take i gs ++ x ∷ []) (sym read))
    ∙ ap least (filter_map-append (λ x. entry x (masked x.mask flow)) (take i gs) (g ∷ []))
    ∙ least-push (entries_met (take i gs) flow) (entry g (masked g.mask flow))

-- a rule has the masked flow under the mask exactly where it has the mask and matches the flow
key_matches : (flow : Flow) → IsFlow flow → (m : Mask) (r : Rule) (test : Bool) → has_mask m r ≡ test
    → (test && flow_eq (values_of r.0) (masked m flow)) ≡ (test && matches r.0 flow)
key_matches flow fits m r true is =
    ap (λ x. flow_eq (values_of r.0) (masked x flow)) (sym (mask_eq_same _ _ is)) ∙ sym (matches-masked r.0 flow fits)
key_matches flow fits m r false is = refl

found : (flow : Flow) → IsFlow flow → (m : Mask) (n : ℕ) (rules : List Rule)
    → find (λ x. has_key m (masked m flow) x.1) (enumerate_from n rules) ≡ find (λ x. has_mask m x.1 && matches x.1.0 flow) (enumerate_from n rules)
found flow fits m n [] = refl
found flow fits m n (x ∷ rules) = rw (key_matches flow fits m x (has_mask m x) refl, found flow fits m (n + 1) rules) refl

met_candidates : (flow : Flow) → IsFlow flow → (rules : List Rule) (gs : List Group)
    → AllByRecursion (λ g. (key : Flow) → entry g key ≡ first_placed rules g.mask key) gs
    → entries_met gs flow ≡ filter_map (candidate flow 0 rules) (map (λ g. g.mask) gs)
met_candidates flow fits rules [] all = refl
met_candidates flow fits rules (g ∷ gs) all =
    ap (λ o. cons_option o (entries_met gs flow)) (all.0 (masked g.mask flow) ∙ ap (option_map placed) (found flow fits g.mask 0 rules))
    ∙ ap (cons_option (candidate flow 0 rules g.mask)) (met_candidates flow fits rules gs all.1)

filter_map-same : (f g : Mask → Option Placed) → ((m : Mask) → f m ≡ g m) → (ms : List Mask) → filter_map f ms ≡ filter_map g ms
filter_map-same f g same [] = refl
filter_map-same f g same (m ∷ ms) = rw (same m, filter_map-same f g same ms) refl

filter_map-none : (ms : List Mask) → filter_map {Y = Placed} (λ m. None) ms ≡ []
filter_map-none [] = refl
filter_map-none (m ∷ ms) = filter_map-none ms

-- the best of some entries: p where it is among them, and else one behind it
abbrev IsBest : Placed → Bool → Option Placed → Type 0
IsBest p true o = o ≡ Some p
IsBest p false o = (q : Placed) → o ≡ Some q → p.place < q.place

best_itself : (p : Placed) (there : Bool) (o : Option Placed) → IsBest p there o → nearer (Some p) o ≡ Some p
best_itself p true o is = rw (is, le-ltb p.place p.place (omega arith)) refl
best_itself p false None is = refl
best_itself p false (Some q) is = let behind : p.place < q.place = is q refl in rw (le-ltb q.place p.place (omega arith)) refl

best_behind : (p q : Placed) (there : Bool) (o : Option Placed) → p.place < q.place → IsBest p there o → IsBest p there (nearer (Some q) o)
best_behind p q true o behind is = rw (is, lt-ltb p.place q.place behind) refl
best_behind p q false None behind is = λ r e. subst (λ y. p.place < y.place) (same_Some q r e) behind
best_behind p q false (Some x) behind is = λ r e. elim (ltb x.place q.place) as (λ b. Some (cond b x q) ≡ Some r → p.place < r.place) [
  | true ↦ λ d. subst (λ y. p.place < y.place) (same_Some x r d) (is x refl)
  | false ↦ λ d. subst (λ y. p.place < y.place) (same_Some q r d) behind
] e

-- where the first rule matches, its entry is the best
first_best : (p : Placed) (mask : Mask) (rest : Mask → Option Placed) → ((m : Mask) (q : Placed) → rest m ≡ Some q → p.place < q.place) → (ms : List Mask)
    → IsBest p (list_any (mask_eq mask) ms) (least (filter_map (λ m. cond (mask_eq mask m) (Some p) (rest m)) ms))
first_best p mask rest behind [] = λ q e. cc
first_best p mask rest behind (m ∷ ms) = elim (mask_eq mask m) as (λ b. IsBest p (b || list_any (mask_eq mask) ms)
    (least (cons_option (cond b (Some p) (rest m)) (filter_map (λ k. cond (mask_eq mask k) (Some p) (rest k)) ms)))) [
      | true ↦ best_itself p (list_any (mask_eq mask) ms) _ (first_best p mask rest behind ms)
      | false ↦ elim (rest m)
          as (λ o. rest m ≡ o → IsBest p (list_any (mask_eq mask) ms) (least (cons_option o (filter_map (λ k. cond (mask_eq mask k) (Some p) (rest k)) ms)))) [
            | None ↦ λ none. first_best p mask rest behind ms
            | Some q ↦ λ some. best_behind p q (list_any (mask_eq mask) ms) _ (behind m q some) (first_best p mask rest behind ms)
          ] refl
    ]

candidate_place : (flow : Flow) (n : ℕ) (rules : List Rule) (m : Mask) (q : Placed) → candidate flow n rules m ≡ Some q → n ≤ q.place
candidate_place flow n rules m q is = elim (find (λ x. has_mask m x.1 && matches x.1.0 flow) (enumerate_from n rules)) as (λ o.
    find (λ x. has_mask m x.1 && matches x.1.0 flow) (enumerate_from n rules) ≡ o → option_map placed o ≡ Some q → n ≤ q.place) [
      | None ↦ λ none e. cc
      | Some r ↦ λ some e. subst (λ y. n ≤ y.place) (same_Some (placed r) q e) (place_from (λ x. has_mask m x && matches x.0 flow) n rules r some)
    ] refl is

taken : (test : Bool) (x : ℕ × Rule) (o : Option (ℕ × Rule))
    → option_map placed (cond (test && true) (Some x) o) ≡ cond test (Some (placed x)) (option_map placed o)
taken true x o = refl
taken false x o = refl

passed : (test : Bool) (x : ℕ × Rule) (o : Option (ℕ × Rule)) → option_map placed (cond (test && false) (Some x) o) ≡ option_map placed o
passed true x o = refl
passed false x o = refl

-- the best entry is the first rule that matches
best_first : (flow : Flow) (ms : List Mask) (n : ℕ) (rules : List Rule) → AllByRecursion (λ r. list_any (mask_eq (mask_of r.0)) ms ≡ true) rules
    → least (filter_map (candidate flow n rules) ms) ≡ option_map placed (find (λ x. matches x.1.0 flow) (enumerate_from n rules))
best_first flow ms n [] all = ap least (filter_map-none ms)
best_first flow ms n (x ∷ rules) all =
    let rest : Mask → Option (ℕ × Rule) = λ m. find (λ y. has_mask m y.1 && matches y.1.0 flow) (enumerate_from (n + 1) rules) in
    let p : Placed = placed (n, x) in
    elim (matches x.0 flow) as (λ b. least (filter_map (λ m. option_map placed (cond (has_mask m x && b) (Some (n, x)) (rest m))) ms)
    ≡ option_map placed (cond b (Some (n, x)) (find (λ y. matches y.1.0 flow) (enumerate_from (n + 1) rules)))) [
      | true ↦ ap least
          (filter_map-same _ (λ m. cond (mask_eq (mask_of x.0) m) (Some p) (candidate flow (n + 1) rules m)) (λ m. taken (has_mask m x) (n, x) (rest m)) ms)
          ∙ subst (λ b. IsBest p b (least (filter_map (λ m. cond (mask_eq (mask_of x.0) m) (Some p) (candidate flow (n + 1) rules m)) ms))) all.0
          (first_best p (mask_of x.0) (candidate flow (n + 1) rules)
          (λ m q is. let later = candidate_place flow (n + 1) rules m q is in omega (arith, later)) ms)
      | false ↦ ap least (filter_map-same _ (candidate flow (n + 1) rules) (λ m. passed (has_mask m x) (n, x) (rest m)) ms)
          ∙ best_first flow ms (n + 1) rules all.1
    ]

any_flips : (m : Mask) (ms : List Mask) → list_any (mask_eq m) ms ≡ list_any (λ k. mask_eq k m) ms
any_flips m [] = refl
any_flips m (k ∷ ms) = rw (mask_eq_flips m k, any_flips m ms) refl

-- each rule's mask is among the masks
pub masks_there : (rules : List Rule) → AllByRecursion (λ r. list_any (mask_eq (mask_of r.0)) (masks_of rules) ≡ true) rules
masks_there rules = recursion_from_All (λ r. list_any (mask_eq (mask_of r.0)) (masks_of rules) ≡ true) rules (λ k d within.
    let m : Mask = mask_of (get_or rules k d).0 in
    any_flips m (masks_of rules) ∙ any-masks_of m rules ∙ list_any_at (has_mask m) rules k d within (mask_eq_refl m))

targets : (o : Option (ℕ × Rule)) → option_map (λ p. p.target) (option_map placed o) ≡ option_map (λ r. r.1) (option_map (λ x. x.1) o)
targets None = refl
targets (Some x) = refl

-- the answer of the groups is the first match of the rules
pub answer-first : (rules : List Rule) (gs : List Group) → AreGroups rules gs → (flow : Flow) → IsFlow flow → answer gs flow ≡ first_match rules flow
answer-first rules gs are flow fits =
    ap (λ ps. option_map (λ p. p.target) (least ps))
    (met_candidates flow fits rules gs (recursion_from_All (λ g. (key : Flow) → entry g key ≡ first_placed rules g.mask key) gs are.entries)
    ∙ ap (filter_map (candidate flow 0 rules)) are.masks)
    ∙ ap (option_map (λ p. p.target)) (best_first flow (masks_of rules) 0 rules (masks_there rules))
    ∙ targets (find (λ x. matches x.1.0 flow) (enumerate_from 0 rules))
    ∙ ap (option_map (λ r. r.1)) (find-enumerate_from (λ r. matches r.0 flow) 0 rules)
