-- The first of numbered rules that passes a test, and what one more rule adds.
use Rattle.std.proofs.Common.{◌≡◌, ℕ, ◌+◌, ◌≤◌, Bool, true, false, cond, ◌&&◌, ◌||◌, List, [], ◌∷◌, ◌++◌, length, Option, None, Some, refl, ap, ◌∙◌, arith, suc}
use Rattle.std.specs.Prelude.{find, option_map}
use Rattle.std.specs.List.{list_any, enumerate_from}
use Rattle.std.specs.Option.{option_or}
use Rattle.std.proofs.lemmas.List.Folds.{find-append}
use Rattle.flow_filter.specs.declared.flow.Flow.{Flow}
use Rattle.flow_filter.specs.Flow.{flow_eq}
use Rattle.switch_rules.specs.declared.mask.Mask.{Mask}
use Rattle.switch_rules.specs.declared.group.Placed.{Placed}
use Rattle.switch_rules.specs.Masks.{mask_of, values_of, mask_eq}
use Rattle.switch_rules.specs.Rules.{Rule}
use Rattle.switch_rules.specs.Groups.{has_key, first_placed}
use Rattle.switch_rules.proofs.MaskLists.{has_mask}

-- a numbered rule as an entry
abbrev pub placed : ℕ × Rule → Placed
placed r = record { place = r.0; target = r.1.1 }

pub enumerate_from-push : (n : ℕ) (rules : List Rule) (r : Rule) → enumerate_from n (rules ++ r ∷ []) ≡ enumerate_from n rules ++ (n + length rules, r) ∷ []
enumerate_from-push n [] r = let none : n ≡ n + 0 = omega arith in ap (λ k. (k, r) ∷ []) none
enumerate_from-push n (x ∷ rules) r =
    let next : n + 1 + length rules ≡ n + suc (length rules) = omega arith in
    ap (λ rs. (n, x) ∷ rs) (enumerate_from-push (n + 1) rules r ∙ ap (λ k. enumerate_from (n + 1) rules ++ (k, r) ∷ []) next)

map_or : {A B : Type 0} (f : A → B) (a b : Option A) → option_map f (option_or a b) ≡ option_or (option_map f a) (option_map f b)
map_or f None b = refl
map_or f (Some x) b = refl

map_cond : {A B : Type 0} (f : A → B) (test : Bool) (x : A) → option_map f (cond test (Some x) None) ≡ cond test (Some (f x)) None
map_cond f true x = refl
map_cond f false x = refl

-- one more rule is found where none before it is
pub first_placed-push : (rules : List Rule) (r : Rule) (m : Mask) (key : Flow)
    → first_placed (rules ++ r ∷ []) m key
    ≡ option_or (first_placed rules m key) (cond (has_key m key r) (Some (record { place = length rules; target = r.1 })) None)
first_placed-push rules r m key =
    let same : 0 + length rules ≡ length rules = omega arith in
    ap (λ rs. option_map placed (find (λ x. has_key m key x.1) rs)) (enumerate_from-push 0 rules r ∙ ap (λ k. enumerate_from 0 rules ++ (k, r) ∷ []) same)
    ∙ ap (option_map placed) (find-append (λ x. has_key m key x.1) (enumerate_from 0 rules) ((length rules, r) ∷ []))
    ∙ map_or placed (find (λ x. has_key m key x.1) (enumerate_from 0 rules)) _
    ∙ ap (option_or (first_placed rules m key)) (map_cond placed (has_key m key r) (length rules, r))

none_from : (n : ℕ) (rules : List Rule) (m : Mask) (key : Flow) → list_any (has_mask m) rules ≡ false
    → find (λ x. has_key m key x.1) (enumerate_from n rules) ≡ None
none_from n [] m key none = refl
none_from n (x ∷ rules) m key none = elim (mask_eq (mask_of x.0) m) as (λ b. (b || list_any (has_mask m) rules) ≡ false
    → cond (b && flow_eq (values_of x.0) key) (Some (n, x)) (find (λ y. has_key m key y.1) (enumerate_from (n + 1) rules)) ≡ None) [
      | true ↦ λ e. cc
      | false ↦ λ e. none_from (n + 1) rules m key e
    ] none

-- rules without the mask give no entry under it
pub first_placed-none : (rules : List Rule) (m : Mask) (key : Flow) → list_any (has_mask m) rules ≡ false → first_placed rules m key ≡ None
first_placed-none rules m key none = ap (option_map placed) (none_from 0 rules m key none)

-- the place of what is found isn't before the first
pub place_from : (p : Rule → Bool) (n : ℕ) (rules : List Rule) (r : ℕ × Rule) → find (λ x. p x.1) (enumerate_from n rules) ≡ Some r → n ≤ r.0
place_from p n [] r is = cc
place_from p n (x ∷ rules) r is = elim (p x) as (λ b. cond b (Some (n, x)) (find (λ y. p y.1) (enumerate_from (n + 1) rules)) ≡ Some r → n ≤ r.0) [
  | true ↦ λ e. let same : n ≡ r.0 = cc in omega arith
  | false ↦ λ e. let later : n + 1 ≤ r.0 = place_from p (n + 1) rules r e in omega arith
] is

-- a numbered rule is found exactly where its rule is
pub find-enumerate_from : (p : Rule → Bool) (n : ℕ) (rules : List Rule) → option_map (λ x. x.1) (find (λ x. p x.1) (enumerate_from n rules)) ≡ find p rules
find-enumerate_from p n [] = refl
find-enumerate_from p n (x ∷ rules) =
    elim (p x) as (λ b. option_map (λ y. y.1) (cond b (Some (n, x)) (find (λ y. p y.1) (enumerate_from (n + 1) rules))) ≡ cond b (Some x) (find p rules)) [
      | true ↦ refl
      | false ↦ find-enumerate_from p (n + 1) rules
    ]
