-- The masks of rules: each stands once, and one more rule adds its mask or none.
use Rattle.std.proofs.Common.{◌≡◌, Bool, true, false, cond, ◌||◌, List, [], ◌∷◌, ◌++◌, map, refl, ap, ◌∙◌}
use Rattle.std.specs.List.{list_any, IsDistinct, AllByRecursion}
use Rattle.std.proofs.lemmas.List.{append-nil, map-append}
use Rattle.switch_rules.specs.declared.mask.Mask.{Mask}
use Rattle.switch_rules.specs.Masks.{mask_of, mask_eq}
use Rattle.switch_rules.specs.Rules.{Rule, firsts}
use Rattle.switch_rules.specs.Groups.{masks_of}
use Rattle.switch_rules.proofs.MaskLemmas.{mask_eq_same}
use Rattle.switch_rules.proofs.Firsts.{firsts-push, any-firsts, IsDistinct-firsts}

-- a rule has the mask
abbrev pub has_mask : Mask → Rule → Bool
has_mask m r = mask_eq (mask_of r.0) m

pub any-map : {X Y : Type 0} (p : Y → Bool) (f : X → Y) (xs : List X) → list_any p (map f xs) ≡ list_any (λ x. p (f x)) xs
any-map p f [] = refl
any-map p f (x ∷ xs) = ap (λ b. p (f x) || b) (any-map p f xs)

no_premise : (ms : List Mask) → AllByRecursion (λ m. Unit {0}) ms
no_premise [] = tt
no_premise (m ∷ ms) = (tt, no_premise ms)

-- a mask is one of the rules' masks exactly where a rule has it
pub any-masks_of : (m : Mask) (rules : List Rule) → list_any (λ k. mask_eq k m) (masks_of rules) ≡ list_any (has_mask m) rules
any-masks_of m rules =
    any-firsts (λ k. Unit {0}) mask_eq m (λ x k _ _ is at. ap (λ y. mask_eq y m) (mask_eq_same x k is) ∙ at) (map (λ r. mask_of r.0) rules) (no_premise _)
    ∙ any-map (λ k. mask_eq k m) (λ r. mask_of r.0) rules

masks_of-push : (rules : List Rule) (r : Rule)
    → masks_of (rules ++ r ∷ []) ≡ masks_of rules ++ cond (list_any (has_mask (mask_of r.0)) rules) [] (mask_of r.0 ∷ [])
masks_of-push rules r =
    ap (firsts mask_eq) (map-append (λ x. mask_of x.0) rules (r ∷ [])) ∙ firsts-push mask_eq (map (λ x. mask_of x.0) rules) (mask_of r.0)
    ∙ ap (λ b. masks_of rules ++ cond b [] (mask_of r.0 ∷ [])) (any-map (λ k. mask_eq k (mask_of r.0)) (λ x. mask_of x.0) rules)

-- a rule whose mask is there adds none, and any other adds its own
pub masks_of-push_known : (rules : List Rule) (r : Rule) → list_any (has_mask (mask_of r.0)) rules ≡ true → masks_of (rules ++ r ∷ []) ≡ masks_of rules
masks_of-push_known rules r known = masks_of-push rules r ∙ ap (λ b. masks_of rules ++ cond b [] (mask_of r.0 ∷ [])) known ∙ append-nil (masks_of rules)

pub masks_of-push_new : (rules : List Rule) (r : Rule) → list_any (has_mask (mask_of r.0)) rules ≡ false
    → masks_of (rules ++ r ∷ []) ≡ masks_of rules ++ mask_of r.0 ∷ []
masks_of-push_new rules r new = masks_of-push rules r ∙ ap (λ b. masks_of rules ++ cond b [] (mask_of r.0 ∷ [])) new

-- no mask stands twice
pub IsDistinct-masks_of : (rules : List Rule) → IsDistinct mask_eq (masks_of rules)
IsDistinct-masks_of rules = IsDistinct-firsts mask_eq (map (λ r. mask_of r.0) rules)
