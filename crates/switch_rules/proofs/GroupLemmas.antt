-- One more rule: what it adds to the groups of the rules before it.
use Rattle.std.proofs.Common.{◌≡◌, ℕ, zero, suc, ◌+◌, ◌<◌, Bool, true, false, cond, not, ◌&&◌, List, [], ◌∷◌, ◌++◌, length}
use Rattle.std.proofs.Common.{map, set, take, get_or, Option, None, Some, is_some, refl, ap, sym, subst, ◌∙◌, arith}
use Rattle.std.specs.Prelude.{position}
use Rattle.std.specs.List.{list_any, IsDistinct, AllByRecursion}
use Rattle.std.specs.Option.{option_or}
use Rattle.std.proofs.lemmas.Bool.{true≢false, false_from_ne_true, or_parts}
use Rattle.std.proofs.Math.Seq.{map-set_same}
use Rattle.std.proofs.lemmas.List.{map-append, take_more, length-take-le}
use Rattle.std.proofs.lemmas.List.Elements.{All-from_recursion, recursion_from_All, All-push, All-get_or}
use Rattle.std.proofs.lemmas.List.Folds.{list_any_at}
use Rattle.std.proofs.lemmas.List.Quantifiers.{position-Some}
use Rattle.std.proofs.lemmas.Map.Keys.{IsDistinct-head, IsDistinct-tail}
use Rattle.basics.proofs.ListLemmas.{none_passes}
use Rattle.flow_filter.specs.declared.flow.Flow.{Flow}
use Rattle.flow_filter.specs.Flow.{flow_eq}
use Rattle.switch_rules.specs.declared.mask.Mask.{Mask}
use Rattle.switch_rules.specs.declared.group.Group.{Group}
use Rattle.switch_rules.specs.declared.group.Placed.{Placed}
use Rattle.switch_rules.specs.Masks.{mask_of, values_of, mask_eq}
use Rattle.switch_rules.specs.Rules.{Rule}
use Rattle.switch_rules.specs.Groups.{AreGroups, masks_of, has_key, first_placed, entry}
use Rattle.switch_rules.proofs.MaskLemmas.{mask_eq_same, mask_eq_refl, flow_eq_same}
use Rattle.switch_rules.proofs.MaskLists.{has_mask, any-map, any-masks_of, masks_of-push_known, masks_of-push_new, IsDistinct-masks_of}
use Rattle.switch_rules.proofs.PlacedRules.{first_placed-push, first_placed-none}

-- the group has the entries of the rules under its mask
abbrev Has : List Rule → Group → Type 0
Has rules g = (key : Flow) → entry g key ≡ first_placed rules g.mask key

-- a rule as an entry, behind so many rules
abbrev pub last : List Rule → Rule → Placed
last rules r = record { place = length rules; target = r.1 }

or_none : (o : Option Placed) → option_or o None ≡ o
or_none None = refl
or_none (Some x) = refl

-- groups of another mask stay as they are
other_group : (rules : List Rule) (r : Rule) (g : Group) → Has rules g → mask_eq (mask_of r.0) g.mask ≡ false → Has (rules ++ r ∷ []) g
other_group rules r g has apart key = has key ∙ sym (first_placed-push rules r g.mask key
    ∙ ap (λ b. option_or (first_placed rules g.mask key) (cond (b && flow_eq (values_of r.0) key) (Some (last rules r)) None)) apart
    ∙ or_none (first_placed rules g.mask key))

by_old : (o : Option Placed) (p : Placed) → cond (not (is_some o)) (Some p) o ≡ option_or o (Some p)
by_old None p = refl
by_old (Some x) p = refl

-- the entry of a rule, where there is none at its masked flow yet
entry_added : (old : Flow → Option Placed) (key k : Flow) (test : Bool) (p : Placed) → flow_eq key k ≡ test
    → cond (test && not (is_some (old key))) (Some p) (old k) ≡ option_or (old k) (cond test (Some p) None)
entry_added old key k true p is = let same : key ≡ k = flow_eq_same key k is in rw same (by_old (old k) p)
entry_added old key k false p is = sym (or_none (old k))

-- the group of the rule's mask, with its entry added
own_group : (rules : List Rule) (r : Rule) (g g' : Group) → Has rules g → g'.mask ≡ g.mask → mask_eq (mask_of r.0) g.mask ≡ true
    → ((key : Flow) → entry g' key ≡ cond (flow_eq (values_of r.0) key && not (is_some (entry g (values_of r.0)))) (Some (last rules r)) (entry g key))
    → Has (rules ++ r ∷ []) g'
own_group rules r g g' has mask is own key =
    own key ∙ entry_added (entry g) (values_of r.0) key (flow_eq (values_of r.0) key) (last rules r) refl
    ∙ ap (λ o. option_or o (cond (flow_eq (values_of r.0) key) (Some (last rules r)) None)) (has key)
    ∙ ap (λ b. option_or (first_placed rules g.mask key) (cond (b && flow_eq (values_of r.0) key) (Some (last rules r)) None)) (sym is)
    ∙ sym (first_placed-push rules r g.mask key) ∙ ap (λ m. first_placed (rules ++ r ∷ []) m key) (sym mask)

-- a group of the rule alone
new_group : (rules : List Rule) (r : Rule) (g : Group) → list_any (has_mask (mask_of r.0)) rules ≡ false → g.mask ≡ mask_of r.0
    → ((key : Flow) → entry g key ≡ cond (flow_eq (values_of r.0) key) (Some (last rules r)) None) → Has (rules ++ r ∷ []) g
new_group rules r g new mask own key =
    own key
    ∙ ap (λ b. cond (b && flow_eq (values_of r.0) key) (Some (last rules r)) None) (sym (mask_eq_refl (mask_of r.0)))
    ∙ ap (λ o. option_or o (cond (has_key (mask_of r.0) key r) (Some (last rules r)) None)) (sym (first_placed-none rules (mask_of r.0) key new))
    ∙ sym (first_placed-push rules r (mask_of r.0) key) ∙ ap (λ m. first_placed (rules ++ r ∷ []) m key) (sym mask)

-- masks other than the one that stands before them
others_apart : (x m : Mask) (gs : List Group) → mask_eq x m ≡ true → AllByRecursion (λ y. mask_eq x y ≡ false) (map (λ g. g.mask) gs)
    → AllByRecursion (λ g. mask_eq m g.mask ≡ false) gs
others_apart x m [] same apart = tt
others_apart x m (g ∷ gs) same apart = (ap (λ y. mask_eq y g.mask) (sym (mask_eq_same x m same)) ∙ apart.0, others_apart x m gs same apart.1)

all_kept : (P Q : Group → Type 0) (m : Mask) (gs : List Group) → ((x : Group) → P x → mask_eq m x.mask ≡ false → Q x)
    → AllByRecursion (λ g. mask_eq m g.mask ≡ false) gs → AllByRecursion P gs → AllByRecursion Q gs
all_kept P Q m [] keeps apart all = tt
all_kept P Q m (x ∷ gs) keeps apart all = (keeps x all.0 apart.0, all_kept P Q m gs keeps apart.1 all.1)

-- a mask that stands before the place of another isn't that one
apart_before : (x m : Mask) (gs : List Group) (i : ℕ) (g : Group) → i < length gs → mask_eq (get_or gs i g).mask m ≡ true
    → AllByRecursion (λ y. mask_eq x y ≡ false) (map (λ y. y.mask) gs) → mask_eq m x ≡ false
apart_before x m [] i g within here apart = absurd (omega (arith, within))
apart_before x m (y ∷ gs) zero g within here apart = false_from_ne_true (mask_eq m x) (λ is.
    let to_m = mask_eq_same y.mask m here in let to_x = mask_eq_same m x is in
    true≢false (sym (mask_eq_refl x) ∙ ap (mask_eq x) (sym (to_m ∙ to_x)) ∙ apart.0))
apart_before x m (y ∷ gs) (suc i) g within here apart = apart_before x m gs i g (omega arith) here apart.1

-- the group at the place of a mask is changed, and the others keep what holds of groups of other masks
changed_group : (P Q : Group → Type 0) (m : Mask) (gs : List Group) (i : ℕ) (g g' : Group) → IsDistinct mask_eq (map (λ x. x.mask) gs)
    → ((x : Group) → P x → mask_eq m x.mask ≡ false → Q x) → mask_eq (get_or gs i g).mask m ≡ true → i < length gs → AllByRecursion P gs → Q g'
    → AllByRecursion Q (set gs i g')
changed_group P Q m [] i g g' distinct keeps is within all new = tt
changed_group P Q m (x ∷ gs) zero g g' distinct keeps is within all new =
    (new, all_kept P Q m gs keeps (others_apart x.mask m gs is (IsDistinct-head mask_eq x.mask _ distinct)) all.1)
changed_group P Q m (x ∷ gs) (suc i) g g' distinct keeps is within all new = (
  keeps x all.0 (apart_before x.mask m gs i g (omega arith) is (IsDistinct-head mask_eq x.mask _ distinct)),
  changed_group P Q m gs i g g' (IsDistinct-tail mask_eq x.mask _ distinct) keeps is (omega arith) all.1 new,
)

-- a rule has a mask exactly where a group has it
any_group : (rules : List Rule) (gs : List Group) (m : Mask) → AreGroups rules gs → list_any (has_mask m) rules ≡ list_any (λ g. mask_eq g.mask m) gs
any_group rules gs m are = sym (any-masks_of m rules) ∙ ap (list_any (λ k. mask_eq k m)) (sym are.masks) ∙ any-map (λ k. mask_eq k m) (λ g. g.mask) gs

-- one more rule of a mask that has a group
pub add_to_group : (rules : List Rule) (gs : List Group) (r : Rule) (i : ℕ) (g g' : Group) → AreGroups rules gs
    → position (λ x. mask_eq x.mask (mask_of r.0)) gs ≡ Some i → g ≡ get_or gs i g → g'.mask ≡ g.mask
    → ((key : Flow) → entry g' key ≡ cond (flow_eq (values_of r.0) key && not (is_some (entry g (values_of r.0)))) (Some (last rules r)) (entry g key))
    → AreGroups (rules ++ r ∷ []) (set gs i g')
add_to_group rules gs r i g g' are at is mask own =
    let place = position-Some (λ x. mask_eq x.mask (mask_of r.0)) gs i g at in
    let within : i < length gs = place.0 in
    let here : mask_eq (get_or gs i g).mask (mask_of r.0) ≡ true = place.1 in
    let known : list_any (has_mask (mask_of r.0)) rules ≡ true = any_group rules gs (mask_of r.0) are
    ∙ list_any_at (λ x. mask_eq x.mask (mask_of r.0)) gs i g within here in
    let has : Has rules g = subst (Has rules) (sym is) (All-get_or (Has rules) gs i g within are.entries) in
    let same : mask_eq (mask_of r.0) g.mask ≡ true = ap (mask_eq (mask_of r.0)) (ap (λ x. x.mask) is ∙ mask_eq_same _ _ here) ∙ mask_eq_refl (mask_of r.0) in
    record {
      masks = map-set_same (λ x. x.mask) gs i g' g (mask ∙ ap (λ x. x.mask) is) ∙ are.masks ∙ sym (masks_of-push_known rules r known);
      entries = All-from_recursion (Has (rules ++ r ∷ [])) (set gs i g') (changed_group (Has rules) (Has (rules ++ r ∷ [])) (mask_of r.0) gs i g g'
          (subst (IsDistinct mask_eq) (sym are.masks) (IsDistinct-masks_of rules)) (other_group rules r) here within
          (recursion_from_All (Has rules) gs are.entries) (own_group rules r g g' has mask same own));
    }

none_apart : (m : Mask) (gs : List Group) → list_any (λ g. mask_eq g.mask m) gs ≡ false → AllByRecursion (λ g. mask_eq m g.mask ≡ false) gs
none_apart m [] none = tt
none_apart m (g ∷ gs) none =
    let apart = or_parts (mask_eq g.mask m) _ none in (
      false_from_ne_true (mask_eq m g.mask) (λ is. true≢false (sym (mask_eq_refl m) ∙ ap (λ y. mask_eq y m) (mask_eq_same m g.mask is) ∙ apart.0)),
      none_apart m gs apart.1,
    )

-- one more rule of a mask that has no group
pub add_group : (rules : List Rule) (gs : List Group) (r : Rule) (g : Group) → AreGroups rules gs
    → position (λ x. mask_eq x.mask (mask_of r.0)) gs ≡ None → g.mask ≡ mask_of r.0
    → ((key : Flow) → entry g key ≡ cond (flow_eq (values_of r.0) key) (Some (last rules r)) None)
    → AreGroups (rules ++ r ∷ []) (gs ++ g ∷ [])
add_group rules gs r g are at mask own =
    let absent : list_any (λ x. mask_eq x.mask (mask_of r.0)) gs ≡ false = none_passes (λ x. mask_eq x.mask (mask_of r.0)) gs at in
    let new : list_any (has_mask (mask_of r.0)) rules ≡ false = any_group rules gs (mask_of r.0) are ∙ absent in
    record {
      masks = map-append (λ x. x.mask) gs (g ∷ []) ∙ ap (λ ms. ms ++ g.mask ∷ []) are.masks ∙ ap (λ m. masks_of rules ++ m ∷ []) mask
          ∙ sym (masks_of-push_new rules r new);
      entries = All-push (Has (rules ++ r ∷ [])) gs g
          (All-from_recursion (Has (rules ++ r ∷ [])) gs (all_kept (Has rules) (Has (rules ++ r ∷ [])) (mask_of r.0) gs (other_group rules r)
          (none_apart (mask_of r.0) gs absent) (recursion_from_All (Has rules) gs are.entries))) (new_group rules r g new mask own);
    }

-- one more rule in a loop
pub AreGroups-more : (rules : List Rule) (i : ℕ) (r : Rule) (gs : List Group) → i < length rules → r ≡ get_or rules i r
    → (length (take i rules) ≡ i → AreGroups (take i rules ++ r ∷ []) gs) → AreGroups (take (i + 1) rules) gs
AreGroups-more rules i r gs within read are = subst (λ rs. AreGroups rs gs)
    (sym (take_more rules i r within ∙ ap (λ x. take i rules ++ x ∷ []) (sym read))) (are (length-take-le i rules (omega arith)))
