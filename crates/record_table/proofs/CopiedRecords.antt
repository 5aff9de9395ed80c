-- The records of some units, as they are copied one unit after another.
use Rattle.std.proofs.Common.{◌≡◌, ℕ, ◌+◌, ◌<◌, get_or, take, length, Bool, true, false, cond, List, [], ◌∷◌, ◌++◌, Option, Some, None, refl, sym, ap, ◌∙◌}
use Rattle.std.specs.Prelude.{◌||◌}
use Rattle.std.proofs.lemmas.List.{take_more}
use Rattle.std.specs.FinMap as finite
use Rattle.std.specs.FinMap.{get-empty, get-retain_keys}
use Rattle.nf_function.specs.declared.unit.Unit as units
use Rattle.nf_function.specs.Units.{unit_cmp}
use Rattle.std.specs.Option.{option_or}
use Rattle.record_table.specs.Table.{Records, same_unit, with_kept, is_among, replaced_by, TableView}
use Rattle.record_table.proofs.UnitOrder.{one_unit, same_unit-true}
use Rattle.record_table.proofs.RecordLookUps.{same_records, get-with_kept, with_kept_same, among_more, each_replaced}

copied_on : {X : Type 0} (a b : Bool) (o p : Option X) → (b ≡ true → o ≡ p) → cond b o (cond a p None) ≡ cond (a || b) p None
copied_on true true o p same = same refl
copied_on false true o p same = same refl
copied_on true false o p same = refl
copied_on false false o p same = refl

none_there : {X : Type 0} (b : Bool) (o : Option X) → o ≡ None → None ≡ cond b o None
none_there true o none = sym none
none_there false o none = refl

module _ {R : Type 0} where
  -- the records of these units
  abbrev pub those : List units.Unit → Records R → Records R
  those us m = finite.retain_keys m (is_among us)

  pub get-those : (us : List units.Unit) (m : Records R) (q : units.Unit) → finite.get (those us m) q ≡ cond (is_among us q) (finite.get m q) None
  get-those us m q = get-retain_keys m (is_among us) q (λ x t. ap (is_among us) (sym (one_unit q x t)))

  pub those_none : (m : Records R) → finite.empty ≡ those [] m
  those_none m = same_records finite.empty (those [] m) (λ q. get-empty unit_cmp q ∙ sym (get-those [] m q))

  -- the records of one unit more
  one_more : (us : List units.Unit) (u : units.Unit) (m : Records R) → with_kept (those us m) u (finite.get m u) ≡ those (us ++ u ∷ []) m
  one_more us u m = same_records (with_kept (those us m) u (finite.get m u)) (those (us ++ u ∷ []) m) (λ q.
      get-with_kept (those us m) u (finite.get m u) q ∙ ap (cond (same_unit q u) (finite.get m u)) (get-those us m q)
      ∙ copied_on (is_among us q) (same_unit q u) (finite.get m u) (finite.get m q) (λ h. ap (finite.get m) (sym (same_unit-true q u h)))
      ∙ ap (λ b. cond b (finite.get m q) None) (sym (among_more us u q)) ∙ sym (get-those (us ++ u ∷ []) m q))

  module _ (us : List units.Unit) (i : ℕ) (d : units.Unit) (m copies new : Records R) (within : i < length us) (so_far : copies ≡ those (take i us) m) where
    abbrev unit : units.Unit
    unit = get_or us i d

    one_further : with_kept (those (take i us) m) unit (finite.get m unit) ≡ those (take (i + 1) us) m
    one_further = one_more (take i us) unit m ∙ ap (λ vs. those vs m) (sym (take_more us i d within))

    -- one turn of the loop where the unit has a record
    pub copied_next : (r : R) → finite.get m unit ≡ Some r → new ≡ finite.insert copies unit r → new ≡ those (take (i + 1) us) m
    copied_next r there is = is ∙ ap (λ c. finite.insert c unit r) so_far ∙ sym (ap (with_kept (those (take i us) m) unit) there) ∙ one_further

    -- one turn where it has none
    pub passed_over : finite.get m unit ≡ None → new ≡ copies → new ≡ those (take (i + 1) us) m
    passed_over none is = is ∙ so_far
        ∙ sym (ap (with_kept (those (take i us) m) unit) none ∙ with_kept_same (those (take i us) m) unit None
        (none_there (is_among (take i us) unit) (finite.get m unit) none ∙ sym (get-those (take i us) m unit)))
        ∙ one_further

  -- what a look-up finds after records that stand by were made live
  pub each_promoted : (t new : TableView R) (us : List units.Unit) → new ≡ record t { live = replaced_by t.live (those us t.standby) } → (q : units.Unit)
      → finite.get new.live q ≡ option_or (cond (is_among us q) (finite.get t.standby q) None) (finite.get t.live q)
  each_promoted t new us is q = each_replaced t new true (those us t.standby) is q ∙ ap (λ o. option_or o (finite.get t.live q)) (get-those us t.standby q)
