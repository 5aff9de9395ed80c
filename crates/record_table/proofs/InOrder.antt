-- The records that are found among entries, sorted by their units, are those of the finite map in its order.
use Rattle.std.proofs.Common.{◌≡◌, ℕ, ◌+◌, ◌<◌, Bool, true, false, cond, List, [], ◌∷◌, ◌++◌, map, length}
use Rattle.std.proofs.Common.{take, get_or, Option, Some, None, Bor, refl, sym, ap, subst, ◌∙◌, append-nil}
use Rattle.std.proofs.lemmas.List.{take_more, map-append}
use Rattle.std.proofs.lemmas.List.Elements.{filter_map-append}
use Rattle.std.specs.List.{cons_option}
use Rattle.flow_filter.specs.declared.filter.Filter.{Filter}
use Rattle.nf_function.specs.declared.unit.Unit as units
use Rattle.unit_map.specs.Entries.{Entries, kept_record, record_of}
use Rattle.std.specs.List.{IsDistinct, AllByRecursion}
use Rattle.std.specs.List.Sorted.{IsPermutation, IsStrictlySortedBy, IsSortedByKey}
use Rattle.std.proofs.lemmas.List.Sorted.{IsPermutation-map}
use Rattle.std.proofs.lemmas.Map.Keys.{IsDistinct-head, IsDistinct-tail, IsDistinct-IsPermutation}
use Rattle.std.specs.FinMap as finite
use Rattle.std.specs.FinMap.{get-retain_keys}
use Rattle.nf_function.specs.Units.{unit_cmp}
use Rattle.unit_map.proofs.EntryLemmas.{lookup_alike, held-cond}
use Rattle.record_table.specs.Table.{Records, same_unit}
use Rattle.record_table.specs.Entries.{map_of}
use Rattle.record_table.proofs.EntryMaps.{get-map_of}
use Rattle.record_table.proofs.SortedEntries.{in_order, strictly, at-permuted}
use Rattle.std.specs.Map.{lookup, keys_of}
use Rattle.record_table.proofs.UnitOrder.{unit_eq, unit_eq_equiv, tied, one_unit, same_unit-true, same_unit_equiv}
use Rattle.record_table.proofs.RecordLookUps.{same_records, at}
use Rattle.record_table.specs.Keeping.{is_taken, records_taken, record_found, all_found}

one_test : (filter : Option Filter) (u q : units.Unit) → unit_eq q u ≡ true → is_taken filter q ≡ is_taken filter u
one_test filter u q same = ap (is_taken filter) (same_unit-true q u (sym (tied q u) ∙ same))

module _ {R : Type 0} (filter : Option Filter) where
  -- what stands behind the references
  abbrev pub seen : List (units.Unit × Bor R) → List (units.Unit × R)
  seen xs = map (λ e. (e.0, e.1.now)) xs

  keys_seen : (xs : List (units.Unit × Bor R)) → keys_of (seen xs) ≡ keys_of xs
  keys_seen [] = refl
  keys_seen (x ∷ xs) = ap (λ us. x.0 ∷ us) (keys_seen xs)

  found_without : (e : units.Unit × Option R) → e.1 ≡ None → record_found filter e ≡ None
  found_without (u, None) none = refl
  found_without (u, Some r) none = cc

  found_by : (e : units.Unit × Option R) (r : R) → e.1 ≡ Some r → record_found filter e ≡ cond (is_taken filter e.0) (Some (e.0, r)) None
  found_by (u, None) r some = cc
  found_by (u, Some s) r some = let same : s ≡ r = cc in rw same refl

  next : (es : Entries units.Unit R) (i : ℕ) (e : units.Unit × Option R) → i < length es → e ≡ get_or es i e
      → all_found filter (take (i + 1) es) ≡ all_found filter (take i es) ++ cons_option (record_found filter e) []
  next es i e within read =
      ap (all_found filter) (take_more es i e within ∙ ap (λ x. take i es ++ x ∷ []) (sym read)) ∙ filter_map-append (record_found filter) (take i es) (e ∷ [])

  module _ (xs : List (units.Unit × Bor R)) (es : Entries units.Unit R) (i : ℕ) (e : units.Unit × Option R) (within : i < length es) (read : e ≡ get_or es i e)
      (so_far : seen xs ≡ all_found filter (take i es)) where
    -- an entry without a record
    pub found_nothing : e.1 ≡ None → seen xs ≡ all_found filter (take (i + 1) es)
    found_nothing none =
        so_far ∙ sym (append-nil _) ∙ ap (λ o. all_found filter (take i es) ++ cons_option o []) (sym (found_without e none)) ∙ sym (next es i e within read)

    -- one whose unit isn't such a unit
    pub found_other : (r : R) → e.1 ≡ Some r → is_taken filter e.0 ≡ false → seen xs ≡ all_found filter (take (i + 1) es)
    found_other r some not_taken =
        so_far ∙ sym (append-nil _) ∙ ap (λ b. all_found filter (take i es) ++ cons_option (cond b (Some (e.0, r)) None) []) (sym not_taken)
        ∙ ap (λ o. all_found filter (take i es) ++ cons_option o []) (sym (found_by e r some)) ∙ sym (next es i e within read)

    -- one whose unit is
    pub found_one : (b : Bor R) → e.1 ≡ Some b.now → is_taken filter e.0 ≡ true → seen (xs ++ (e.0, b) ∷ []) ≡ all_found filter (take (i + 1) es)
    found_one b some is =
        map-append (λ (x : units.Unit × Bor R). (x.0, x.1.now)) xs ((e.0, b) ∷ []) ∙ ap (λ ys. ys ++ (e.0, b.now) ∷ []) so_far
        ∙ ap (λ t. all_found filter (take i es) ++ cons_option (cond t (Some (e.0, b.now)) None) []) (sym is)
        ∙ ap (λ o. all_found filter (take i es) ++ cons_option o []) (sym (found_by e b.now some)) ∙ sym (next es i e within read)

  absent : (u : units.Unit) (es : Entries units.Unit R) → AllByRecursion (λ v. unit_eq u v ≡ false) (keys_of es) → lookup (unit_eq u) es ≡ None
  absent u [] apart = refl
  absent u (e ∷ es) apart = rw apart.0 (absent u es apart.1)

  not_there : (u q : units.Unit) (es : Entries units.Unit R) → IsDistinct unit_eq (u ∷ keys_of es) → unit_eq q u ≡ true → record_of unit_eq es q ≡ None
  not_there u q es d same = ap kept_record (lookup_alike unit_eq unit_eq_equiv q u es same ∙ absent u es (IsDistinct-head unit_eq u (keys_of es) d))

  nothing_left : (c : Bool) (o : Option R) → o ≡ None → cond c o None ≡ None
  nothing_left true o none = none
  nothing_left false o none = refl

  -- an entry without a record
  passed_over : (b c : Bool) (o l : Option R) → (b ≡ true → l ≡ None) → o ≡ cond c l None → o ≡ cond c (cond b None l) None
  passed_over true c o l none rest = rest ∙ nothing_left c l (none refl) ∙ sym (nothing_left c None refl)
  passed_over false c o l none rest = rest

  -- one whose unit is such a unit
  taken_up : (b c : Bool) (r : R) (o l : Option R) → (b ≡ true → c ≡ true) → o ≡ cond c l None → cond b (Some r) o ≡ cond c (cond b (Some r) l) None
  taken_up true c r o l same rest = rw (same refl) refl
  taken_up false c r o l same rest = rest

  -- one whose unit isn't
  left_out : (b c : Bool) (r : R) (o l : Option R) → (b ≡ true → c ≡ false) → o ≡ cond c l None → o ≡ cond c (cond b (Some r) l) None
  left_out true c r o l same rest = rest ∙ rw (same refl) refl
  left_out false c r o l same rest = rest

  -- a list of what is found has what the map has for such units
  at_found : (es : Entries units.Unit R) (q : units.Unit) → IsDistinct unit_eq (keys_of es)
      → at (all_found filter es) q ≡ cond (is_taken filter q) (record_of unit_eq es q) None
  at_found [] q d = sym (nothing_left (is_taken filter q) None refl)
  at_found ((u, None) ∷ es) q d =
      passed_over (unit_eq q u) (is_taken filter q) _ (record_of unit_eq es q) (not_there u q es d) (at_found es q (IsDistinct-tail unit_eq u (keys_of es) d))
      ∙ ap (λ o. cond (is_taken filter q) o None) (sym (held-cond (unit_eq q u) None (lookup (unit_eq q) es)))
  at_found ((u, Some r) ∷ es) q d = elim (is_taken filter u) as (λ t. is_taken filter u ≡ t
      → at (cons_option (cond t (Some (u, r)) None) (all_found filter es)) q ≡ cond (is_taken filter q) (record_of unit_eq ((u, Some r) ∷ es) q) None) [
        | true ↦ λ h. ap (λ b. cond b (Some r) (at (all_found filter es) q)) (sym (tied q u))
            ∙ taken_up (unit_eq q u) (is_taken filter q) r _ (record_of unit_eq es q) (λ s. one_test filter u q s ∙ h)
            (at_found es q (IsDistinct-tail unit_eq u (keys_of es) d))
            ∙ ap (λ o. cond (is_taken filter q) o None) (sym (held-cond (unit_eq q u) (Some r) (lookup (unit_eq q) es)))
        | false ↦ λ h. left_out (unit_eq q u) (is_taken filter q) r _ (record_of unit_eq es q) (λ s. one_test filter u q s ∙ h)
            (at_found es q (IsDistinct-tail unit_eq u (keys_of es) d))
            ∙ ap (λ o. cond (is_taken filter q) o None) (sym (held-cond (unit_eq q u) (Some r) (lookup (unit_eq q) es)))
      ] refl

  pub found_at : (es : Entries units.Unit R) (q : units.Unit) → IsDistinct unit_eq (keys_of es)
      → at (all_found filter es) q ≡ finite.get (records_taken filter (map_of es)) q
  found_at es q d =
      at_found es q d ∙ ap (λ o. cond (is_taken filter q) o None) (sym (get-map_of es q))
      ∙ sym (get-retain_keys (map_of es) (is_taken filter) q (λ x t. ap (is_taken filter) (sym (one_unit q x t))))

  still_apart : (u : units.Unit) (es : Entries units.Unit R) → AllByRecursion (λ v. unit_eq u v ≡ false) (keys_of es)
      → AllByRecursion (λ v. same_unit u v ≡ false) (keys_of (all_found filter es))
  still_apart u [] apart = tt
  still_apart u ((v, None) ∷ es) apart = still_apart u es apart.1
  still_apart u ((v, Some r) ∷ es) apart = elim (is_taken filter v)
      as (λ t. AllByRecursion (λ x. same_unit u x ≡ false) (keys_of (cons_option (cond t (Some (v, r)) None) (all_found filter es)))) [
        | true ↦ (sym (tied u v) ∙ apart.0, still_apart u es apart.1)
        | false ↦ still_apart u es apart.1
      ]

  pub found_once : (es : Entries units.Unit R) → IsDistinct unit_eq (keys_of es) → IsDistinct same_unit (keys_of (all_found filter es))
  unfolding IsDistinct
  found_once [] d = tt
  found_once ((u, None) ∷ es) d = found_once es d.1
  found_once ((u, Some r) ∷ es) d =
      elim (is_taken filter u) as (λ t. IsDistinct same_unit (keys_of (cons_option (cond t (Some (u, r)) None) (all_found filter es)))) [
        | true ↦ (still_apart u es d.0, found_once es d.1)
        | false ↦ found_once es d.1
      ]

  module _ (before after : List (units.Unit × Bor R)) (es : Entries units.Unit R) (distinct : IsDistinct unit_eq (keys_of es))
      (was : seen before ≡ all_found filter es)
      (moved : IsPermutation before after) (sorted : IsSortedByKey (λ x. x.0) unit_cmp after) where
    -- what was found and then sorted is the map's list
    pub sorted_is : seen after ≡ finite.entries (records_taken filter (map_of es))
    sorted_is =
        let moved_seen : IsPermutation (all_found filter es) (seen after) = subst (λ xs. IsPermutation xs (seen after)) was
        (IsPermutation-map (λ (e : units.Unit × Bor R). (e.0, e.1.now)) before after moved) in
        let once = found_once es distinct in
        let once_after : IsDistinct same_unit (keys_of (seen after)) =
        IsDistinct-IsPermutation same_unit same_unit_equiv.symm (keys_of (all_found filter es)) (keys_of (seen after))
        (IsPermutation-map (λ (e : units.Unit × R). e.0) _ _ moved_seen) once in
        let keys : keys_of (seen after) ≡ keys_of after = keys_seen after in
        in_order (seen after) (records_taken filter (map_of es))
        (subst (IsStrictlySortedBy unit_cmp) (sym keys) (strictly after sorted (subst (IsDistinct same_unit) keys once_after)))
        (λ q. sym (at-permuted (all_found filter es) (seen after) once once_after moved_seen q) ∙ found_at es q distinct)

-- without a filter all records are listed
pub all_taken : {R : Type 0} (m : Records R) → records_taken None m ≡ m
all_taken m = same_records (records_taken None m) m (λ q. get-retain_keys m (λ u. true) q (λ x t. refl))

-- the units of what is listed
pub keys_listed : {R : Type 0} (xs : List (units.Unit × Bor R)) (m : Records R)
    → map (λ (e : units.Unit × Bor R). (e.0, e.1.now)) xs ≡ finite.entries (records_taken None m) → map (λ e. e.0) xs ≡ finite.keys m
keys_listed {R} xs m is = sym (keys_of_seen xs) ∙ ap (map (λ (e : units.Unit × R). e.0)) is ∙ ap finite.keys (all_taken m)
  where
    keys_of_seen : (ys : List (units.Unit × Bor R))
        → map (λ (e : units.Unit × R). e.0) (map (λ (e : units.Unit × Bor R). (e.0, e.1.now)) ys) ≡ map (λ (e : units.Unit × Bor R). e.0) ys
    keys_of_seen [] = refl
    keys_of_seen (y ∷ ys) = ap (λ us. y.0 ∷ us) (keys_of_seen ys)
