-- The records of a unit under a name, among those of all instances sorted by their units: where no two names are alike, the one of the instance
-- with the name.
use Rattle.run_headline.proofs.Words.{◌≡◌, ℕ, zero, suc, ◌<◌, ◌≤◌, Bool, true, false, ◌&&◌, cond, Option, Some, None, List, [], ◌∷◌, ◌++◌, length, map, get_or}
use Rattle.run_headline.proofs.Words.{refl, sym, ap, ◌∙◌, subst, append-nil, arith, T, filter, option_to_list, zip, AllByRecursion, flat_map, list_any, is_lt}
use Rattle.run_headline.proofs.Words.{bytes_eq, is_sorted, entries_sorted, below_all, and_yes, or_parts, true≢false, length-map, and-false, has_twice}
use Rattle.run_headline.proofs.Words.{unit_cmp, units_total, part, same_unit, same_unit-true, same_unit_equiv, InstanceState, NamedInstance, NamedRecord}
use Rattle.run_headline.proofs.Words.{by_unit, named_records, instance_under, records_under}
use Rattle.std.specs.FinMap as finite
use Rattle.std.specs.FinMap.Entries.{find}
use Rattle.std.proofs.lemmas.Slice.Eq.{bytes_eq-Decides}
use Rattle.nf_function.specs.declared.unit.Unit as units
use Rattle.run_headline.proofs.SortedParts.{all_sorted, one_stays}
use Rattle.run_headline.proofs.UnitLines.{no_less}
use Rattle.run_headline.proofs.UnitStates.{found_kept, kept_nth, kept_of}

-- what is not one of some names
differs_at : (name : List ℕ) (more : List (List ℕ)) (i : ℕ) → i < length more → list_any (λ other. bytes_eq other name) more ≡ false
    → bytes_eq (get_or more i []) name ≡ false
differs_at name [] i low off = absurd (omega (arith, low))
differs_at name (other ∷ more) zero low off = (or_parts (bytes_eq other name) (list_any (λ x. bytes_eq x name) more) off).0
differs_at name (other ∷ more) (suc i) low off =
    differs_at name more i (omega (arith, low)) (or_parts (bytes_eq other name) (list_any (λ x. bytes_eq x name) more) off).1

module _ {R : Type 0} (u : units.Unit) (name : List ℕ) where
  abbrev passes : NamedRecord R → Bool
  passes s = same_unit s.unit u && bytes_eq s.name name

  under_append : (xs ys : List (NamedRecord R)) → records_under u name (xs ++ ys) ≡ records_under u name xs ++ records_under u name ys
  under_append [] ys = refl
  under_append (x ∷ xs) ys = elim (passes x) as (λ b. map (λ s. s.kept) (cond b (x ∷ filter passes (xs ++ ys)) (filter passes (xs ++ ys)))
      ≡ map (λ s. s.kept) (cond b (x ∷ filter passes xs) (filter passes xs)) ++ records_under u name ys) [
        | true ↦ ap (λ l. x.kept ∷ l) (under_append xs ys)
        | false ↦ under_append xs ys
      ]

  -- at most one stands where it stood before all were sorted
  under_sorted : (live : Bool) (told : List (NamedInstance R)) (o : Option R) → records_under u name (flat_map (named_records live) told) ≡ option_to_list o
      → records_under u name (by_unit live told) ≡ option_to_list o
  under_sorted live told o is =
      let few = at_most_one o in
      let long = length-map (filter passes (flat_map (named_records live) told)) (λ s. s.kept) in
      let same = ap length is in
      ap (map (λ s. s.kept)) (one_stays (λ s. s.unit) unit_cmp units_total passes (flat_map (named_records live) told) (omega (arith, few, long, same))) ∙ is
    where
      at_most_one : (x : Option R) → length (option_to_list x) ≤ 1
      at_most_one None = omega arith
      at_most_one (Some r) = omega arith

  -- the records of one instance
  module _ (own : List ℕ) where
    abbrev named : units.Unit × R → NamedRecord R
    named e = record { unit = e.0; name = own; kept = e.1 }

    own_name : bytes_eq own name ≡ true → (es : List (units.Unit × R)) → records_under u name (map named es) ≡ kept_of u (map named es)
    own_name on [] = refl
    own_name on (e ∷ es) =
        let rest = own_name on es in
        elim (same_unit e.0 u) as (λ b. map (λ s. s.kept)
        (cond (b && bytes_eq own name) (named e ∷ filter passes (map named es)) (filter passes (map named es)))
        ≡ map (λ s. s.kept) (cond b (named e ∷ filter (λ s. same_unit s.unit u) (map named es)) (filter (λ s. same_unit s.unit u) (map named es)))) [
          | true ↦ subst (λ b. map (λ s. s.kept) (cond b (named e ∷ filter passes (map named es)) (filter passes (map named es)))
              ≡ e.1 ∷ kept_of u (map named es))
              (sym on) (ap (λ l. e.1 ∷ l) rest)
          | false ↦ rest
        ]

    other_name : bytes_eq own name ≡ false → (es : List (units.Unit × R)) → records_under u name (map named es) ≡ []
    other_name off [] = refl
    other_name off (e ∷ es) =
        subst (λ b. map (λ s. s.kept) (cond b (named e ∷ filter passes (map named es)) (filter passes (map named es))) ≡ [])
        (sym (ap (λ b. same_unit e.0 u && b) off ∙ and-false (same_unit e.0 u))) (other_name off es)

  -- of all instances
  module _ {F : Type 0} (live : Bool) where
    abbrev told : List (List ℕ) → List (InstanceState F R) → List (NamedRecord R)
    told names xs = flat_map (named_records live) (map instance_under (zip names xs))

    abbrev here : List ℕ → InstanceState F R → List (NamedRecord R)
    here own x = named_records live (instance_under (own, x))

    none_under : (names : List (List ℕ)) (xs : List (InstanceState F R)) → list_any (λ other. bytes_eq other name) names ≡ false
        → records_under u name (told names xs) ≡ []
    none_under [] xs off = refl
    none_under (own ∷ names) [] off = refl
    none_under (own ∷ names) (x ∷ xs) off =
        let parts = or_parts (bytes_eq own name) (list_any (λ other. bytes_eq other name) names) off in
        under_append (here own x) (told names xs)
        ∙ ap (λ l. l ++ records_under u name (told names xs)) (other_name own parts.0 (finite.entries (part x.table live))) ∙ none_under names xs parts.1

    own_under : (own : List ℕ) (x : InstanceState F R) → bytes_eq own name ≡ true
        → records_under u name (here own x) ≡ option_to_list (finite.get (part x.table live) u)
    own_under own x on =
        own_name own on (finite.entries (part x.table live)) ∙ found_kept u own (finite.entries (part x.table live)) (entries_sorted (part x.table live))
        ∙ ap option_to_list (sym (finite.get-entries (part x.table live) u))

    one_under : (names : List (List ℕ)) (xs : List (InstanceState F R)) (k : ℕ) → length xs ≡ length names → has_twice names ≡ false → k < length names
        → bytes_eq (get_or names k []) name ≡ true → records_under u name (told names xs) ≡ option_to_list (kept_nth u live xs k)
    one_under [] xs k long once low on = absurd (omega (arith, low))
    one_under (own ∷ names) [] k long once low on = absurd (omega (arith, long))
    one_under (own ∷ names) (x ∷ xs) zero long once low on =
        let parts = or_parts (list_any (λ other. bytes_eq other own) names) (has_twice names) once in
        let same : own ≡ name = (bytes_eq-Decides own name).0 on in
        let none : list_any (λ other. bytes_eq other name) names ≡ false = subst (λ n. list_any (λ other. bytes_eq other n) names ≡ false) same parts.0 in
        under_append (here own x) (told names xs) ∙ ap (λ l. records_under u name (here own x) ++ l) (none_under names xs none)
        ∙ append-nil (records_under u name (here own x)) ∙ own_under own x on
    one_under (own ∷ names) (x ∷ xs) (suc k) long once low on =
        let parts = or_parts (list_any (λ other. bytes_eq other own) names) (has_twice names) once in
        let within : k < length names = omega (arith, low) in
        under_append (here own x) (told names xs)
        ∙ ap (λ l. l ++ records_under u name (told names xs))
        (other_name own (differs (differs_at own names k within parts.0)) (finite.entries (part x.table live)))
        ∙ one_under names xs k (omega (arith, long)) parts.1 within on
      where
        differs : bytes_eq (get_or names k []) own ≡ false → bytes_eq own name ≡ false
        differs off = elim (bytes_eq own name) as (λ b. bytes_eq own name ≡ b → b ≡ false) [
          | true ↦ λ is.
              let there : get_or names k [] ≡ name = (bytes_eq-Decides (get_or names k []) name).0 on in
              let same : own ≡ name = (bytes_eq-Decides own name).0 is in
              absurd (true≢false (sym ((bytes_eq-Decides (get_or names k []) own).1 (there ∙ sym same)) ∙ off))
          | false ↦ λ _. refl
        ] refl

    pub under_name : (names : List (List ℕ)) (xs : List (InstanceState F R)) (k : ℕ) → length xs ≡ length names → has_twice names ≡ false → k < length names
        → bytes_eq (get_or names k []) name ≡ true
        → records_under u name (by_unit live (map instance_under (zip names xs))) ≡ option_to_list (kept_nth u live xs k)
    under_name names xs k long once low on =
        under_sorted live (map instance_under (zip names xs)) (kept_nth u live xs k) (one_under names xs k long once low on)

-- What each record that stands somewhere has, all that are told have.
module _ {R : Type 0} where
  abbrev IsEntry : List (units.Unit × R) → units.Unit × R → Type 0
  IsEntry es e = find unit_cmp e.0 es ≡ Some e.1

  entries_past : (x : units.Unit × R) (all es : List (units.Unit × R)) → T (below_all unit_cmp x.0 es) → AllByRecursion (IsEntry all) es
      → AllByRecursion (IsEntry (x ∷ all)) es
  entries_past x all [] below h = tt
  entries_past x all (e ∷ es) below h =
      let parts = and_yes (is_lt (unit_cmp x.0 e.0)) (below_all unit_cmp x.0 es) below in (
        elim (same_unit e.0 x.0) as (λ b. same_unit e.0 x.0 ≡ b → cond b (Some x.1) (find unit_cmp e.0 all) ≡ Some e.1) [
          | true ↦ λ is.
              let same : e.0 ≡ x.0 = same_unit-true e.0 x.0 is in
              absurd (no_less (unit_cmp x.0 x.0) (units_total.antisymm x.0 x.0) (subst (λ y. T (is_lt (unit_cmp x.0 y))) same parts.0))
          | false ↦ λ _. h.0
        ] refl,
        entries_past x all es parts.1 h.1,
      )

  each_entry : (es : List (units.Unit × R)) → T (is_sorted unit_cmp es) → AllByRecursion (IsEntry es) es
  each_entry [] up = tt
  each_entry (e ∷ es) up =
      let parts = and_yes (below_all unit_cmp e.0 es) (is_sorted unit_cmp es) up in (
        subst (λ b. cond b (Some e.1) (find unit_cmp e.0 es) ≡ Some e.1) (sym (same_unit_equiv.refl e.0)) refl,
        entries_past e es es parts.0 (each_entry es parts.1),
      )

  module _ (P : NamedRecord R → Type 0) where
    all_append : (xs ys : List (NamedRecord R)) → AllByRecursion P xs → AllByRecursion P ys → AllByRecursion P (xs ++ ys)
    all_append [] ys all more = more
    all_append (x ∷ xs) ys all more = (all.0, all_append xs ys all.1 more)

    each_named : (own : List ℕ) (all es : List (units.Unit × R)) → AllByRecursion (IsEntry all) es
        → ((e : units.Unit × R) → IsEntry all e → P (record { unit = e.0; name = own; kept = e.1 }))
        → AllByRecursion P (map (λ e. record { unit = e.0; name = own; kept = e.1 }) es)
    each_named own all [] h holds = tt
    each_named own all (e ∷ es) h holds = (holds e h.0, each_named own all es h.1 holds)

    -- what is kept at each instance
    each_told : {F : Type 0} (live : Bool) (names : List (List ℕ)) (xs : List (InstanceState F R))
        → ((own : List ℕ) (k : ℕ) (u : units.Unit) (r : R) → kept_nth u live xs k ≡ Some r → P (record { unit = u; name = own; kept = r }))
        → AllByRecursion P (flat_map (named_records live) (map instance_under (zip names xs)))
    each_told live [] xs holds = tt
    each_told live (own ∷ names) [] holds = tt
    each_told live (own ∷ names) (x ∷ xs) holds =
        let es = finite.entries (part x.table live) in
        all_append (named_records live (instance_under (own, x))) (flat_map (named_records live) (map instance_under (zip names xs)))
        (each_named own es es (each_entry es (entries_sorted (part x.table live)))
        (λ e is. holds own 0 e.0 e.1 (finite.get-entries (part x.table live) e.0 ∙ is)))
        (each_told live names xs (λ n k u r is. holds n (suc k) u r is))

    pub all_told : {F : Type 0} (live : Bool) (names : List (List ℕ)) (xs : List (InstanceState F R))
        → ((own : List ℕ) (k : ℕ) (u : units.Unit) (r : R) → kept_nth u live xs k ≡ Some r → P (record { unit = u; name = own; kept = r }))
        → AllByRecursion P (by_unit live (map instance_under (zip names xs)))
    all_told live names xs holds =
        all_sorted (λ s. s.unit) unit_cmp P (flat_map (named_records live) (map instance_under (zip names xs))) (each_told live names xs holds)
