-- The records of a unit among those of all instances, sorted by their units: at most one, which is that of one instance that nothing moved.
use Rattle.run_headline.proofs.Words.{◌≡◌, ℕ, zero, suc, true, Option, Some, None, List, [], ◌∷◌, ◌++◌, length, map, ap, ◌∙◌, arith, refl, T, option_to_list}
use Rattle.run_headline.proofs.Words.{zip, flat_map, is_sorted, unit_cmp, part, InstanceState, NamedInstance, NamedRecord, named_records, sorted_by}
use Rattle.run_headline.proofs.Words.{instance_under}
use Rattle.std.specs.Prelude.{Bool}
use Rattle.std.specs.FinMap as finite
use Rattle.std.specs.FinMap.Entries.{find}
use Rattle.nf_function.specs.declared.unit.Unit as units
use Rattle.run_headline.proofs.UnitLines.{each_line, found_line, kept_each, kept_in, own, sorted_own}

-- where none is there, it is none
pub nothing : {X : Type 0} (o : Option X) → ((x : X) → o ≡ Some x → ⊥) → o ≡ None
nothing None h = refl
nothing (Some x) h = absurd (h x refl)

module _ {R : Type 0} (u : units.Unit) where
  -- the records in the unit's lines among some
  abbrev pub kept_of : List (NamedRecord R) → List R
  kept_of records = map (λ s. s.kept) (own u records)

  pub found_kept : (name : List ℕ) (es : List (units.Unit × R)) → T (is_sorted unit_cmp es)
      → kept_of (map (λ e. record { unit = e.0; name = name; kept = e.1 }) es) ≡ option_to_list (find unit_cmp u es)
  found_kept name es up = ap (map (λ s. s.kept)) (found_line u name es up) ∙ kept_in u name (find unit_cmp u es)

  -- the records of some instances
  pub each_kept : (instances : List (NamedInstance R)) → kept_of (flat_map (named_records true) instances)
      ≡ flat_map (λ i. option_to_list (finite.get i.table.live u)) instances
  each_kept instances = ap (map (λ s. s.kept)) (each_line u true instances) ∙ kept_each u instances

  -- they stand where they stood before all were sorted
  pub sorted_kept : (records : List (NamedRecord R)) → kept_of (sorted_by (λ s. s.unit) unit_cmp records) ≡ kept_of records
  sorted_kept records = ap (map (λ s. s.kept)) (sorted_own u records)

  module _ {F : Type 0} where
    abbrev pub live_of : InstanceState F R → List R
    live_of i = option_to_list (finite.get i.table.live u)

    pub under_names : (names : List (List ℕ)) (is : List (InstanceState F R)) → length is ≡ length names
        → flat_map (λ i. option_to_list (finite.get i.table.live u)) (map instance_under (zip names is)) ≡ flat_map live_of is
    under_names [] [] same = refl
    under_names [] (i ∷ is) same = absurd (omega (arith, same))
    under_names (name ∷ names) [] same = absurd (omega (arith, same))
    under_names (name ∷ names) (i ∷ is) same = ap (λ l. live_of i ++ l) (under_names names is (omega (arith, same)))

    -- what is kept, and what is live, at the instance with a number
    abbrev pub kept_nth : Bool → List (InstanceState F R) → ℕ → Option R
    kept_nth live [] k = None
    kept_nth live (i ∷ is) zero = finite.get (part i.table live) u
    kept_nth live (i ∷ is) (suc k) = kept_nth live is k

    abbrev pub live_nth : List (InstanceState F R) → ℕ → Option R
    live_nth is k = kept_nth true is k

    pub none_live : (is : List (InstanceState F R)) → ((k : ℕ) → live_nth is k ≡ None) → flat_map live_of is ≡ []
    none_live [] none = refl
    none_live (i ∷ is) none = ap (λ l. l ++ flat_map live_of is) (ap option_to_list (none 0)) ∙ none_live is (λ k. none (suc k))

    pub one_live : (is : List (InstanceState F R)) (k : ℕ) (r : R) → live_nth is k ≡ Some r → ((l : ℕ) (s : R) → live_nth is l ≡ Some s → l ≡ k)
        → flat_map live_of is ≡ r ∷ []
    one_live [] k r there alone = cc
    one_live (i ∷ is) zero r there alone =
        ap (λ l. l ++ flat_map live_of is) (ap option_to_list there)
        ∙ ap (λ l. r ∷ l) (none_live is (λ l. nothing (live_nth is l) (λ s h. let same : suc l ≡ 0 = alone (suc l) s h in omega (arith, same))))
    one_live (i ∷ is) (suc k) r there alone =
        ap (λ l. l ++ flat_map live_of is) (ap option_to_list (nothing (finite.get i.table.live u) (λ s h. let same : 0 ≡ suc k = alone 0 s h in
        omega (arith, same))))
        ∙ one_live is k r there (λ l s h. let same : suc l ≡ suc k = alone (suc l) s h in omega (arith, same))
