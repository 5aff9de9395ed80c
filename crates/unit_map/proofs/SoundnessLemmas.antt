-- Entries stay noted, and what no note leads to isn't there.
use Rattle.std.proofs.Common.{◌≡◌, ℕ, Bool, true, false, ◌+◌, ◌<◌, List, [], ◌∷◌, ◌++◌, length, Option, Some, None, ap, sym, ◌∙◌}
use Rattle.std.proofs.Common.{refl, subst, add-one, suc, zero, ⊎_elim, inl, inr, ◌⊎◌, is_some, filter, take, get_or, length-append}
use Rattle.std.specs.Prelude.{cond}
use Rattle.std.proofs.lemmas.List.Elements.{filter_more}
use Rattle.std.specs.Cmp.{IsEquivalence, IsTotalOrder, Equal-is}
use Rattle.std.specs.Hash.{HashWrites}
use Rattle.std.specs.List.{slice_get, IsDistinct}
use Rattle.std.specs.Map.{lookup, keys_of}
use Rattle.std.specs.Option.{option_map, unwrap_or}
use Rattle.std.specs.BTreeMap as tree
use Rattle.std.specs.Ordering.{eq_by_cmp, is_eq}
use Rattle.std.specs.declared.cmp.Ordering.{Ordering}
use Rattle.std.proofs.lemmas.Bool.{false_from_ne_true, true≢false}
use Rattle.std.proofs.lemmas.List.{append-nil}
use Rattle.std.proofs.lemmas.Option.{slice_get-map, slice_get_read}
use Rattle.std.proofs.lemmas.Map.Entries.{length-keys_of}
use Rattle.unit_map.specs.declared.index.Index.{Index}
use Rattle.unit_map.specs.Entries.{Entries, has_record}
use Rattle.unit_map.specs.Notes.{KeyRules, key_rules, hash_of, EntryNote, IsNoted, has_key}
use Rattle.unit_map.specs.Soundness.{AreNoted}
use Rattle.unit_map.proofs.EntryLemmas.{entry_at, has_key_suc, no_place, apart_at, keys_added, absent_before}

-- the laws of keys: equal keys are ordered alike and hash alike
pub record KeyLaws {K : Type 0} (rules : KeyRules K) : Type 0 where
  pub equal : IsEquivalence rules.eq
  pub ordered : IsTotalOrder rules.cmp
  pub tied : (x y : K) → rules.eq x y ≡ eq_by_cmp rules.cmp x y
  pub alike : (x y : K) → rules.eq x y ≡ true → rules.hash x ≡ rules.hash y

pub key_laws : {K : Type 0} (eq : K → K → Bool) (cmp : K → K → Ordering) (input : K → HashWrites) → IsEquivalence eq → IsTotalOrder cmp
    → ((x y : K) → eq x y ≡ eq_by_cmp cmp x y) → ((x y : K) → eq x y ≡ true → input x ≡ input y) → KeyLaws (key_rules eq cmp input)
unfolding hash_of
key_laws eq cmp input equal ordered tied alike = record {
  equal = equal;
  ordered = ordered;
  tied = tied;
  alike = λ x y h. rw (alike x y h) refl;
}

lookup_tests : {K V : Type 0} (p q : K → Bool) → ((x : K) → p x ≡ q x) → (es : List (K × V)) → lookup p es ≡ lookup q es
lookup_tests p q same [] = refl
lookup_tests p q same (e ∷ es) = rw (same e.0, lookup_tests p q same es) refl

pub noted_nothing : {K : Type 0} (rules : KeyRules K) (index : Index K) → AreNoted rules index []
unfolding AreNoted
noted_nothing rules index i k at = absurd (true≢false (sym (ap is_some at)))

one_more : {K : Type 0} (xs : List K) (k : K) (i : ℕ) (q : K) → slice_get (xs ++ k ∷ []) i ≡ Some q → (slice_get xs i ≡ Some q) ⊎ ((i ≡ length xs) × (k ≡ q))
one_more [] k zero q h = inr (refl, ap (λ o. unwrap_or o k) h)
one_more [] k (suc i) q h = absurd (true≢false (sym (ap is_some h)))
one_more (x ∷ xs) k zero q h = inl h
one_more (x ∷ xs) k (suc i) q h = ⊎_elim (λ a. inl a) (λ b. inr (ap suc b.0, b.1)) (one_more xs k i q h)

module _ {K R : Type 0} where
  no_more : (es : Entries K R) (i : ℕ) (e : K × Option R) → i < length es → e ≡ get_or es i e → has_record e ≡ false
      → filter has_record (take (i + 1) es) ≡ filter has_record (take i es)
  no_more es i e within read gone =
      filter_more has_record es i e within ∙ ap (λ (x : K × Option R). filter has_record (take i es) ++ cond (has_record x) (x ∷ []) []) (sym read)
      ∙ ap (λ b. filter has_record (take i es) ++ cond b (e ∷ []) []) gone ∙ append-nil _

  one_more_record : (es : Entries K R) (i : ℕ) (e : K × Option R) → i < length es → e ≡ get_or es i e → has_record e ≡ true
      → filter has_record (take (i + 1) es) ≡ filter has_record (take i es) ++ e ∷ []
  one_more_record es i e within read here =
      filter_more has_record es i e within ∙ ap (λ (x : K × Option R). filter has_record (take i es) ++ cond (has_record x) (x ∷ []) []) (sym read)
      ∙ ap (λ b. filter has_record (take i es) ++ cond b (e ∷ []) []) here

  pub count_passed : (es : Entries K R) (i : ℕ) (e : K × Option R) → i < length es → e ≡ get_or es i e → has_record e ≡ false
      → length (filter has_record (take (i + 1) es)) ≡ length (filter has_record (take i es))
  count_passed es i e within read gone = ap length (no_more es i e within read gone)

  pub count_more : (es : Entries K R) (i : ℕ) (e : K × Option R) → i < length es → e ≡ get_or es i e → has_record e ≡ true
      → length (filter has_record (take (i + 1) es)) ≡ length (filter has_record (take i es)) + 1
  count_more es i e within read here = ap length (one_more_record es i e within read here) ∙ length-append (filter has_record (take i es)) (e ∷ [])

module _ {K : Type 0} (rules : KeyRules K) (laws : KeyLaws rules) where
  tree_alike : {X : Type 0} (m : tree.BTreeMap K X) (x y : K) → rules.eq x y ≡ true → tree.get rules.cmp m x ≡ tree.get rules.cmp m y
  tree_alike m x y h =
      let e = (Equal-is (rules.cmp x y)).0 (sym (laws.tied x y) ∙ h) in
      lookup_tests _ _ (λ z. ap is_eq (laws.ordered.congr x y z e)) m.entries

  -- what is noted for a key is noted for each key that is equal
  pub noted_alike : (index : Index K) (x y : K) (n : ℕ) → rules.eq x y ≡ true → IsNoted rules index (record { key = y; number = n })
      → IsNoted rules index (record { key = x; number = n })
  noted_alike index x y n same (step, h) =
      let e = laws.alike x y same in (
        step,
        record {
          counted = h.counted;
          room = h.room;
          within = h.within;
          before = λ m below. rw e (h.before m below);
          in_probes = λ below. rw e (h.in_probes below);
          in_tree = λ past. tree_alike index.spill x y same ∙ h.in_tree past;
        },
      )

  -- what no note leads to isn't there, where each entry is noted
  pub absent_everywhere : {V : Type 0} (index : Index K) (k : K) (es : List (K × V)) → AreNoted rules index (keys_of es)
      → ((n : ℕ) → IsNoted rules index (record { key = k; number = n }) → has_key rules.eq es n k ≡ false) → lookup (rules.eq k) es ≡ None
  unfolding AreNoted
  absent_everywhere {V} index k es noted absent = no_place rules.eq k es (λ i. false_from_ne_true _ (λ h.
      let t = entry_at rules.eq k es i h in
      let here = noted i t.0.0 (slice_get-map (λ (e : K × V). e.0) es i ∙ ap (option_map (λ (e : K × V). e.0)) t.1) in
      true≢false (sym h ∙ sym (has_key_suc rules.eq k es i) ∙ absent (suc i) (rw add-one at (noted_alike index k t.0.0 (i + 1) t.2 here)))))

  module _ (old new : Index K) (k : K)
      (others : (note : EntryNote K) → rules.eq k note.key ≡ false → IsNoted rules old note → IsNoted rules new note) where
    -- entries stay noted where a key that has none is noted
    pub still_noted : {V : Type 0} (es : List (K × V)) → lookup (rules.eq k) es ≡ None → AreNoted rules old (keys_of es) → AreNoted rules new (keys_of es)
    unfolding AreNoted
    still_noted es absent noted i q at = others (record { key = q; number = i + 1 }) (apart_at rules.eq k es i q absent at) (noted i q at)

    pub noted_added : {V : Type 0} (es : List (K × V)) (v : V) → lookup (rules.eq k) es ≡ None → AreNoted rules old (keys_of es)
        → IsNoted rules new (record { key = k; number = length es + 1 }) → AreNoted rules new (keys_of (es ++ (k, v) ∷ []))
    unfolding AreNoted
    noted_added es v absent noted here i q at = ⊎_elim
        (λ a. still_noted es absent noted i q a)
        (λ b. subst (λ p. IsNoted rules new (record { key = p; number = i + 1 })) b.1 (rw (b.0, length-keys_of es) here))
        (one_more (keys_of es) k i q (rw (keys_added rules.eq k v es) at at))

  -- the entries with a record among the first ones, with one that has none, or one that has one
  pub noted_passed : {R : Type 0} (index : Index K) (es : Entries K R) (i : ℕ) (e : K × Option R) → i < length es → e ≡ get_or es i e → has_record e ≡ false
      → AreNoted rules index (keys_of (filter has_record (take i es))) → AreNoted rules index (keys_of (filter has_record (take (i + 1) es)))
  noted_passed index es i e within read gone noted =
      subst (λ xs. AreNoted rules index (keys_of xs)) (sym (no_more es i e within read gone)) noted

  pub noted_more : {R : Type 0} (old new : Index K) (es : Entries K R) (i : ℕ) (e : K × Option R) → IsDistinct rules.eq (keys_of es) → i < length es
      → e ≡ get_or es i e → has_record e ≡ true
      → ((note : EntryNote K) → rules.eq e.0 note.key ≡ false → IsNoted rules old note → IsNoted rules new note)
      → IsNoted rules new (record { key = e.0; number = length (filter has_record (take i es)) + 1 })
      → AreNoted rules old (keys_of (filter has_record (take i es))) → AreNoted rules new (keys_of (filter has_record (take (i + 1) es)))
  noted_more old new es i e distinct within read here others noted_here noted =
      let absent = absent_before rules.eq laws.equal has_record es i e distinct (slice_get_read es (length es) i e refl within read) in
      subst (λ xs. AreNoted rules new (keys_of xs)) (sym (one_more_record es i e within read here))
      (noted_added old new e.0 others (filter has_record (take i es)) e.1 absent noted noted_here)
