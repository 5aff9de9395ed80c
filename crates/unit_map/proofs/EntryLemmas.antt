-- Entries by their places and by their keys.
use Rattle.std.proofs.Common.{◌≡◌, ℕ, Bool, true, false, ◌-◌, ◌<◌, List, [], ◌∷◌, ◌++◌, length, slice_set, Option, Some, None, arith}
use Rattle.std.proofs.Common.{ap, sym, ◌∙◌, refl, subst, suc, zero, ◌==◌, is_some, filter, take, get_or, Result, Ok, Err, IfOk, IsErr, OnOk, OnErr}
use Rattle.std.specs.Prelude.{cond}
use Rattle.std.specs.Cmp.{IsEquivalence}
use Rattle.std.specs.List.{slice_get, IsDistinct, AllByRecursion}
use Rattle.std.specs.Map.{lookup, keys_of}
use Rattle.std.specs.Option.{option_map, unwrap_or}
use Rattle.std.proofs.lemmas.Bool.{false_from_ne_true, true≢false}
use Rattle.std.proofs.lemmas.List.{map-append}
use Rattle.std.proofs.lemmas.Option.{slice_get_within, slice_get_read}
use Rattle.std.proofs.lemmas.Map.Entries.{lookup_from_place, lookup-filter-values, option_filter}
use Rattle.std.proofs.lemmas.Map.Keys.{IsDistinct-push, IsDistinct-head, IsDistinct-tail, any_passes_from_place}
use Rattle.std.proofs.lemmas.Map.{NonePasses, none_passes_from_lookup}
use Rattle.std.proofs.lemmas.Map.Made.{is_some-lookup}
use Rattle.unit_map.specs.Entries.{Entries, IsMap, kept_record, record_of, record_at, is_place_of, with_record, has_record}
use Rattle.unit_map.specs.Notes.{has_key}

-- of an error nothing is asked
pub no_value : {T E : Type 0} (P : T → Type 0) (r : Result T E) → IsErr r → IfOk r P
no_value P (Ok x) h = absurd (cc)
no_value P (Err e) h = tt

pub distinct_none : {K : Type 0} (eq : K → K → Bool) → IsDistinct eq []
unfolding IsDistinct
distinct_none eq = tt

-- a record that is written where a test passes
pub held-cond : {R : Type 0} (b : Bool) (w : Option R) (o : Option (Option R)) → kept_record (cond b (Some w) o) ≡ cond b w (kept_record o)
held-cond true w o = refl
held-cond false w o = refl

module _ {K V : Type 0} (eq : K → K → Bool) where
  pub entry_at : (k : K) (es : List (K × V)) (i : ℕ) → is_place_of eq es i k ≡ true → (e : K × V) × (slice_get es i ≡ Some e) × (eq k e.0 ≡ true)
  entry_at k [] i h = absurd (true≢false (sym h))
  entry_at k (e ∷ es) zero h = (e, refl, h)
  entry_at k (e ∷ es) (suc i) h = entry_at k es i h

  pub place_within : (k : K) (es : List (K × V)) (i : ℕ) → is_place_of eq es i k ≡ true → i < length es
  place_within k es i h = slice_get_within es i _ (entry_at k es i h).1

  pub has_key_suc : (k : K) (es : List (K × V)) (i : ℕ) → has_key eq es (suc i) k ≡ is_place_of eq es i k
  has_key_suc k es i =
      let e : (suc i == 0) ≡ false = grind arith in
      let m : suc i - 1 ≡ i = omega arith in
      rw (e, m) refl

  -- the one entry has the key, or no entry has
  pub only_key : (k : K) (es : List (K × V)) → length es ≡ 1 → has_key eq es 1 k ≡ false → (n : ℕ) → has_key eq es n k ≡ false
  only_key k [] one h n = absurd (omega (arith, one))
  only_key k (e ∷ []) one h zero = refl
  only_key k (e ∷ []) one h (suc zero) = h
  only_key k (e ∷ []) one h (suc (suc n)) = has_key_suc k (e ∷ []) (suc n)
  only_key k (e ∷ d ∷ es) one h n = absurd (omega (arith, one))

  pub no_place : (k : K) (es : List (K × V)) → ((i : ℕ) → is_place_of eq es i k ≡ false) → lookup (eq k) es ≡ None
  no_place k [] h = refl
  no_place k (e ∷ es) h = rw (h zero) (no_place k es (λ i. h (suc i)))

  pub keys_added : (k : K) (v : V) (es : List (K × V)) → keys_of (es ++ (k, v) ∷ []) ≡ keys_of es ++ k ∷ []
  keys_added k v es = map-append (λ (e : K × V). e.0) es ((k, v) ∷ [])

  -- a place stays that of a key where entries are added
  pub place_stays : (k : K) (es added : List (K × V)) (i : ℕ) → is_place_of eq es i k ≡ true → is_place_of eq (es ++ added) i k ≡ true
  place_stays k [] added i h = absurd (true≢false (sym h))
  place_stays k (e ∷ es) added zero h = h
  place_stays k (e ∷ es) added (suc i) h = place_stays k es added i h

  pub place_added : IsEquivalence eq → (k : K) (v : V) (es : List (K × V)) → is_place_of eq (es ++ (k, v) ∷ []) (length es) k ≡ true
  place_added laws k v [] = laws.refl k
  place_added laws k v (e ∷ es) = place_added laws k v es

  -- a key that no look-up finds stands at no place
  pub apart_at : (k : K) (es : List (K × V)) (i : ℕ) (q : K) → lookup (eq k) es ≡ None → slice_get (keys_of es) i ≡ Some q → eq k q ≡ false
  apart_at k es i q h at = false_from_ne_true (eq k q) (λ t.
      true≢false (sym (any_passes_from_place (eq k) (keys_of es) i q at t) ∙ sym (is_some-lookup (eq k) es) ∙ ap is_some h))

  -- a key that differs from all keys differs from each
  pub later : (y : K) (es : List (K × V)) (i : ℕ) (e : K × V) → AllByRecursion (λ z. eq y z ≡ false) (keys_of es) → slice_get es i ≡ Some e → eq y e.0 ≡ false
  later y [] i e a h = absurd (true≢false (sym (ap is_some h)))
  later y (x ∷ es) zero e a h = subst (λ (o : Option (K × V)). eq y (unwrap_or o e).0 ≡ false) h a.0
  later y (x ∷ es) (suc i) e a h = later y es i e a.1 h

  skipped : (k : K) (b : Bool) (x : K × V) (es : List (K × V)) → eq k x.0 ≡ false → lookup (eq k) es ≡ None → lookup (eq k) (cond b (x ∷ es) es) ≡ None
  skipped k true x es apart h = rw apart h
  skipped k false x es apart h = h

  -- a key without an entry has none after some left
  pub absent_filter : (p : K × V → Bool) (k : K) (es : List (K × V)) → lookup (eq k) es ≡ None → lookup (eq k) (filter p es) ≡ None
  absent_filter p k [] h = refl
  absent_filter p k (x ∷ es) h =
      let a = none_passes_from_lookup (eq k) (x ∷ es) h in
      skipped k (p x) x (filter p es) a.0 (absent_filter p k es (rw a.0 at h))

  -- an entry's key doesn't stand before it
  pub absent_before : IsEquivalence eq → (p : K × V → Bool) (es : List (K × V)) (i : ℕ) (e : K × V) → IsDistinct eq (keys_of es) → slice_get es i ≡ Some e
      → lookup (eq e.0) (filter p (take i es)) ≡ None
  absent_before laws p [] i e d h = absurd (true≢false (sym (ap is_some h)))
  absent_before laws p (x ∷ es) zero e d h = refl
  absent_before laws p (x ∷ es) (suc i) e d h = skipped e.0 (p x) x (filter p (take i es))
      (laws.symm e.0 x.0 ∙ later x.0 es i e (IsDistinct-head eq x.0 (keys_of es) d) h)
      (absent_before laws p es i e (IsDistinct-tail eq x.0 (keys_of es) d) h)

  lookup_tests : (p q : K → Bool) → ((x : K) → p x ≡ q x) → (es : List (K × V)) → lookup p es ≡ lookup q es
  lookup_tests p q same [] = refl
  lookup_tests p q same (e ∷ es) = rw (same e.0, lookup_tests p q same es) refl

  -- equal keys are looked up alike
  pub lookup_alike : IsEquivalence eq → (k q : K) (es : List (K × V)) → eq k q ≡ true → lookup (eq k) es ≡ lookup (eq q) es
  lookup_alike laws k q es same = lookup_tests (eq k) (eq q) (λ x. laws.congr k q x same) es

  chosen : (b c : Bool) (s v l r : Option V) → (b ≡ true → c ≡ false) → l ≡ cond c v r → cond b s l ≡ cond c v (cond b s r)
  chosen true c s v l r apart rest = rw (apart refl) refl
  chosen false c s v l r apart rest = rest

  added_last : IsEquivalence eq → (q k : K) (v : V) (es : List (K × V)) → NonePasses (eq k) es
      → lookup (eq q) (es ++ (k, v) ∷ []) ≡ cond (eq k q) (Some v) (lookup (eq q) es)
  added_last laws q k v [] h = ap (λ b. cond b (Some v) None) (laws.symm q k)
  added_last laws q k v (e ∷ es) h = chosen (eq q e.0) (eq k q) (Some e.1) (Some v) _ _
      (λ t. laws.symm k q ∙ laws.congr q e.0 k t ∙ laws.symm e.0 k ∙ h.0)
      (added_last laws q k v es h.1)

  pub lookup_added : IsEquivalence eq → (q k : K) (v : V) (es : List (K × V)) → lookup (eq k) es ≡ None
      → lookup (eq q) (es ++ (k, v) ∷ []) ≡ cond (eq k q) (Some v) (lookup (eq q) es)
  lookup_added laws q k v es h = added_last laws q k v es (none_passes_from_lookup (eq k) es h)

  pub distinct_added : IsEquivalence eq → (k : K) (v : V) (es : List (K × V)) → IsDistinct eq (keys_of es) → lookup (eq k) es ≡ None
      → IsDistinct eq (keys_of (es ++ (k, v) ∷ []))
  distinct_added laws k v es d h = rw (keys_added k v es) (IsDistinct-push laws (keys_of es) k d (sym (is_some-lookup (eq k) es) ∙ ap is_some h))

  -- what stands at a key's place is what a look-up finds
  pub lookup_at_place : IsEquivalence eq → (k : K) (es : List (K × V)) (i : ℕ) → IsDistinct eq (keys_of es) → is_place_of eq es i k ≡ true
      → lookup (eq k) es ≡ option_map (λ (e : K × V). e.1) (slice_get es i)
  lookup_at_place laws k es i d h =
      let t = entry_at k es i h in
      lookup_alike laws k t.0.0 es t.2 ∙ lookup_from_place laws es i t.0.0 t.0.1 d t.1 ∙ sym (ap (option_map (λ (e : K × V). e.1)) t.1)

module _ {K R : Type 0} (eq : K → K → Bool) (laws : IsEquivalence eq) where
  pub record_at_place : (k : K) (es : Entries K R) (i : ℕ) → IsDistinct eq (keys_of es) → is_place_of eq es i k ≡ true → record_of eq es k ≡ record_at es i
  record_at_place k es i d h = ap kept_record (lookup_at_place eq laws k es i d h)

  held_cond : (b : Bool) (o : Option (Option R)) → kept_record (cond b (Some None) o) ≡ cond b None (kept_record o)
  held_cond true o = refl
  held_cond false o = refl

  nothing_there : (b : Bool) (o : Option R) → (b ≡ true → o ≡ None) → cond b None o ≡ o
  nothing_there true o h = sym (h refl)
  nothing_there false o h = refl

  -- an entry without a record changes no key's record
  pub record_added : (q k : K) (es : Entries K R) → lookup (eq k) es ≡ None → record_of eq (es ++ (k, None) ∷ []) q ≡ record_of eq es q
  record_added q k es h =
      ap kept_record (lookup_added eq laws q k None es h) ∙ held_cond (eq k q) (lookup (eq q) es)
      ∙ nothing_there (eq k q) (record_of eq es q) (λ t. ap kept_record (sym (lookup_alike eq laws k q es t) ∙ h))

  held_filter : (o : Option (Option R)) → kept_record (option_filter is_some o) ≡ kept_record o
  held_filter None = refl
  held_filter (Some None) = refl
  held_filter (Some (Some r)) = refl

  -- entries without a record change no key's record
  pub record_filter : (q : K) (es : Entries K R) → IsDistinct eq (keys_of es) → record_of eq (filter has_record es) q ≡ record_of eq es q
  record_filter q es d = ap kept_record (lookup-filter-values laws is_some q es d) ∙ held_filter (lookup (eq q) es)

  pub keys_with_record : (es : Entries K R) (i : ℕ) (w : Option R) → keys_of (with_record es i w) ≡ keys_of es
  keys_with_record [] i w = refl
  keys_with_record (e ∷ es) zero w = refl
  keys_with_record (e ∷ es) (suc i) w = ap (λ ks. e.0 ∷ ks) (keys_with_record es i w)

  pub length_with_record : (es : Entries K R) (i : ℕ) (w : Option R) → length (with_record es i w) ≡ length es
  length_with_record [] i w = refl
  length_with_record (e ∷ es) zero w = refl
  length_with_record (e ∷ es) (suc i) w = ap suc (length_with_record es i w)

  slice_set_record : (es : Entries K R) (i : ℕ) (e : K × Option R) (w : Option R) → slice_get es i ≡ Some e → slice_set es i (e.0, w) ≡ with_record es i w
  slice_set_record [] i e w h = refl
  slice_set_record (x ∷ es) zero e w h = ap (λ (o : Option (K × Option R)). ((unwrap_or o e).0, w) ∷ es) (sym h)
  slice_set_record (x ∷ es) (suc i) e w h = ap (λ xs. x ∷ xs) (slice_set_record es i e w h)

  put : (b c d : Bool) (v s r : Option (Option R)) → b ≡ c → d ≡ b → cond b v r ≡ cond c v (cond d s r)
  put true c d v s r p e = rw (← p) refl
  put false c d v s r p e = rw (← p, e) refl

  picked : (b c : Bool) (s v l r : Option (Option R)) → (b ≡ true → c ≡ false) → l ≡ cond c v r → cond b s l ≡ cond c v (cond b s r)
  picked true c s v l r apart rest = rw (apart refl) refl
  picked false c s v l r apart rest = rest

  later_place : (y : K) (es : Entries K R) (i : ℕ) (k : K) → AllByRecursion (λ z. eq y z ≡ false) (keys_of es) → is_place_of eq es i k ≡ true → eq y k ≡ false
  later_place y es i k a h =
      let t = entry_at eq k es i h in
      laws.symm y k ∙ laws.congr k t.0.0 y t.2 ∙ laws.symm t.0.0 y ∙ later eq y es i t.0 a t.1

  lookup_with_record : (q : K) (es : Entries K R) (i : ℕ) (k : K) (w : Option R) → IsDistinct eq (keys_of es) → is_place_of eq es i k ≡ true
      → lookup (eq q) (with_record es i w) ≡ cond (eq k q) (Some w) (lookup (eq q) es)
  lookup_with_record q [] i k w d h = absurd (true≢false (sym h))
  lookup_with_record q (x ∷ es) zero k w d h = put (eq q x.0) (eq k q) (eq q x.0) (Some w) (Some x.1) (lookup (eq q) es)
      (laws.symm q x.0 ∙ sym (laws.congr k x.0 q h)) refl
  lookup_with_record q (x ∷ es) (suc i) k w d h = picked (eq q x.0) (eq k q) (Some x.1) (Some w) _ _
      (λ t. laws.symm k q ∙ laws.congr q x.0 k t ∙ later_place x.0 es i k (IsDistinct-head eq x.0 (keys_of es) d) h)
      (lookup_with_record q es i k w (IsDistinct-tail eq x.0 (keys_of es) d) h)

  pub record_read : (es : Entries K R) (i : ℕ) (e : K × Option R) → i < length es → e ≡ get_or es i e → record_at es i ≡ e.1
  record_read es i e within read =
      ap (λ (o : Option (K × Option R)). kept_record (option_map (λ (x : K × Option R). x.1) o)) (slice_get_read es (length es) i e refl within read)

  -- a record that is written through an entry that was read
  pub written : (es : Entries K R) (i : ℕ) (e : K × Option R) (w : Option R) → i < length es → e ≡ get_or es i e → slice_set es i (e.0, w) ≡ with_record es i w
  written es i e w within read = slice_set_record es i e w (slice_get_read es (length es) i e refl within read)

  pub map_with_record : (es : Entries K R) (i : ℕ) (w : Option R) → IsMap eq es → IsMap eq (with_record es i w)
  map_with_record es i w map = record {
    distinct = rw (keys_with_record es i w) map.distinct;
    few = rw (length_with_record es i w) map.few;
  }

  -- a record that is written at a key's place is the key's, and every other key keeps its record
  pub record_with_record : (q : K) (es : Entries K R) (i : ℕ) (k : K) (w : Option R) → IsDistinct eq (keys_of es) → is_place_of eq es i k ≡ true
      → record_of eq (with_record es i w) q ≡ cond (eq k q) w (record_of eq es q)
  record_with_record q es i k w d h = ap kept_record (lookup_with_record q es i k w d h) ∙ held-cond (eq k q) w (lookup (eq q) es)

  -- whether an entry without a record was added or not, no key's record changed
  pub record_by_add : {T E : Type 0} (r : Result T E) (old new : Entries K R) (k : K) → lookup (eq k) old ≡ None
      → OnOk r (new ≡ old ++ (k, None) ∷ []) → OnErr r (new ≡ old) → (q : K) → record_of eq new q ≡ record_of eq old q
  record_by_add (Ok x) old new k absent ok err q = rw ok (record_added q k old absent)
  record_by_add (Err e) old new k absent ok err q = rw err refl

  -- the entry that was added is the key's
  pub place_by_add : {E : Type 0} (r : Result ℕ E) (old new : Entries K R) (k : K) → IfOk r (λ place. place ≡ length old)
      → OnOk r (new ≡ old ++ (k, None) ∷ []) → IfOk r (λ place. is_place_of eq new place k ≡ true)
  place_by_add (Ok place) old new k last ok = rw (ok, last) (place_added eq laws k None old)
  place_by_add (Err e) old new k last ok = tt

  -- whether an entry was added or not, places stay those of their keys
  pub stays_by_add : {T E : Type 0} (r : Result T E) (old new : Entries K R) (added : Entries K R) → OnOk r (new ≡ old ++ added) → OnErr r (new ≡ old)
      → (place : ℕ) (k : K) → is_place_of eq old place k ≡ true → is_place_of eq new place k ≡ true
  stays_by_add (Ok x) old new added ok err place k h = rw ok (place_stays eq k old added place h)
  stays_by_add (Err e) old new added ok err place k h = rw err h
