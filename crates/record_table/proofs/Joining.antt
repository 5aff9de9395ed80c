-- One more entry taken in from the end of what is left leaves what all entries give.
use Rattle.std.proofs.Common.{◌≡◌, ℕ, zero, suc, Bool, true, false, cond, List, [], ◌∷◌, ◌++◌, Option, Some, None, refl, sym, ap, ◌∙◌, arith, length}
use Rattle.std.proofs.lemmas.Map.Keys.{IsDistinct-head, IsDistinct-tail}
use Rattle.std.specs.List.{IsDistinct, AllByRecursion, AllZip}
use Rattle.std.specs.Map.{lookup, keys_of}
use Rattle.std.specs.FinMap as finite
use Rattle.std.specs.FinMap.{get-empty}
use Rattle.nf_function.specs.declared.unit.Unit as units
use Rattle.nf_function.specs.Units.{unit_cmp}
use Rattle.unit_map.specs.Entries.{Entries, kept_record, record_of, is_place_of, with_record}
use Rattle.unit_map.proofs.EntryLemmas.{keys_added, lookup_added, held-cond}
use Rattle.record_table.specs.Table.{Records, same_unit, with_kept, either, union_of}
use Rattle.record_table.specs.Entries.{map_of}
use Rattle.record_table.proofs.UnitOrder.{unit_eq, unit_eq_equiv, tied, same_unit-true, same_unit_equiv}
use Rattle.record_table.proofs.RecordLookUps.{same_records, get-joined, get-with_kept}
use Rattle.record_table.proofs.EntryMaps.{get-map_of, IsPut}

module _ {K : Type 0} (eq : K → K → Bool) where
  all_but_last : (x y : K) (xs : List K) → AllByRecursion (λ z. eq x z ≡ false) (xs ++ y ∷ []) → AllByRecursion (λ z. eq x z ≡ false) xs × (eq x y ≡ false)
  all_but_last x y [] all = (tt, all.0)
  all_but_last x y (z ∷ xs) all = let rest = all_but_last x y xs all.1 in ((all.0, rest.0), rest.1)

  distinct_front : (xs : List K) (y : K) → IsDistinct eq (xs ++ y ∷ []) → IsDistinct eq xs
  unfolding IsDistinct
  distinct_front [] y d = tt
  distinct_front (x ∷ xs) y d = ((all_but_last x y xs d.0).0, distinct_front xs y d.1)

  absent_last : ((x y : K) → eq x y ≡ eq y x) → {V : Type 0} (es : List (K × V)) (k : K) (v : V) → IsDistinct eq (keys_of (es ++ (k, v) ∷ []))
      → lookup (eq k) es ≡ None
  absent_last flips [] k v d = refl
  absent_last flips (e ∷ es) k v d =
      let apart = (all_but_last e.0 k (keys_of es) (rw (keys_added eq k v es) at (IsDistinct-head eq e.0 (keys_of (es ++ (k, v) ∷ [])) d))).1 in
      rw (flips k e.0 ∙ apart) (absent_last flips es k v (IsDistinct-tail eq e.0 (keys_of (es ++ (k, v) ∷ [])) d))

module _ {A B : Type 0} (P : A → B → Type 0) where
  pub zip_front : (xs : List A) (ys : List B) (x : A) (y : B) → AllZip P (xs ++ x ∷ []) (ys ++ y ∷ []) → AllZip P xs ys × P x y
  zip_front [] [] x y all = (tt, all.0)
  zip_front [] (z ∷ []) x y all = absurd all.1
  zip_front [] (z ∷ w ∷ ys) x y all = absurd all.1
  zip_front (z ∷ []) [] x y all = absurd all.1
  zip_front (z ∷ w ∷ xs) [] x y all = absurd all.1
  zip_front (z ∷ xs) (w ∷ ys) x y all = let rest = zip_front xs ys x y all.1 in ((all.0, rest.0), rest.1)

  pub zip_none : (xs : List A) (ys : List B) → length ys ≡ 0 → AllZip P xs ys → xs ≡ []
  zip_none [] ys none all = refl
  zip_none (x ∷ xs) [] none all = absurd all
  zip_none (x ∷ xs) (y ∷ ys) none all = absurd (omega (arith, none))

  pub zip_weaker : (Q : A → B → Type 0) → ((a : A) (b : B) → P a b → Q a b) → (xs : List A) (ys : List B) → AllZip P xs ys → AllZip Q xs ys
  zip_weaker Q f [] [] all = all
  zip_weaker Q f [] (y ∷ ys) all = all
  zip_weaker Q f (x ∷ xs) [] all = all
  zip_weaker Q f (x ∷ xs) (y ∷ ys) all = (f x y all.0, zip_weaker Q f xs ys all.1)

module _ {R : Type 0} where
  pub keys_front : (es : Entries units.Unit R) (u : units.Unit) (o : Option R) → IsDistinct unit_eq (keys_of (es ++ (u, o) ∷ []))
      → IsDistinct unit_eq (keys_of es)
  keys_front es u o distinct = distinct_front unit_eq (keys_of es) u (rw (keys_added unit_eq u o es) at distinct)

  pub no_keys : (es : Entries units.Unit R) → keys_of es ≡ [] → es ≡ []
  no_keys [] h = refl
  no_keys (e ∷ es) h = cc

  -- a record that is written changes no place
  pub same_places : (es : Entries units.Unit R) (i : ℕ) (o : Option R) (place : ℕ) (u : units.Unit)
      → is_place_of unit_eq (with_record es i o) place u ≡ is_place_of unit_eq es place u
  same_places [] i o place u = refl
  same_places (e ∷ es) zero o zero u = refl
  same_places (e ∷ es) zero o (suc place) u = refl
  same_places (e ∷ es) (suc i) o zero u = refl
  same_places (e ∷ es) (suc i) o (suc place) u = same_places es i o place u

  get-last : (es : Entries units.Unit R) (u : units.Unit) (o : Option R) (q : units.Unit) → lookup (unit_eq u) es ≡ None
      → finite.get (map_of (es ++ (u, o) ∷ [])) q ≡ cond (same_unit q u) o (finite.get (map_of es) q)
  get-last es u o q absent =
      get-map_of (es ++ (u, o) ∷ []) q ∙ ap kept_record (lookup_added unit_eq unit_eq_equiv q u o es absent) ∙ held-cond (unit_eq u q) o (lookup (unit_eq q) es)
      ∙ ap (λ b. cond b o (record_of unit_eq es q)) (tied u q ∙ same_unit_equiv.symm u q) ∙ ap (cond (same_unit q u) o) (sym (get-map_of es q))

  -- an entry of a unit that has none is put in
  pub map_of-added : (es : Entries units.Unit R) (u : units.Unit) (o : Option R) → lookup (unit_eq u) es ≡ None
      → map_of (es ++ (u, o) ∷ []) ≡ with_kept (map_of es) u o
  map_of-added es u o absent =
      same_records (map_of (es ++ (u, o) ∷ [])) (with_kept (map_of es) u o) (λ q. get-last es u o q absent ∙ sym (get-with_kept (map_of es) u o q))

  module _ (choose : R → R → R) where
    taken_in : (b : Bool) (now_u now_q left_q o : Option R) → (b ≡ true → now_q ≡ now_u) → (b ≡ true → left_q ≡ None)
        → either choose (cond b (either choose now_u o) now_q) left_q ≡ either choose now_q (cond b o left_q)
    taken_in true now_u now_q left_q o same none = rw (none refl, same refl) (nothing (either choose now_u o))
      where
        nothing : (p : Option R) → either choose p None ≡ p
        nothing None = refl
        nothing (Some r) = refl
    taken_in false now_u now_q left_q o same none = refl

    -- the last entry of what is left is taken in
    pub whole_more : (now new left : Entries units.Unit R) (u : units.Unit) (o : Option R) → IsPut now new u (either choose (finite.get (map_of now) u) o)
        → IsDistinct unit_eq (keys_of (left ++ (u, o) ∷ []))
        → union_of choose (map_of new) (map_of left) ≡ union_of choose (map_of now) (map_of (left ++ (u, o) ∷ []))
    whole_more now new left u o is distinct =
        let absent = absent_last unit_eq unit_eq_equiv.symm left u o distinct in
        same_records (union_of choose (map_of new) (map_of left)) (union_of choose (map_of now) (map_of (left ++ (u, o) ∷ []))) (λ q.
        get-joined choose (map_of new) (map_of left) q
        ∙ ap (λ p. either choose p (finite.get (map_of left) q))
        (ap (λ m. finite.get m q) is.map ∙ get-with_kept (map_of now) u (either choose (finite.get (map_of now) u) o) q)
        ∙ taken_in (same_unit q u) (finite.get (map_of now) u) (finite.get (map_of now) q) (finite.get (map_of left) q) o
        (λ h. ap (finite.get (map_of now)) (same_unit-true q u h))
        (λ h. ap (finite.get (map_of left)) (same_unit-true q u h) ∙ get-map_of left u ∙ ap kept_record absent)
        ∙ ap (either choose (finite.get (map_of now) q)) (sym (get-last left u o q absent))
        ∙ sym (get-joined choose (map_of now) (map_of (left ++ (u, o) ∷ [])) q))

    -- nothing is left
    pub whole_none : (m : Records R) → union_of choose m (map_of []) ≡ m
    unfolding map_of
    whole_none m = same_records (union_of choose m finite.empty) m (λ q.
        get-joined choose m finite.empty q ∙ ap (either choose (finite.get m q)) (get-empty unit_cmp q) ∙ nothing (finite.get m q))
      where
        nothing : (p : Option R) → either choose p None ≡ p
        nothing None = refl
        nothing (Some r) = refl
