-- Units each once: what is added and taken out, and that they are as many as the records that have them.
use Rattle.nf_net.proofs.Words.{◌≡◌, zero, suc, ◌≤◌, Bool, true, false, cond, None, List, [], ◌∷◌, length, map, refl, sym, ap, ◌∙◌, arith, if◌then◌else◌, ◌&&◌}
use Rattle.nf_net.proofs.Words.{◌||◌, not, is_some, get-remove, len-entries, and-false, or-false, units_total, unit_cmp, Records, same_unit, is_among}
use Rattle.nf_net.proofs.Words.{same_unit-true, same_unit_equiv, with_units, without_units, Unit, split}
use Rattle.std.proofs.Common.{◌-◌}
use Rattle.std.specs.FinMap as finite
use Rattle.std.specs.FinMap.{contains_key-keys, empty_of_len, get-empty, len-remove}

-- no unit comes twice
abbrev pub AreOnce : List Unit → Type 0
AreOnce [] = Prim.Unit {0}
AreOnce (u ∷ us) = (is_among us u ≡ false) × AreOnce us

-- one more in front, or not
found : (t b x : Bool) → (t ≡ true → b ≡ true) → b || x ≡ b || (t || x)
found true true x h = refl
found true false x h = let never : false ≡ true = h refl in cc
found false b x h = refl

turned : (t b x : Bool) → (t || b) || x ≡ b || (t || x)
turned true true x = refl
turned true false x = refl
turned false b x = refl

among_same : (us : List Unit) (u q : Unit) → is_among us u ≡ true → same_unit q u ≡ true → is_among us q ≡ true
among_same us u q on same = ap (is_among us) (same_unit-true q u same) ∙ on

pub with_in : (us more : List Unit) (q : Unit) → is_among (with_units us more) q ≡ is_among us q || is_among more q
with_in us [] q = sym (or-false (is_among us q))
with_in us (u ∷ more) q =
    with_in (if is_among us u then us else u ∷ us) more q
    ∙ split (is_among us u) (λ t. is_among (if t then us else u ∷ us) q || is_among more q ≡ is_among us q || (same_unit q u || is_among more q))
    (λ on. found (same_unit q u) (is_among us q) (is_among more q) (among_same us u q on)) (λ _. turned (same_unit q u) (is_among us q) (is_among more q))

pub with_once : (us more : List Unit) → AreOnce us → AreOnce (with_units us more)
with_once us [] h = h
with_once us (u ∷ more) h =
    with_once (if is_among us u then us else u ∷ us) more (split (is_among us u) (λ t. AreOnce (if t then us else u ∷ us)) (λ _. h) (λ off. (off, h)))

pub without_in : (gone us : List Unit) (q : Unit) → is_among (without_units gone us) q ≡ is_among us q && not (is_among gone q)
without_in gone [] q = refl
without_in gone (u ∷ us) q = split (is_among gone u)
    (λ t. is_among (cond (not t) (u ∷ without_units gone us) (without_units gone us)) q ≡ (same_unit q u || is_among us q) && not (is_among gone q))
    (λ on. without_in gone us q
    ∙ split (same_unit q u) (λ t. is_among us q && not (is_among gone q) ≡ (t || is_among us q) && not (is_among gone q))
    (λ same. (let there : is_among gone q ≡ true = among_same gone u q on same in rw there (and-false (is_among us q)))) (λ _. refl))
    (λ off. ap (λ b. same_unit q u || b) (without_in gone us q)
    ∙ split (same_unit q u) (λ t. t || (is_among us q && not (is_among gone q)) ≡ (t || is_among us q) && not (is_among gone q))
    (λ same. (let there : is_among gone q ≡ false = ap (is_among gone) (same_unit-true q u same) ∙ off in rw there refl)) (λ _. refl))

pub without_once : (gone us : List Unit) → AreOnce us → AreOnce (without_units gone us)
without_once gone [] h = tt
without_once gone (u ∷ us) h = split (is_among gone u) (λ t. AreOnce (cond (not t) (u ∷ without_units gone us) (without_units gone us)))
    (λ _. without_once gone us h.1) (λ _. (let off = h.0 in without_in gone us u ∙ rw off refl, without_once gone us h.1))

module _ {R : Type 0} where
  -- a map with a record isn't empty
  has_one : (m : Records R) (u : Unit) → finite.contains_key m u ≡ true → 1 ≤ finite.len m
  has_one m u has = elim (finite.len m) as (λ n. finite.len m ≡ n → 1 ≤ n) [
    | zero ↦ λ none. (let never : true ≡ false = sym has ∙ ap (λ n. finite.contains_key n u) (empty_of_len m none) ∙ ap is_some (get-empty unit_cmp u) in cc)
    | suc n ↦ λ some. omega arith
  ] refl

  -- one without records is
  none_in : (m : Records R) → ((u : Unit) → finite.contains_key m u ≡ false) → finite.len m ≡ 0
  none_in m h = len-entries m ∙ by_entries (finite.entries m) refl
    where
      by_entries : (es : List (Unit × R)) → finite.entries m ≡ es → length es ≡ 0
      by_entries [] e = refl
      by_entries (x ∷ es) e =
          let self : same_unit x.0 x.0 ≡ true = same_unit_equiv.refl x.0 in
          let keys : finite.contains_key m x.0 ≡ is_among (map (λ y. y.0) (x ∷ es)) x.0 = contains_key-keys m x.0
          ∙ ap (λ zs. is_among (map (λ y. y.0) zs) x.0) e in
          let on : is_among (map (λ y. y.0) (x ∷ es)) x.0 ≡ true = rw self refl in
          let never : false ≡ true = sym (h x.0) ∙ keys ∙ on in
          cc

  -- units each once, which are those with records, are as many
  pub as_many : (us : List Unit) (m : Records R) → AreOnce us → ((u : Unit) → is_among us u ≡ finite.contains_key m u) → length us ≡ finite.len m
  as_many [] m h same = sym (none_in m (λ u. sym (same u)))
  as_many (u ∷ us) m h same =
      let self : same_unit u u ≡ true = same_unit_equiv.refl u in
      let on : finite.contains_key m u ≡ true = sym (same u) ∙ rw self refl in
      let less : finite.len (finite.remove m u) ≡ finite.len m - 1 = len-remove units_total m u ∙ ap (λ t. cond t (finite.len m - 1) (finite.len m)) on in
      let rest = as_many us (finite.remove m u) h.1 (λ q. others q) in
      omega (arith, has_one m u on, less, rest)
    where
      others : (q : Unit) → is_among us q ≡ finite.contains_key (finite.remove m u) q
      others q = split (same_unit q u) (λ t. is_among us q ≡ is_some (cond t None (finite.get m q)))
          (λ same_is. ap (is_among us) (same_unit-true q u same_is) ∙ h.0)
          (λ off. (let all : same_unit q u || is_among us q ≡ finite.contains_key m q = same q in sym (ap (λ t. t || is_among us q) off) ∙ all)) ∙ sym
          (ap is_some (get-remove units_total m u q))
