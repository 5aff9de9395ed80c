-- A list that is sorted by keys, those that tie as they stood, is the stable sort.
use Rattle.std.proofs.Common.{◌≡◌, ◌+◌, Bool, true, false, not, ◌&&◌, cond, List, [], ◌∷◌, map, drop, get_or, refl, sym, ap, subst, ◌∙◌, arith}
use Rattle.std.specs.Prelude.{suc}
use Rattle.std.specs.List.{filter, AllByRecursion}
use Rattle.std.specs.List.Sorted.{IsSortedBy, IsSortedByKey, IsStableByKey, ties}
use Rattle.std.specs.Cmp.{IsTotalOrder, IsStrictWeakOrder}
use Rattle.std.specs.Ordering.{is_lt}
use Rattle.std.specs.declared.cmp.Ordering.{Ordering}
use Rattle.std.proofs.lemmas.Bool.{true≢false, true_from_ne_false, false_from_ne_true}
use Rattle.std.proofs.lemmas.List.Sorted.{ranks_by}
use Rattle.report_lines.specs.Sorting.{put_in, sorted_by}

self_false : (b : Bool) → (b ≡ true → b ≡ false) → b ≡ false
self_false true f = f refl
self_false false f = refl

-- none of two that tie is less
ties_left : (a b : Bool) → (not a && not b) ≡ true → a ≡ false
ties_left true b h = absurd (true≢false (sym h))
ties_left false b h = refl

ties_right : (a b : Bool) → (not a && not b) ≡ true → b ≡ false
ties_right true b h = absurd (true≢false (sym h))
ties_right false true h = absurd (true≢false (sym h))
ties_right false false h = refl

-- two that aren't both kept may be put the other way round
other_way : {X : Type 0} (x y : X) (a b : Bool) (zs : List X) → (a ≡ true → b ≡ true → ⊥)
    → cond b (y ∷ cond a (x ∷ zs) zs) (cond a (x ∷ zs) zs) ≡ cond a (x ∷ cond b (y ∷ zs) zs) (cond b (y ∷ zs) zs)
other_way x y true true zs apart = absurd (apart refl refl)
other_way x y true false zs apart = refl
other_way x y false true zs apart = refl
other_way x y false false zs apart = refl

-- lists that are the same with a first element are the same
rest_same : {X : Type 0} (b : Bool) (y : X) (us vs : List X) → cond b (y ∷ us) us ≡ cond b (y ∷ vs) vs → us ≡ vs
rest_same true y us vs same = ap (drop 1) same
rest_same false y us vs same = same

pub weaker : {X : Type 0} {P Q : X → Type 0} → ((x : X) → P x → Q x) → (xs : List X) → AllByRecursion P xs → AllByRecursion Q xs
weaker f [] all = tt
weaker f (x ∷ xs) all = (f x all.0, weaker f xs all.1)

module _ {X : Type 0} (lt : X → X → Bool) where
  -- none is less than one before it
  abbrev pub IsUp : List X → Type 0
  IsUp [] = Unit {0}
  IsUp (x ∷ xs) = AllByRecursion (λ w. lt w x ≡ false) xs × IsUp xs

  up_from : IsStrictWeakOrder lt → (xs : List X) → IsSortedBy lt xs → IsUp xs
  up_from o [] sorted = tt
  up_from o (x ∷ []) sorted = (tt, tt)
  up_from o (x ∷ y ∷ xs) sorted =
      let first : lt y x ≡ false = sorted 0 x (omega arith) (omega arith) in
      let rest : IsUp (y ∷ xs) = up_from o (y ∷ xs)
      (λ k d low high. let next : suc k + 1 ≡ suc (k + 1) = omega arith in rw next at (sorted (suc k) d (omega arith) (omega arith))) in
      ((first, weaker (λ w h. o.chain w y x h first) xs rest.0), rest)

  irreflexive : IsStrictWeakOrder lt → (x : X) → lt x x ≡ false
  irreflexive o x = self_false (lt x x) (o.one_way x x)

  self_ties : IsStrictWeakOrder lt → (x : X) → ties lt x x ≡ true
  self_ties o x = rw (irreflexive o x) refl

  -- what is less than the first of a list that rises ties with none of it
  none_tie : IsStrictWeakOrder lt → (y z : X) (zs : List X) → lt y z ≡ true → AllByRecursion (λ w. lt w z ≡ false) zs → filter (ties lt y) zs ≡ []
  none_tie o y z [] less all = refl
  none_tie o y z (w ∷ zs) less all =
      let below : lt y w ≡ true = true_from_ne_false (lt y w) (λ h. true≢false (sym less ∙ o.chain y w z h all.0)) in
      rw below (none_tie o y z zs less all.1)

  not_below : IsStrictWeakOrder lt → (y z : X) (ys zs : List X) → IsUp (z ∷ zs) → filter (ties lt y) (y ∷ ys) ≡ filter (ties lt y) (z ∷ zs) → lt y z ≡ false
  not_below o y z ys zs up same = false_from_ne_true (lt y z) (λ less.
      let none : filter (ties lt y) (z ∷ zs) ≡ [] = none_tie o y z (z ∷ zs) less (irreflexive o z, up.0) in
      let one : y ∷ filter (ties lt y) ys ≡ [] = rw (self_ties o y) at (same ∙ none) in
      cc)

  -- lists that rise and keep those that tie in one order are the same
  pub one_sort : IsStrictWeakOrder lt → (ys zs : List X) → IsUp ys → IsUp zs → ((x : X) → filter (ties lt x) ys ≡ filter (ties lt x) zs) → ys ≡ zs
  one_sort o [] [] up also same = refl
  one_sort o [] (z ∷ zs) up also same =
      let one : [] ≡ z ∷ filter (ties lt z) zs = rw (self_ties o z) at (same z) in cc
  one_sort o (y ∷ ys) [] up also same =
      let one : y ∷ filter (ties lt y) ys ≡ [] = rw (self_ties o y) at (same y) in cc
  one_sort o (y ∷ ys) (z ∷ zs) up also same =
      let low : lt y z ≡ false = not_below o y z ys zs also (same y) in
      let high : lt z y ≡ false = not_below o z y zs ys up (sym (same z)) in
      let tied : ties lt y z ≡ true = rw (low, high) refl in
      let firsts : y ∷ filter (ties lt y) ys ≡ z ∷ filter (ties lt y) zs = rw (self_ties o y, tied) at (same y) in
      let first : y ≡ z = ap (λ l. get_or l 0 y) firsts in
      let rest : ys ≡ zs = one_sort o ys zs up.1 also.1 (λ x. rest_same (ties lt x y) y (filter (ties lt x) ys) (filter (ties lt x) zs)
      (subst (λ v. filter (ties lt x) (y ∷ ys) ≡ filter (ties lt x) (v ∷ zs)) (sym first) (same x))) in
      ap (λ v. v ∷ ys) first ∙ ap (λ l. z ∷ l) rest

module _ {X K : Type 0} (key : X → K) (cmp : K → K → Ordering) where
  abbrev pub less : X → X → Bool
  less x y = is_lt (cmp (key x) (key y))

  all_put : (P : X → Type 0) (x : X) (ys : List X) → P x → AllByRecursion P ys → AllByRecursion P (put_in key cmp x ys)
  all_put P x [] one all = (one, tt)
  all_put P x (y ∷ ys) one all = elim (less y x) as (λ b. AllByRecursion P (cond b (y ∷ put_in key cmp x ys) (x ∷ y ∷ ys))) [
    | true ↦ (all.0, all_put P x ys one all.1)
    | false ↦ (one, all)
  ]

  up_put : IsStrictWeakOrder less → (x : X) (ys : List X) → IsUp less ys → IsUp less (put_in key cmp x ys)
  up_put o x [] up = (tt, tt)
  up_put o x (y ∷ ys) up = elim (less y x) as (λ b. less y x ≡ b → IsUp less (cond b (y ∷ put_in key cmp x ys) (x ∷ y ∷ ys))) [
    | true ↦ λ h. (all_put (λ w. less w y ≡ false) x ys (o.one_way y x h) up.0, up_put o x ys up.1)
    | false ↦ λ h. ((h, weaker (λ w g. o.chain w y x g h) ys up.0), up)
  ] refl

  pub up_sort : IsStrictWeakOrder less → (xs : List X) → IsUp less (sorted_by key cmp xs)
  up_sort o [] = tt
  up_sort o (x ∷ xs) = up_put o x (sorted_by key cmp xs) (up_sort o xs)

  same_put : IsStrictWeakOrder less → (z x : X) (ys : List X) → filter (ties less z) (put_in key cmp x ys) ≡ filter (ties less z) (x ∷ ys)
  same_put o z x [] = refl
  same_put o z x (y ∷ ys) = elim (less y x) as (λ b. less y x ≡ b
      → filter (ties less z) (cond b (y ∷ put_in key cmp x ys) (x ∷ y ∷ ys)) ≡ filter (ties less z) (x ∷ y ∷ ys)) [
        | true ↦ λ h. ap (λ l. cond (ties less z y) (y ∷ l) l) (same_put o z x ys)
            ∙ other_way x y (ties less z x) (ties less z y) (filter (ties less z) ys) (λ a b.
            true≢false (sym h ∙ o.chain y z x (ties_right (less z y) (less y z) b) (ties_left (less z x) (less x z) a)))
        | false ↦ λ h. refl
      ] refl

  pub same_sort : IsStrictWeakOrder less → (z : X) (xs : List X) → filter (ties less z) (sorted_by key cmp xs) ≡ filter (ties less z) xs
  same_sort o z [] = refl
  same_sort o z (x ∷ xs) = same_put o z x (sorted_by key cmp xs) ∙ ap (λ l. cond (ties less z x) (x ∷ l) l) (same_sort o z xs)

  pub is_sort : IsTotalOrder cmp → (xs ys : List X) → IsSortedByKey key cmp ys → IsStableByKey key cmp xs ys → ys ≡ sorted_by key cmp xs
  is_sort total xs ys sorted stable =
      let o = ranks_by total key in
      one_sort less o ys (sorted_by key cmp xs) (up_from less o ys sorted) (up_sort o xs) (λ z. stable z ∙ sym (same_sort o z xs))

module _ {X Y K : Type 0} (f : X → Y) (key : Y → K) (cmp : K → K → Ordering) where
  put_in-map : (x : X) (ys : List X) → put_in key cmp (f x) (map f ys) ≡ map f (put_in (λ z. key (f z)) cmp x ys)
  put_in-map x [] = refl
  put_in-map x (y ∷ ys) = elim (is_lt (cmp (key (f y)) (key (f x)))) as (λ b. cond b (f y ∷ put_in key cmp (f x) (map f ys)) (f x ∷ f y ∷ map f ys)
      ≡ map f (cond b (y ∷ put_in (λ z. key (f z)) cmp x ys) (x ∷ y ∷ ys))) [
        | true ↦ ap (λ l. f y ∷ l) (put_in-map x ys)
        | false ↦ refl
      ]

  sorted_by-map : (xs : List X) → sorted_by key cmp (map f xs) ≡ map f (sorted_by (λ z. key (f z)) cmp xs)
  sorted_by-map [] = refl
  sorted_by-map (x ∷ xs) = ap (put_in key cmp (f x)) (sorted_by-map xs) ∙ put_in-map x (sorted_by (λ z. key (f z)) cmp xs)

  -- the same of what stands behind references
  pub is_sort_seen : IsTotalOrder cmp → (xs ys : List X) (zs : List Y) → map f xs ≡ zs
      → IsSortedByKey (λ x. key (f x)) cmp ys → IsStableByKey (λ x. key (f x)) cmp xs ys
      → map f ys ≡ sorted_by key cmp zs
  is_sort_seen total xs ys zs seen sorted stable =
      ap (map f) (is_sort (λ x. key (f x)) cmp total xs ys sorted stable) ∙ sym (sorted_by-map xs) ∙ ap (sorted_by key cmp) seen
