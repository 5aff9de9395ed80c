-- Numbers in lists where each stands once: which stand after a front, and what is picked out by that.
use Rattle.standby_failover.proofs.Words.{◌≡◌, ℕ, ◌+◌, ◌<◌, ◌≤◌, Bool, true, false, suc, zero, List, [], ◌∷◌, ◌++◌, take, drop, length, filter, refl, sym, ap}
use Rattle.standby_failover.proofs.Words.{◌∙◌, subst, arith, if◌then◌else◌, ◌==◌, ◌&&◌, ◌||◌, not, or-true, Decides-eqb, take-append-drop, filter-append}
use Rattle.standby_failover.proofs.Words.{IsFront, times_filter, is_in}
use Rattle.std.proofs.lemmas.List.{drop-append-le}
use Rattle.std.proofs.lemmas.List.Folds.{list_any-append}
use Rattle.net_world.specs.Fold.{times}
use Rattle.net_world.proofs.NumberCounts.{times-append}

-- a number that doesn't stand in a list, and one that does
none_next : (b : Bool) (n : ℕ) (is : Bool) → (if b then 1 else 0) + n ≡ 0 → (n ≡ 0 → is ≡ false) → (b || is) ≡ false
none_next true n is e h = absurd (omega (arith, e))
none_next false n is e h = h (omega (arith, e))

pub none_in : (p : ℕ) (xs : List ℕ) → times p xs ≡ 0 → is_in p xs ≡ false
none_in p [] e = refl
none_in p (x ∷ xs) e = none_next (p == x) (times p xs) (is_in p xs) e (none_in p xs)

one_next : (b : Bool) (n : ℕ) (is : Bool) → (b || is) ≡ true → (is ≡ true → 1 ≤ n) → 1 ≤ (if b then 1 else 0) + n
one_next true n is e h = omega arith
one_next false n is e h = let some = h e in omega (arith, some)

pub some_in : (p : ℕ) (xs : List ℕ) → is_in p xs ≡ true → 1 ≤ times p xs
some_in p [] e = cc
some_in p (x ∷ xs) e = one_next (p == x) (times p xs) (is_in p xs) e (some_in p xs)

none_next_times : (b : Bool) (n : ℕ) (is : Bool) → (b || is) ≡ false → (is ≡ false → n ≡ 0) → (if b then 1 else 0) + n ≡ 0
none_next_times true n is e h = cc
none_next_times false n is e h = let none = h e in omega (arith, none)

pub none_times : (p : ℕ) (xs : List ℕ) → is_in p xs ≡ false → times p xs ≡ 0
none_times p [] e = refl
none_times p (x ∷ xs) e = none_next_times (p == x) (times p xs) (is_in p xs) e (none_times p xs)

pub in-append : (p : ℕ) (xs ys : List ℕ) → is_in p (xs ++ ys) ≡ (is_in p xs || is_in p ys)
in-append p xs ys = list_any-append (λ q. p == q) xs ys

pub same_number : (p : ℕ) → (p == p) ≡ true
same_number p = (Decides-eqb p p).1 refl

pub in_middle : (p : ℕ) (xs ys : List ℕ) → is_in p (xs ++ p ∷ ys) ≡ true
in_middle p xs ys = in-append p xs (p ∷ ys) ∙ ap (λ b. is_in p xs || (b || is_in p ys)) (same_number p) ∙ or-true (is_in p xs)

-- no number stands in the list twice
abbrev pub IsOnce : List ℕ → Type 0
IsOnce xs = (p : ℕ) → times p xs ≤ 1

abbrev one_if : Bool → ℕ
one_if b = if b then 1 else 0

-- a number in the middle stands nowhere else
once_middle : (p : ℕ) (xs ys : List ℕ) → times p (xs ++ p ∷ ys) ≤ 1 → (times p xs ≡ 0) × (times p ys ≡ 0)
once_middle p xs ys h =
    let both = times-append p xs (p ∷ ys) in
    let one = ap one_if (same_number p) in
    (omega (arith, h, both, one), omega (arith, h, both, one))

-- what stands after a front isn't more than all
times_drop : (p r : ℕ) (xs : List ℕ) → times p (drop r xs) ≤ times p xs
times_drop p r xs = omega (arith, ap (times p) (take-append-drop r xs), times-append p (take r xs) (drop r xs))

drop_past : (r : ℕ) (xs ys : List ℕ) (p : ℕ) → length xs < r → times p ys ≡ 0 → times p (drop r (xs ++ p ∷ ys)) ≤ times p xs
drop_past zero [] ys p more none = absurd (omega (arith, more))
drop_past (suc r) [] ys p more none = let few = times_drop p r ys in omega (arith, few, none)
drop_past zero (x ∷ xs) ys p more none = absurd (omega (arith, more))
drop_past (suc r) (x ∷ xs) ys p more none = let rest = drop_past r xs ys p (omega (arith, more)) none in omega (arith, rest)

-- a number after the first so many, or among them
pub after_first : (r p : ℕ) (xs ys : List ℕ) → times p (xs ++ p ∷ ys) ≤ 1 → r ≤ length xs → is_in p (drop r (xs ++ p ∷ ys)) ≡ true
after_first r p xs ys h few = ap (is_in p) (drop-append-le r xs (p ∷ ys) few) ∙ in_middle p (drop r xs) ys

pub among : (r p : ℕ) (xs ys : List ℕ) → times p (xs ++ p ∷ ys) ≤ 1 → length xs < r → is_in p (drop r (xs ++ p ∷ ys)) ≡ false
among r p xs ys h more =
    let none = once_middle p xs ys h in
    none_in p (drop r (xs ++ p ∷ ys)) (omega (arith, drop_past r xs ys p more none.1, none.0))

-- what is picked out by two tests, in either order
pub those_filter : {X : Type 0} (m l : X → Bool) (xs : List X) → filter m (filter l xs) ≡ filter l (filter m xs)
those_filter m l [] = refl
those_filter m l (x ∷ xs) = by_tests (those_filter m l xs) (m x) (l x) refl refl
  where
    by_tests : filter m (filter l xs) ≡ filter l (filter m xs) → (b c : Bool) → m x ≡ b → l x ≡ c → filter m (filter l (x ∷ xs)) ≡ filter l (filter m (x ∷ xs))
    by_tests rest true true mx lx = simp (mx, lx) (ap (λ v. x ∷ v) rest)
    by_tests rest true false mx lx = simp (mx, lx) rest
    by_tests rest false true mx lx = simp (mx, lx) rest
    by_tests rest false false mx lx = simp (mx, lx) rest

-- what stands in a list and is picked out
pub in_filter : (p : ℕ) (l : ℕ → Bool) (xs : List ℕ) → is_in p (filter l xs) ≡ (l p && is_in p xs)
in_filter p l [] = elim (l p) as (λ b. false ≡ (b && false)) [ true ↦ refl | false ↦ refl ]
in_filter p l (x ∷ xs) = by_test (in_filter p l xs) (p == x) refl (l x) refl
  where
    by_test : is_in p (filter l xs) ≡ (l p && is_in p xs) → (b : Bool) → (p == x) ≡ b → (c : Bool) → l x ≡ c
        → is_in p (filter l (x ∷ xs)) ≡ (l p && is_in p (x ∷ xs))
    by_test rest true on true lx = let same : p ≡ x = (Decides-eqb p x).0 on in let lp : l p ≡ true = ap l same ∙ lx in simp (lx, on, lp) refl
    by_test rest true on false lx = let same : p ≡ x = (Decides-eqb p x).0 on in let lp : l p ≡ false = ap l same
        ∙ lx in let no : is_in p (filter l xs) ≡ false = rest ∙ ap (λ b. b && is_in p xs) lp in simp (lx, on, lp, no) refl
    by_test rest false off true lx = simp (lx, off) rest
    by_test rest false off false lx = simp (lx, off) rest

pub filter_all : (f : ℕ → Bool) (xs : List ℕ) → ((p : ℕ) → is_in p xs ≡ true → f p ≡ true) → filter f xs ≡ xs
filter_all f [] h = refl
filter_all f (x ∷ xs) h =
    let on : f x ≡ true = h x (ap (λ b. b || is_in x xs) (same_number x)) in
    rw on (ap (λ v. x ∷ v) (filter_all f xs (λ p e. h p (ap (λ b. (p == x) || b) e ∙ or-true (p == x)))))

pub filter_none : (f : ℕ → Bool) (xs : List ℕ) → ((p : ℕ) → is_in p xs ≡ true → f p ≡ false) → filter f xs ≡ []
filter_none f [] h = refl
filter_none f (x ∷ xs) h =
    let off : f x ≡ false = h x (ap (λ b. b || is_in x xs) (same_number x)) in
    rw off (filter_none f xs (λ p e. h p (ap (λ b. (p == x) || b) e ∙ or-true (p == x))))

pub filter_same : (f g : ℕ → Bool) (xs : List ℕ) → ((p : ℕ) → is_in p xs ≡ true → f p ≡ g p) → filter f xs ≡ filter g xs
filter_same f g [] h = refl
filter_same f g (x ∷ xs) h =
    let same : f x ≡ g x = h x (ap (λ b. b || is_in x xs) (same_number x)) in
    let rest = filter_same f g xs (λ p e. h p (ap (λ b. (p == x) || b) e ∙ or-true (p == x))) in
    rw same (ap (λ v. if g x then x ∷ v else v) rest)

-- what stands in one part of such a list doesn't stand in the other
module _ (xs ys : List ℕ) (once : IsOnce (xs ++ ys)) where
  pub not_after : (p : ℕ) → is_in p xs ≡ true → is_in p ys ≡ false
  not_after p on = none_in p ys (omega (arith, times-append p xs ys, once p, some_in p xs on))

  pub not_before : (p : ℕ) → is_in p ys ≡ true → is_in p xs ≡ false
  not_before p on = none_in p xs (omega (arith, times-append p xs ys, once p, some_in p ys on))

  -- so the later part is what is in it, and what isn't in the front
  pub later_is : filter (λ p. is_in p ys) (xs ++ ys) ≡ ys
  later_is =
      filter-append (λ p. is_in p ys) xs ys
      ∙ ap (λ v. v ++ filter (λ p. is_in p ys) ys) (filter_none (λ p. is_in p ys) xs not_after)
      ∙ filter_all (λ p. is_in p ys) ys (λ p e. e)

  pub others_are : filter (λ p. not (is_in p xs)) (xs ++ ys) ≡ ys
  others_are =
      filter-append (λ p. not (is_in p xs)) xs ys
      ∙ ap (λ v. v ++ filter (λ p. not (is_in p xs)) ys) (filter_none (λ p. not (is_in p xs)) xs (λ p e. ap not e))
      ∙ filter_all (λ p. not (is_in p xs)) ys (λ p e. ap not (not_before p e))

-- what is picked out of a list by standing after so many is just that
pub later_kept : (r : ℕ) (xs : List ℕ) → IsOnce xs → filter (λ p. is_in p (drop r xs)) xs ≡ drop r xs
later_kept r xs once =
    let whole = take-append-drop r xs in
    let parts : IsOnce (take r xs ++ drop r xs) = subst IsOnce (sym whole) once in
    ap (filter (λ p. is_in p (drop r xs))) (sym whole) ∙ later_is (take r xs) (drop r xs) parts

-- a front, and what isn't in it
pub front_and_others : (xs all : List ℕ) → IsFront xs all → IsOnce all → xs ++ filter (λ p. not (is_in p xs)) all ≡ all
front_and_others xs all h once =
    let parts : IsOnce (xs ++ h.rest) = subst IsOnce (sym h.whole) once in
    ap (λ v. xs ++ filter (λ p. not (is_in p xs)) v) (sym h.whole) ∙ ap (λ v. xs ++ v) (others_are xs h.rest parts) ∙ h.whole

-- what stands after so many stands in the list
pub in_drop : (p r : ℕ) (xs : List ℕ) → is_in p (drop r xs) ≡ true → is_in p xs ≡ true
in_drop p r xs e = ap (is_in p) (sym (take-append-drop r xs)) ∙ in-append p (take r xs) (drop r xs) ∙ ap (λ b. is_in p (take r xs) || b) e
    ∙ or-true (is_in p (take r xs))

pub once_those : (m : ℕ → Bool) (xs : List ℕ) → IsOnce xs → IsOnce (filter m xs)
once_those m xs once p = elim (m p) as (λ b. m p ≡ b → times p (filter m xs) ≤ 1) [
  | true ↦ λ on. (let same = times_filter m p on xs in let few = once p in omega (arith, same, few))
  | false ↦ λ off. (let no : is_in p (filter m xs) ≡ false = in_filter p m xs
      ∙ ap (λ b. b && is_in p xs) off in let none = none_times p (filter m xs) no in omega (arith, none))
] refl
