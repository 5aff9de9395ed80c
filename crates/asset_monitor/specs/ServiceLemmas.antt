-- Steps between code and definition, which nobody has to believe: services in order: where one stands, and what one more leaves. It stands
-- in specs/ since the laws of a trait may cite nothing else.
use Rattle.std.proofs.Common.{◌≡◌, ◌∙◌, inl, inr, subst, ◌<◌, ◌≤◌, ◌+◌, ◌&&◌, ℕ, zero, suc, Bool, true, false, cond, List, [], ◌∷◌, ◌++◌, length}
use Rattle.std.proofs.Common.{get_or, take, drop, set, None, Some, is_some, Result, Ok, Err, IfOk, IfErr, refl, sym, ap, arith, nat_le, length-append}
use Rattle.std.specs.List.{AllWithin, HoldsAt, filter, find, insert, list_all}
use Rattle.std.specs.List.Sorted.{IsSearchInRange, IsBinarySearchResult}
use Rattle.std.specs.Ordering.{is_lt, is_eq, is_gt, ordering_reverse}
use Rattle.std.specs.declared.cmp.Ordering.{Ordering}
use Rattle.std.specs.declared.cmp.Ordering.TheVariants.{Less, Equal, Greater}
use Rattle.std.specs.Cmp.{IsTotalOrder}
use Rattle.std.proofs.lemmas.Cmp.{nat_cmp_total, on_total, then_total}
use Rattle.std.proofs.lemmas.Bool.{cases_lt, and_parts, and_from}
use Rattle.std.proofs.lemmas.Bool.Decides.{nat_tests}
use Rattle.std.proofs.lemmas.List.{set_split}
use Rattle.std.proofs.lemmas.List.Sorted.{searchable_from_sorted}
use Rattle.std.proofs.lemmas.List.Folds.{list_all-append}
use Rattle.asset_monitor.specs.declared.service.Service.{Service}
use Rattle.asset_monitor.specs.Places.{IsAt, IsGap}
use Rattle.asset_monitor.specs.Services.{are_services, end_cmp, is_rising, is_service, service_like, services_per_host, with_service}

pub end_total : IsTotalOrder end_cmp
end_total = then_total (on_total (λ (s : Service). s.proto) nat_cmp_total) (on_total (λ (s : Service). s.port) nat_cmp_total)

is_less : (o : Ordering) → is_lt o ≡ true → o ≡ Less
is_less Less h = refl
is_less Equal h = cc
is_less Greater h = cc

pub reversed : (a b : Service) (o : Ordering) → end_cmp a b ≡ o → end_cmp b a ≡ ordering_reverse o
reversed a b o h = end_total.antisymm b a ∙ ap ordering_reverse h

-- what is true of all is true of all of which it follows
pub list_all-weaker : {X : Type 0} (p q : X → Bool) → ((x : X) → p x ≡ true → q x ≡ true) → (xs : List X) → list_all p xs ≡ true → list_all q xs ≡ true
list_all-weaker p q step [] h = refl
list_all-weaker p q step (x ∷ xs) h =
    let parts = and_parts (p x) (list_all p xs) h in and_from (q x) (list_all q xs) (step x parts.0) (list_all-weaker p q step xs parts.1)

-- what is true of all is true of those that pass
list_all-filter : {X : Type 0} (p q : X → Bool) (xs : List X) → list_all p xs ≡ true → list_all p (filter q xs) ≡ true
list_all-filter p q [] h = refl
list_all-filter p q (x ∷ xs) h =
    let parts = and_parts (p x) (list_all p xs) h in by_test (q x) parts.0 (list_all-filter p q xs parts.1)
  where
    by_test : (test : Bool) → p x ≡ true → list_all p (filter q xs) ≡ true → list_all p (cond test (x ∷ filter q xs) (filter q xs)) ≡ true
    by_test true first rest = and_from (p x) (list_all p (filter q xs)) first rest
    by_test false first rest = rest

-- all pass, or none does
filter_all : {X : Type 0} (p : X → Bool) (xs : List X) → list_all p xs ≡ true → filter p xs ≡ xs
filter_all p [] h = refl
filter_all p (x ∷ xs) h = let parts = and_parts (p x) (list_all p xs) h in rw (parts.0, filter_all p xs parts.1) refl

filter_none : {X : Type 0} (p q : X → Bool) → ((x : X) → q x ≡ true → p x ≡ false) → (xs : List X) → list_all q xs ≡ true → filter p xs ≡ []
filter_none p q step [] h = refl
filter_none p q step (x ∷ xs) h =
    let parts = and_parts (q x) (list_all q xs) h in rw (step x parts.0, filter_none p q step xs parts.1) refl

-- of services that rise, an earlier one comes before a later one
pub rising_pair : (xs : List Service) → is_rising xs ≡ true → (i j : ℕ) (d : Service) → i < j → j < length xs → end_cmp (get_or xs i d) (get_or xs j d) ≡ Less
rising_pair [] h i j d less in_range = absurd (omega (arith, in_range))
rising_pair (x ∷ xs) h i zero d less in_range = absurd (omega (arith, less))
rising_pair (x ∷ xs) h zero (suc j) d less in_range =
    let parts = and_parts (list_all (λ later. is_lt (end_cmp x later)) xs) (is_rising xs) h in at_place xs j parts.0 (omega (arith, in_range))
  where
    at_place : (ys : List Service) (k : ℕ) → list_all (λ later. is_lt (end_cmp x later)) ys ≡ true → k < length ys → end_cmp x (get_or ys k d) ≡ Less
    at_place [] k all low = absurd (omega (arith, low))
    at_place (y ∷ ys) zero all low = is_less (end_cmp x y) (and_parts (is_lt (end_cmp x y)) (list_all (λ later. is_lt (end_cmp x later)) ys) all).0
    at_place (y ∷ ys) (suc k) all low =
        at_place ys k (and_parts (is_lt (end_cmp x y)) (list_all (λ later. is_lt (end_cmp x later)) ys) all).1 (omega (arith, low))
rising_pair (x ∷ xs) h (suc i) (suc j) d less in_range =
    rising_pair xs (and_parts (list_all (λ later. is_lt (end_cmp x later)) xs) (is_rising xs) h).1 i j d (omega (arith, less)) (omega (arith, in_range))

-- what comes before the first of services that rise comes before all of them
pub before_all : (x y : Service) (more : List Service) → is_lt (end_cmp x y) ≡ true → is_rising (y ∷ more) ≡ true
    → list_all (λ later. is_lt (end_cmp x later)) (y ∷ more) ≡ true
before_all x y more first rising =
    let after = (and_parts (list_all (λ later. is_lt (end_cmp y later)) more) (is_rising more) rising).0 in
    and_from _ _ first (list_all-weaker (λ later. is_lt (end_cmp y later)) (λ later. is_lt (end_cmp x later))
    (λ later less. ap is_lt (end_total.trans x y later (is_less (end_cmp x y) first) (is_less (end_cmp y later) less))) more after)

-- what comes before or after one of two services with the same end does so for the other
pub before_same : (x y z : Service) → end_cmp x y ≡ Less → end_cmp y z ≡ Equal → end_cmp x z ≡ Less
before_same x y z less same =
    end_total.antisymm x z ∙ ap ordering_reverse (sym (end_total.congr y z x same) ∙ reversed x y Less less)

pub after_same : (x y z : Service) → end_cmp x y ≡ Less → end_cmp x z ≡ Equal → end_cmp y z ≡ Greater
after_same x y z less same =
    end_total.antisymm y z ∙ ap ordering_reverse (sym (end_total.congr x z y same) ∙ less)

-- what passes stands in front, or after
tail_within : {X : Type 0} (P : X → Type 0) (x : X) (xs : List X) (low high : ℕ) → AllWithin P (x ∷ xs) (suc low) (suc high) → AllWithin P xs low high
tail_within P x xs low high h k d l m = h (suc k) d (omega arith) (omega arith)

filter_front : {X : Type 0} (p : X → Bool) (xs : List X) (i : ℕ) → i ≤ length xs → AllWithin (λ x. p x ≡ true) xs 0 i
    → AllWithin (λ x. p x ≡ false) xs i (length xs)
    → filter p xs ≡ take i xs
filter_front p [] zero low pass fail = refl
filter_front p [] (suc i) low pass fail = refl
filter_front p (x ∷ xs) zero low pass fail =
    let first : p x ≡ false = fail 0 x (omega arith) (omega arith) in
    rw first (filter_front p xs zero (omega arith) (λ k d l m. absurd (omega (arith, m))) (λ k d l m. fail (suc k) d (omega arith) (omega arith)))
filter_front p (x ∷ xs) (suc i) low pass fail =
    let first : p x ≡ true = pass 0 x (omega arith) (omega arith) in
    rw (
      first,
      filter_front p xs i (omega arith) (λ k d l m. pass (suc k) d (omega arith) (omega arith)) (λ k d l m. fail (suc k) d (omega arith) (omega arith)),
    ) refl

filter_back : {X : Type 0} (p : X → Bool) (xs : List X) (i : ℕ) → i ≤ length xs → AllWithin (λ x. p x ≡ false) xs 0 i
    → AllWithin (λ x. p x ≡ true) xs i (length xs)
    → filter p xs ≡ drop i xs
filter_back p [] zero low fail pass = refl
filter_back p [] (suc i) low fail pass = refl
filter_back p (x ∷ xs) zero low fail pass =
    let first : p x ≡ true = pass 0 x (omega arith) (omega arith) in
    rw (first, filter_back p xs zero (omega arith) (λ k d l m. absurd (omega (arith, m))) (λ k d l m. pass (suc k) d (omega arith) (omega arith))) refl
filter_back p (x ∷ xs) (suc i) low fail pass =
    let first : p x ≡ false = fail 0 x (omega arith) (omega arith) in
    rw first (filter_back p xs i (omega arith) (λ k d l m. fail (suc k) d (omega arith) (omega arith)) (λ k d l m. pass (suc k) d (omega arith) (omega arith)))

-- the first that passes
find_at : {X : Type 0} (p : X → Bool) (xs : List X) (i : ℕ) → i < length xs → AllWithin (λ x. p x ≡ false) xs 0 i → HoldsAt (λ x. p x ≡ true) xs i
    → (d : X) → find p xs ≡ Some (get_or xs i d)
find_at p [] i low fail pass d = absurd (omega (arith, low))
find_at p (x ∷ xs) zero low fail pass d = rw (pass x) refl
find_at p (x ∷ xs) (suc i) low fail pass d =
    let first : p x ≡ false = fail 0 x (omega arith) (omega arith) in
    rw first (find_at p xs i (omega arith) (λ k e l m. fail (suc k) e (omega arith) (omega arith)) pass d)

find_none : {X : Type 0} (p : X → Bool) (xs : List X) → AllWithin (λ x. p x ≡ false) xs 0 (length xs) → find p xs ≡ None
find_none p [] fail = refl
find_none p (x ∷ xs) fail =
    let first : p x ≡ false = fail 0 x (omega arith) (omega arith) in rw first (find_none p xs (λ k e l m. fail (suc k) e (omega arith) (omega arith)))

-- the service at a place, and those on its two sides
module _ (xs : List Service) (s : Service) (i : ℕ) (at : IsAt xs s i) where
  here_or_after : (p : Ordering → Bool) → p Equal ≡ false → p Greater ≡ false → (k : ℕ) (d : Service) → i ≤ k → k < length xs
      → p (end_cmp (get_or xs k d) s) ≡ false
  here_or_after p same more k d low high = elim (cases_lt i k) [
    | inl less ↦ ap p (at.after k d (omega arith) high) ∙ more
    | inr le ↦ let is : i ≡ k = omega arith in ap p (subst (λ n. end_cmp (get_or xs n d) s ≡ Equal) is (at.here d)) ∙ same
  ]

  here_or_before : (p : Ordering → Bool) → p Equal ≡ false → p Less ≡ false → (k : ℕ) (d : Service) → k < suc i → p (end_cmp (get_or xs k d) s) ≡ false
  here_or_before p same less k d high = elim (cases_lt k i) [
    | inl lower ↦ ap p (at.before k d (omega arith) lower) ∙ less
    | inr le ↦ let is : i ≡ k = omega arith in ap p (subst (λ n. end_cmp (get_or xs n d) s ≡ Equal) is (at.here d)) ∙ same
  ]

  -- a service in the place of the one with its end
  pub with_at : with_service xs s ≡ set xs i s
  with_at =
      let in_range : i < length xs = at.in_range in
      let front : filter (λ other. is_lt (end_cmp other s)) xs ≡ take i xs =
      filter_front (λ other. is_lt (end_cmp other s)) xs i (omega arith) (λ k d l m. ap is_lt (at.before k d l m)) (here_or_after is_lt refl refl) in
      let back : filter (λ other. is_gt (end_cmp other s)) xs ≡ drop (suc i) xs =
      filter_back (λ other. is_gt (end_cmp other s)) xs (suc i) (omega arith) (λ k d l m. here_or_before is_gt refl refl k d m)
      (λ k d l m. ap is_gt (at.after k d (omega arith) m)) in
      rw (front, back, set_split xs i s in_range) refl

  pub listed_at : (d : Service) → service_like xs s ≡ Some (get_or xs i d)
  listed_at d = find_at (λ other. is_eq (end_cmp other s)) xs i at.in_range (λ k e l m. ap is_eq (at.before k e l m)) (λ e. ap is_eq (at.here e)) d

module _ (xs : List Service) (s : Service) (i : ℕ) (gap : IsGap xs s i) where
  -- a service where none has its end
  pub with_gap : with_service xs s ≡ insert xs i s
  with_gap =
      let front : filter (λ other. is_lt (end_cmp other s)) xs ≡ take i xs =
      filter_front (λ other. is_lt (end_cmp other s)) xs i gap.in_range (λ k d l m. ap is_lt (gap.before k d l m)) (λ k d l m. ap is_lt (gap.after k d l m)) in
      let back : filter (λ other. is_gt (end_cmp other s)) xs ≡ drop i xs =
      filter_back (λ other. is_gt (end_cmp other s)) xs i gap.in_range (λ k d l m. ap is_gt (gap.before k d l m)) (λ k d l m. ap is_gt (gap.after k d l m)) in
      rw (front, back) refl

  pub listed_gap : service_like xs s ≡ None
  listed_gap = find_none (λ other. is_eq (end_cmp other s)) xs (λ k d l m. elim (cases_lt k i) [
    | inl lower ↦ ap is_eq (gap.before k d l lower)
    | inr le ↦ ap is_eq (gap.after k d le m)
  ])

-- one more service keeps the order
is_rising-with : (xs : List Service) (s : Service) → is_rising xs ≡ true → is_rising (with_service xs s) ≡ true
is_rising-with [] s h = refl
is_rising-with (x ∷ xs) s h =
    let parts = and_parts (list_all (λ later. is_lt (end_cmp x later)) xs) (is_rising xs) h in
    by_order (end_cmp x s) refl parts.0 parts.1 (is_rising-with xs s parts.1)
  where
    -- those after `x` come after `s` as well, where `x` doesn't come before it
    behind : (o : Ordering) → end_cmp x s ≡ o → is_lt o ≡ false → (y : Service) → is_lt (end_cmp x y) ≡ true → is_lt (end_cmp s y) ≡ true
    behind Less e h y less = cc
    behind Equal e h y less = sym (ap is_lt (end_total.congr x s y e)) ∙ less
    behind Greater e h y less = ap is_lt (end_total.trans s x y (reversed x s Greater e) (is_less (end_cmp x y) less))

    after_is_greater : (y : Service) → is_lt (end_cmp s y) ≡ true → is_gt (end_cmp y s) ≡ true
    after_is_greater y less = ap is_gt (reversed s y Less (is_less (end_cmp s y) less))

    after_is_not_less : (y : Service) → is_lt (end_cmp s y) ≡ true → is_lt (end_cmp y s) ≡ false
    after_is_not_less y less = ap is_lt (reversed s y Less (is_less (end_cmp s y) less))

    -- the services with `s`, where all of these come after it
    front_of : (ys : List Service) → list_all (λ later. is_lt (end_cmp s later)) ys ≡ true → is_rising ys ≡ true
        → is_rising (filter (λ other. is_lt (end_cmp other s)) ys ++ s ∷ filter (λ other. is_gt (end_cmp other s)) ys) ≡ true
    front_of ys after rising =
        let none : filter (λ other. is_lt (end_cmp other s)) ys ≡ [] = filter_none (λ other. is_lt (end_cmp other s)) (λ later. is_lt (end_cmp s later))
        after_is_not_less ys after in
        let all : filter (λ other. is_gt (end_cmp other s)) ys ≡ ys =
        filter_all (λ other. is_gt (end_cmp other s)) ys
        (list_all-weaker (λ later. is_lt (end_cmp s later)) (λ other. is_gt (end_cmp other s)) after_is_greater ys after) in
        rw (none, all) (and_from (list_all (λ later. is_lt (end_cmp s later)) ys) (is_rising ys) after rising)

    by_order : (o : Ordering) → end_cmp x s ≡ o → list_all (λ later. is_lt (end_cmp x later)) xs ≡ true → is_rising xs ≡ true
        → is_rising (filter (λ other. is_lt (end_cmp other s)) xs ++ s ∷ filter (λ other. is_gt (end_cmp other s)) xs) ≡ true
        → is_rising (cond (is_lt o) (x ∷ filter (λ other. is_lt (end_cmp other s)) xs) (filter (λ other. is_lt (end_cmp other s)) xs)
        ++ s ∷ cond (is_gt o) (x ∷ filter (λ other. is_gt (end_cmp other s)) xs) (filter (λ other. is_gt (end_cmp other s)) xs)) ≡ true
    by_order Less e after rising rest =
        let p = λ (later : Service). is_lt (end_cmp x later) in
        let front = list_all-filter p (λ other. is_lt (end_cmp other s)) xs after in
        let back = list_all-filter p (λ other. is_gt (end_cmp other s)) xs after in
        let here : is_lt (end_cmp x s) ≡ true = ap is_lt e in
        and_from _ _ (list_all-append p (filter (λ other. is_lt (end_cmp other s)) xs) (s ∷ filter (λ other. is_gt (end_cmp other s)) xs)
        ∙ and_from _ _ front (and_from _ _ here back)) rest
    by_order Equal e after rising rest = front_of xs (list_all-weaker _ _ (behind Equal e refl) xs after) rising
    by_order Greater e after rising rest =
        let first : is_lt (end_cmp s x) ≡ true = ap is_lt (reversed x s Greater e) in
        let all = and_from _ _ first (list_all-weaker _ _ (behind Greater e refl) xs after) in
        rw e at (front_of (x ∷ xs) all h)

-- one more service leaves services
pub are_services-with : (xs : List Service) (s : Service) → are_services xs ≡ true → is_service s ≡ true → length (with_service xs s) ≤ services_per_host
    → are_services (with_service xs s) ≡ true
are_services-with xs s all is few =
    let parts = and_parts (nat_le (length xs) services_per_host && list_all is_service xs) (is_rising xs) all in
    let each = (and_parts (nat_le (length xs) services_per_host) (list_all is_service xs) parts.0).1 in
    let size : nat_le (length (with_service xs s)) services_per_host ≡ true = grind (arith, nat_tests) in
    let front = list_all-filter is_service (λ other. is_lt (end_cmp other s)) xs each in
    let back = list_all-filter is_service (λ other. is_gt (end_cmp other s)) xs each in
    and_from _ _
    (and_from _ _ size (list_all-append is_service (filter (λ other. is_lt (end_cmp other s)) xs) (s ∷ filter (λ other. is_gt (end_cmp other s)) xs)
    ∙ and_from _ _ front (and_from _ _ is back)))
    (is_rising-with xs s parts.1)

-- one more service takes one more place, or none where its end is listed
pub length-with : (xs : List Service) (s : Service) → length (with_service xs s) + cond (is_some (service_like xs s)) 1 0 ≤ length xs + 1
length-with [] s = omega arith
length-with (x ∷ xs) s = by_order (end_cmp x s) (length-with xs s)
  where
    by_order : (o : Ordering)
        → length (filter (λ other. is_lt (end_cmp other s)) xs ++ s ∷ filter (λ other. is_gt (end_cmp other s)) xs) + cond (is_some (service_like xs s)) 1 0
        ≤ length xs + 1
        → length (cond (is_lt o) (x ∷ filter (λ other. is_lt (end_cmp other s)) xs) (filter (λ other. is_lt (end_cmp other s)) xs)
        ++ s ∷ cond (is_gt o) (x ∷ filter (λ other. is_gt (end_cmp other s)) xs) (filter (λ other. is_gt (end_cmp other s)) xs))
        + cond (is_some (cond (is_eq o) (Some x) (service_like xs s))) 1 0 ≤ suc (length xs) + 1
    by_order Less rest = omega (arith, rest)
    by_order Equal rest = omega (arith, rest)
    by_order Greater rest =
        let shorter = length-append (filter (λ other. is_lt (end_cmp other s)) xs) (s ∷ filter (λ other. is_gt (end_cmp other s)) xs) in
        rw (length-append (filter (λ other. is_lt (end_cmp other s)) xs) (s ∷ x ∷ filter (λ other. is_gt (end_cmp other s)) xs)) (omega (arith, rest, shorter))

pub few_services : (xs : List Service) → are_services xs ≡ true → length xs ≤ services_per_host
few_services xs all =
    let parts = and_parts (nat_le (length xs) services_per_host && list_all is_service xs) (is_rising xs) all in
    let size = (and_parts (nat_le (length xs) services_per_host) (list_all is_service xs) parts.0).0 in grind (arith, nat_tests)

rising_services : (xs : List Service) → are_services xs ≡ true → is_rising xs ≡ true
rising_services xs all = (and_parts (nat_le (length xs) services_per_host && list_all is_service xs) (is_rising xs) all).1

-- what a binary search by ends finds among services
pub found_at : (xs : List Service) (s : Service) (r : Result ℕ ℕ) → are_services xs ≡ true → IsSearchInRange r (length xs)
    → IsBinarySearchResult (λ other. end_cmp other s) xs r → IfOk r (IsAt xs s)
found_at xs s (Err i) all bound found = tt
found_at xs s (Ok i) all bound found = record {
  in_range = bound;
  before = λ k d l m. before_same (get_or xs k d) (get_or xs i d) s (rising_pair xs (rising_services xs all) k i d m bound) (found d);
  here = found;
  after = λ k d l m. after_same (get_or xs i d) (get_or xs k d) s (rising_pair xs (rising_services xs all) i k d (omega arith) m) (found d);
}

pub found_gap : (xs : List Service) (s : Service) (r : Result ℕ ℕ) → are_services xs ≡ true → IsSearchInRange r (length xs)
    → IsBinarySearchResult (λ other. end_cmp other s) xs r → IfErr r (IsGap xs s)
found_gap xs s (Ok i) all bound found = tt
found_gap xs s (Err i) all bound found =
    let rise = searchable_from_sorted end_total (λ (x : Service). x) xs s (λ k d low high.
    ap is_lt (reversed (get_or xs k d) (get_or xs (k + 1) d) Less (rising_pair xs (rising_services xs all) k (k + 1) d (omega arith) high))) in
    let parts = found rise in
    record { in_range = bound; before = parts.0; after = parts.1 }

pub all_services : (xs : List Service) → are_services xs ≡ true → list_all is_service xs ≡ true
all_services xs all =
    let parts = and_parts (nat_le (length xs) services_per_host && list_all is_service xs) (is_rising xs) all in
    (and_parts (nat_le (length xs) services_per_host) (list_all is_service xs) parts.0).1
