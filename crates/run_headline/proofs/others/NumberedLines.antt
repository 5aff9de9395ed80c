-- What is sorted by its numbers has rising numbers each once and in order, where it has each as often as these.
use Rattle.run_headline.proofs.Words.{◌≡◌, ℕ, suc, ◌+◌, ◌<◌, ◌≤◌, Bool, true, false, cond, List, [], ◌∷◌, map, refl, sym, ap, ◌∙◌, subst, arith, if◌then◌else◌}
use Rattle.run_headline.proofs.Words.{◌==◌, nat_lt, nat_cmp, is_lt, Less, Equal, Greater, nat_tests, times, IsRising, put_in, sorted_by}
use Rattle.std.proofs.lemmas.Bool.{ltb-true, ltb-false}

less_by : (less same : Bool) → is_lt (cond less Less (cond same Equal Greater)) ≡ less
less_by true same = refl
less_by false true = refl
less_by false false = refl

less_is : (m n : ℕ) → is_lt (nat_cmp m n) ≡ nat_lt m n
less_is m n = less_by (nat_lt m n) (m == n)

-- numbers that don't fall, from the least on
abbrev Up : ℕ → List ℕ → Type 0
Up least [] = Unit {0}
Up least (n ∷ ns) = (least ≤ n) × Up n ns

lower : (low least : ℕ) (ns : List ℕ) → low ≤ least → Up least ns → Up low ns
lower low least [] le up = tt
lower low least (n ∷ ns) le up = (let first = up.0 in omega (arith, first, le), up.1)

rising_up : (least : ℕ) (ns : List ℕ) → IsRising least ns → Up least ns
rising_up least [] rising = tt
rising_up least (n ∷ ns) rising = (rising.0, lower n (suc n) ns (omega arith) (rising_up (suc n) ns rising.1))

-- a number below the least isn't there
none_below : (p least : ℕ) (ns : List ℕ) → Up least ns → p < least → times p ns ≡ 0
none_below p least [] up low = refl
none_below p least (n ∷ ns) up low =
    let first = up.0 in
    let off : (p == n) ≡ false = grind (arith, nat_tests, low, first) in
    rw (off, none_below p n ns up.1 (omega (arith, first, low))) refl

-- nor one among numbers that rise from beyond it
pub rising_above : (p least : ℕ) (ns : List ℕ) → IsRising least ns → p < least → times p ns ≡ 0
rising_above p least ns rising low = none_below p least ns (rising_up least ns rising) low

pub some_here : (n : ℕ) (ns : List ℕ) → 1 ≤ times n (n ∷ ns)
some_here n ns = let own : (n == n) ≡ true = grind (arith, nat_tests) in rw own (omega arith)

-- two lists that don't fall and have each number as often begin with the same
first_same : (m n : ℕ) (ms ns : List ℕ) → Up m ms → Up n ns → ((p : ℕ) → times p (m ∷ ms) ≡ times p (n ∷ ns)) → m ≡ n
first_same m n ms ns a b same = elim (nat_lt m n) as (λ x. nat_lt m n ≡ x → m ≡ n) [
  | true ↦ λ low.
      let none : times m (m ∷ ms) ≡ 0 = same m ∙ none_below m n (n ∷ ns) (omega arith, b) (ltb-true m n low) in
      let never : 1 ≤ 0 = subst (λ k. 1 ≤ k) none (some_here m ms) in absurd (omega (arith, never))
  | false ↦ λ high. elim (nat_lt n m) as (λ x. nat_lt n m ≡ x → m ≡ n) [
    | true ↦ λ low.
        let none : times n (n ∷ ns) ≡ 0 = sym (same n) ∙ none_below n m (m ∷ ms) (omega arith, a) (ltb-true n m low) in
        let never : 1 ≤ 0 = subst (λ k. 1 ≤ k) none (some_here n ns) in absurd (omega (arith, never))
    | false ↦ λ low. let up = ltb-false m n high in let down = ltb-false n m low in omega (arith, up, down)
  ] refl
] refl

rest_same : (n : ℕ) (ms ns : List ℕ) → ((p : ℕ) → times p (n ∷ ms) ≡ times p (n ∷ ns)) → (p : ℕ) → times p ms ≡ times p ns
rest_same n ms ns same p = let all : (if p == n then 1 else 0) + times p ms ≡ (if p == n then 1 else 0) + times p ns = same p in omega (arith, all)

-- and so they are one
same_up : (least : ℕ) (ms ns : List ℕ) → Up least ms → Up least ns → ((p : ℕ) → times p ms ≡ times p ns) → ms ≡ ns
same_up least [] [] a b same = refl
same_up least [] (n ∷ ns) a b same = let never : 1 ≤ 0 = subst (λ k. 1 ≤ k) (sym (same n)) (some_here n ns) in absurd (omega (arith, never))
same_up least (m ∷ ms) [] a b same = let never : 1 ≤ 0 = subst (λ k. 1 ≤ k) (same m) (some_here m ms) in absurd (omega (arith, never))
same_up least (m ∷ ms) (n ∷ ns) a b same =
    let first : m ≡ n = first_same m n ms ns a.1 b.1 same in
    let counts : (p : ℕ) → times p (m ∷ ms) ≡ times p (m ∷ ns) = λ p. subst (λ x. times p (m ∷ ms) ≡ times p (x ∷ ns)) (sym first) (same p) in
    let rest : ms ≡ ns = same_up m ms ns a.1 (subst (λ x. Up x ns) (sym first) b.1) (rest_same m ms ns counts) in
    subst (λ x. m ∷ ms ≡ x ∷ ns) first (ap (λ l. m ∷ l) rest)

-- Numbers that are put in order.
abbrev put : ℕ → List ℕ → List ℕ
put n ns = put_in (λ k. k) nat_cmp n ns

abbrev sort : List ℕ → List ℕ
sort ns = sorted_by (λ k. k) nat_cmp ns

times_put : (p n : ℕ) (ns : List ℕ) → times p (put n ns) ≡ (if p == n then 1 else 0) + times p ns
times_put p n [] = refl
times_put p n (m ∷ ns) = elim (is_lt (nat_cmp m n)) as (λ b. times p (cond b (m ∷ put n ns) (n ∷ m ∷ ns))
    ≡ (if p == n then 1 else 0) + ((if p == m then 1 else 0) + times p ns)) [
      | true ↦ (let rest = times_put p n ns in omega (arith, rest))
      | false ↦ refl
    ]

times_sort : (p : ℕ) (ns : List ℕ) → times p (sort ns) ≡ times p ns
times_sort p [] = refl
times_sort p (n ∷ ns) = times_put p n (sort ns) ∙ ap (λ k. (if p == n then 1 else 0) + k) (times_sort p ns)

up_put : (least n : ℕ) (ns : List ℕ) → Up least ns → least ≤ n → Up least (put n ns)
up_put least n [] up le = (le, tt)
up_put least n (m ∷ ns) up le = subst (λ b. Up least (cond b (m ∷ put n ns) (n ∷ m ∷ ns))) (sym (less_is m n))
    (elim (nat_lt m n) as (λ b. nat_lt m n ≡ b → Up least (cond b (m ∷ put n ns) (n ∷ m ∷ ns))) [
      | true ↦ λ low. (up.0, up_put m n ns up.1 (let below = ltb-true m n low in omega (arith, below)))
      | false ↦ λ high. (le, (ltb-false m n high, up.1))
    ] refl)

up_sort : (ns : List ℕ) → Up 0 (sort ns)
up_sort [] = tt
up_sort (n ∷ ns) = up_put 0 n (sort ns) (up_sort ns) (omega arith)

module _ {X : Type 0} where
  numbers_put : (x : ℕ × X) (xs : List (ℕ × X)) → map (λ y. y.0) (put_in (λ y. y.0) nat_cmp x xs) ≡ put x.0 (map (λ y. y.0) xs)
  numbers_put x [] = refl
  numbers_put x (y ∷ xs) = elim (is_lt (nat_cmp y.0 x.0)) as (λ b. map (λ z. z.0) (cond b (y ∷ put_in (λ z. z.0) nat_cmp x xs) (x ∷ y ∷ xs))
      ≡ cond b (y.0 ∷ put x.0 (map (λ z. z.0) xs)) (x.0 ∷ y.0 ∷ map (λ z. z.0) xs)) [
        | true ↦ ap (λ l. y.0 ∷ l) (numbers_put x xs)
        | false ↦ refl
      ]

  numbers_sort : (xs : List (ℕ × X)) → map (λ y. y.0) (sorted_by (λ y. y.0) nat_cmp xs) ≡ sort (map (λ y. y.0) xs)
  numbers_sort [] = refl
  numbers_sort (x ∷ xs) = numbers_put x (sorted_by (λ y. y.0) nat_cmp xs) ∙ ap (λ l. put x.0 l) (numbers_sort xs)

  -- rising numbers, each as often as here, stand sorted here
  pub rising_sorted : (xs : List (ℕ × X)) (ns : List ℕ) → IsRising 0 ns → ((p : ℕ) → times p (map (λ x. x.0) xs) ≡ times p ns)
      → map (λ x. x.0) (sorted_by (λ x. x.0) nat_cmp xs) ≡ ns
  rising_sorted xs ns rising same =
      let numbers = map (λ x. x.0) xs in
      numbers_sort xs ∙ same_up 0 (sort numbers) ns (up_sort numbers) (rising_up 0 ns rising) (λ p. times_sort p numbers ∙ same p)
