-- Where one of many has anything, what all of them have is what that one has; and what all have of one unit is what each has of it.
use Rattle.nf_net.proofs.Words.{◌≡◌, ◌≢◌, ℕ, zero, suc, ◌+◌, ◌*◌, ◌<◌, ◌≤◌, Bool, true, false, List, [], ◌∷◌, ◌++◌, length, get_or, refl, sym, ap, ◌∙◌, subst}
use Rattle.nf_net.proofs.Words.{append-nil, arith, if◌then◌else◌, ◌==◌, ◌-◌, nat_lt, filter, flat_map, ltb-false, nat_tests, Decides-eqb, Decides-ltb}
use Rattle.nf_net.proofs.Words.{filter-append, Network, on_link, Each, each-append, all_but, split}
use Rattle.actor_net.proofs.LinkLemmas.{inside}

module _ {X Y : Type 0} where
  pub none_at : (of : X → List Y) (xs : List X) (d : X) → ((i : ℕ) → i < length xs → of (get_or xs i d) ≡ []) → flat_map of xs ≡ []
  none_at of [] d h = refl
  none_at of (x ∷ xs) d h =
      let here : of x ≡ [] = h 0 (omega arith) in
      let rest = none_at of xs d (λ i small. h (suc i) (omega (arith, small))) in
      rw (here, rest) refl

  pub one_at : (of : X → List Y) (xs : List X) (m : ℕ) (d : X) → m < length xs → ((i : ℕ) → i < length xs → i ≢ m → of (get_or xs i d) ≡ [])
      → flat_map of xs ≡ of (get_or xs m d)
  one_at of [] m d small h = absurd (omega (arith, small))
  one_at of (x ∷ xs) zero d small h =
      let rest = none_at of xs d (λ i little. h (suc i) (omega (arith, little)) (λ e. cc)) in
      ap (λ v. of x ++ v) rest ∙ append-nil (of x)
  one_at of (x ∷ xs) (suc m) d small h =
      let here : of x ≡ [] = h 0 (omega arith) (λ e. cc) in
      let rest = one_at of xs m d (omega (arith, small)) (λ i little off. h (suc i) (omega (arith, little)) (λ e. (let same : i ≡ m = cc in off same))) in
      rw here rest

-- what holds of all that each has holds of all
pub each_place : {X Y : Type 0} (P : Y → Type 0) (of : X → List Y) (xs : List X) (d : X) → ((i : ℕ) → i < length xs → Each P (of (get_or xs i d)))
    → Each P (flat_map of xs)
each_place P of [] d h = tt
each_place P of (x ∷ xs) d h = each-append P (of x) (flat_map of xs) (h 0 (omega arith)) (each_place P of xs d (λ i small. h (suc i) (omega (arith, small))))

pub those-all : {X : Type 0} (mine : ℕ → Bool) (of : X → List ℕ) (xs : List X) → filter mine (flat_map of xs) ≡ flat_map (λ x. filter mine (of x)) xs
those-all mine of [] = refl
those-all mine of (x ∷ xs) = filter-append mine (of x) (flat_map of xs) ∙ ap (λ v. filter mine (of x) ++ v) (those-all mine of xs)

-- the first numbers but one
pub those-but : (mine : ℕ → Bool) (one : ℕ) (of : ℕ → List ℕ) (n : ℕ) → filter mine (all_but one of n) ≡ all_but one (λ i. filter mine (of i)) n
those-but mine one of zero = refl
those-but mine one of (suc i) =
    filter-append mine (all_but one of i) (if i == one then [] else of i) ∙ ap (λ v. v ++ filter mine (if i == one then [] else of i)) (those-but mine one of i)
    ∙ ap (λ v. all_but one (λ k. filter mine (of k)) i ++ v)
    (elim (i == one) as (λ b. filter mine (if b then [] else of i) ≡ (if b then [] else filter mine (of i))) [ true ↦ refl | false ↦ refl ])

pub but_none : (one : ℕ) (of : ℕ → List ℕ) (n : ℕ) → ((i : ℕ) → i < n → i ≢ one → of i ≡ []) → all_but one of n ≡ []
but_none one of zero h = refl
but_none one of (suc i) h =
    let rest = but_none one of i (λ k small off. h k (omega (arith, small)) off) in
    rw rest (split (i == one) (λ b. (if b then [] else of i) ≡ []) (λ _. refl)
    (λ e. h i (omega arith) (λ same. (let never : false ≡ true = sym e ∙ (Decides-eqb i one).1 same in cc))))

pub but_one : (one m : ℕ) (of : ℕ → List ℕ) (n : ℕ) → m < n → m ≢ one → ((i : ℕ) → i < n → i ≢ one → i ≢ m → of i ≡ []) → all_but one of n ≡ of m
but_one one m of zero small other h = absurd (omega (arith, small))
but_one one m of (suc i) small other h =
    split (i == m) (λ _. all_but one of i ++ (if i == one then [] else of i) ≡ of m)
    (λ e.
    let same : i ≡ m = (Decides-eqb i m).0 e in
    let off : (i == one) ≡ false = grind (arith, nat_tests, same, other) in
    let rest = but_none one of i (λ k little out. h k (omega (arith, little)) out (λ at. absurd (omega (arith, little, at, same)))) in
    rw (rest, off) (ap of same))
    (λ e.
    let apart : i ≢ m = λ same. (let never : false ≡ true = sym e ∙ (Decides-eqb i m).1 same in cc) in
    let rest = but_one one m of i (let below : m < i = grind (arith, nat_tests, small, e) in below) other
    (λ k little out off. h k (omega (arith, little)) out off) in
    let own : ◌≡◌ {A = List ℕ} (if i == one then [] else of i) [] =
    split (i == one) (λ b. ◌≡◌ {A = List ℕ} (if b then [] else of i) []) (λ _. refl)
    (λ out. h i (omega arith) (λ same. (let never : false ≡ true = sym out ∙ (Decides-eqb i one).1 same in cc)) apart) in
    rw (rest, own) (append-nil (of m)))

-- Links: a place in the list is that of a sender and a receiver.
record IsPair (m n i : ℕ) : Type 0 where
  from : ℕ
  to : ℕ
  at : i ≡ from * n + to
  from_is : from < m
  to_is : to < n

one_more : (m n : ℕ) → suc m * n ≡ n + m * n
one_more m n = omega arith

pair_of : (m n i : ℕ) → i < m * n → IsPair m n i
pair_of zero n i h = absurd (omega (arith, h))
pair_of (suc m) n i h = split (nat_lt i n) (λ _. IsPair (suc m) n i)
    (λ e. record { from = 0; to = i; at = omega arith; from_is = omega arith; to_is = (Decides-ltb i n).0 e })
    (λ e.
    let far : n ≤ i = ltb-false i n e in
    let below : i < n + m * n = subst (λ v. i < v) (one_more m n) h in
    let rest = pair_of m n (i - n) (omega (arith, far, below)) in
    let at : i - n ≡ rest.from * n + rest.to = rest.at in
    let whole : i ≡ (n + rest.from * n) + rest.to = omega (arith, far, at) in
    record {
      from = suc rest.from;
      to = rest.to;
      at = whole ∙ ap (λ v. v + rest.to) (sym (one_more rest.from n));
      from_is = omega (arith, rest.from_is);
      to_is = rest.to_is;
    })

module _ {A M N Y : Type 0} (w : Network A M N) (square : length w.links ≡ length w.nodes * length w.nodes) (of : List M → List Y) where
  abbrev n : ℕ
  n = length w.nodes

  link_is : (s r : ℕ) → s < n → r < n → on_link w s r ≡ get_or w.links (s * n + r) []
  link_is s r hs hr = let a = (Decides-ltb s n).1 hs in let b = (Decides-ltb r n).1 hr in rw (a, b) refl

  -- where no link has anything
  pub no_link : ((s r : ℕ) → s < n → r < n → of (on_link w s r) ≡ []) → flat_map of w.links ≡ []
  no_link h = none_at of w.links [] (λ i small.
      let inside : i < n * n = rw (← square) small in
      let pair = pair_of n n i inside in
      ap (λ k. of (get_or w.links k [])) pair.at ∙ ap of (sym (link_is pair.from pair.to pair.from_is pair.to_is))
      ∙ h pair.from pair.to pair.from_is pair.to_is)

  -- where one at most has
  pub one_link : (s r : ℕ) → s < n → r < n → ((i k : ℕ) → i < n → k < n → (i ≡ s → k ≡ r → ⊥) → of (on_link w i k) ≡ [])
      → flat_map of w.links ≡ of (on_link w s r)
  one_link s r hs hr h =
      one_at of w.links (s * n + r) [] (rw square (inside n s r hs hr)) (λ i small off.
      let within : i < n * n = rw (← square) small in
      let pair = pair_of n n i within in
      ap (λ k. of (get_or w.links k [])) pair.at ∙ ap of (sym (link_is pair.from pair.to pair.from_is pair.to_is))
      ∙ h pair.from pair.to pair.from_is pair.to_is (λ a b. off (pair.at ∙ rw (a, b) refl)))
      ∙ ap of (sym (link_is s r hs hr))

pub each_link : {A M N Y : Type 0} (w : Network A M N) → length w.links ≡ length w.nodes * length w.nodes → (P : Y → Type 0) (of : List M → List Y)
    → ((s r : ℕ) → s < length w.nodes → r < length w.nodes → Each P (of (on_link w s r))) → Each P (flat_map of w.links)
each_link w square P of h = each_place P of w.links [] (λ i small.
    let within : i < length w.nodes * length w.nodes = rw (← square) small in
    let pair = pair_of (length w.nodes) (length w.nodes) i within in
    subst (λ ms. Each P (of ms)) (link_is w square of pair.from pair.to pair.from_is pair.to_is ∙ ap (λ k. get_or w.links k []) (sym pair.at))
    (h pair.from pair.to pair.from_is pair.to_is))
