-- Laws of the lists in a stage, of functions of nodes, and of counting those that have yet to answer a Sync.
use Rattle.std.proofs.Common.{◌≡◌, ℕ, ◌+◌, Bool, true, false, cond, not, ◌&&◌, ◌==◌, Option, None, Some, List, [], ◌∷◌, ◌++◌, length, ◌≤◌, refl, sym, ap, subst}
use Rattle.std.proofs.Common.{◌∙◌, arith}
use Rattle.std.proofs.lemmas.Bool.Decides.{nat_tests, Decides-eqb}
use Rattle.proof_machines.proofs.unit.Machine.{Steps}
use Rattle.proof_machines.proofs.share.Share.{Ran, UnitShare, has, without_number, if_mine, at_node, runs, over, put}
use Rattle.proof_machines.proofs.share.Stages.{Turn, Turn.Going, Turn.Quiet, is_pending, count, served, packets, IsFront, distinct}
use Rattle.proof_machines.proofs.Tests.{split}

pub cond-same : {X : Type 0} (b : Bool) (x : X) → cond b x x ≡ x
cond-same true x = refl
cond-same false x = refl

-- what a link holds once its front is taken and more is put behind
pub cond-append : {X : Type 0} (b : Bool) (xs ys zs ws : List X) → cond b xs ys ++ cond b zs ws ≡ cond b (xs ++ zs) (ys ++ ws)
cond-append true xs ys zs ws = refl
cond-append false xs ys zs ws = refl

-- more behind a list that may begin with this one
pub cond-cons : {X : Type 0} (b : Bool) (x : X) (xs ys : List X) → cond b (x ∷ xs) xs ++ ys ≡ cond b (x ∷ (xs ++ ys)) (xs ++ ys)
cond-cons true x xs ys = refl
cond-cons false x xs ys = refl

pub cond-cond : {X : Type 0} (b : Bool) (x y z : X) → cond b x (cond b y z) ≡ cond b x z
cond-cond true x y z = refl
cond-cond false x y z = refl

pub self : (n : ℕ) → (n == n) ≡ true
self n = grind (arith, nat_tests)

pub runs-append : {R : Type 0} (F : Steps R) (r : Option R) (xs ys : List Ran) → runs F r (xs ++ ys) ≡ runs F (runs F r xs) ys
runs-append F r [] ys = refl
runs-append F r (x ∷ xs) ys = runs-append F (Some (F.step r x.0)) xs ys

pub packets-served : {R : Type 0} (f : UnitShare R) (e : List ℕ) → packets (served f e) ≡ e
packets-served f [] = refl
packets-served f (p ∷ e) = ap (λ xs. p ∷ xs) (packets-served f e)

pub served_at : {R : Type 0} (f : UnitShare R) (p : ℕ) → at_node (f.member_of p) (if_mine f p) ≡ served f (if_mine f p)
served_at f p = elim (f.mine p) as (λ b. at_node (f.member_of p) (cond b (p ∷ []) []) ≡ served f (cond b (p ∷ []) [])) [ true ↦ refl | false ↦ refl ]

-- a fold that gave nothing saw nothing
runs_some : {R : Type 0} (F : Steps R) (r : R) (xs : List Ran) → runs F (Some r) xs ≡ None → ⊥
runs_some F r [] e = cc
runs_some F r (x ∷ xs) e = runs_some F (F.step (Some r) x.0) xs e

saw_none : {R : Type 0} (F : Steps R) (xs : List Ran) → runs F None xs ≡ None → xs ≡ []
saw_none F [] e = refl
saw_none F (x ∷ xs) e = absurd (runs_some F (F.step None x.0) xs e)

front_of_none : {X : Type 0} (xs : List X) → IsFront xs [] → xs ≡ []
front_of_none [] h = refl
front_of_none (x ∷ xs) h = let e = h.1 in cc

-- a chunk that has seen more, over an older record
pub over_front : {R : Type 0} (F : Steps R) (xs ds : List Ran) → IsFront xs ds → over (runs F None ds) (runs F None xs) ≡ runs F None ds
over_front {R} F xs ds h =
    elim (runs F None ds) as (λ r. runs F None ds ≡ r → over r (runs F None xs) ≡ r) [
      | Some r ↦ λ _. refl
      | None ↦ λ e.
          let ds_none = saw_none F ds e in
          let xs_none = front_of_none xs (subst (λ zs. IsFront xs zs) ds_none h) in
          rw xs_none refl
    ] refl

pub has-without : (xs : List ℕ) (j k : ℕ) → has (without_number xs j) k ≡ (has xs k && not (k == j))
has-without [] j k = refl
has-without (x ∷ xs) j k =
    split (x == j) (λ b. has (cond (not b) (x ∷ without_number xs j) (without_number xs j)) k ≡ (cond (k == x) true (has xs k) && not (k == j)))
    (λ e. has-without xs j k ∙ (split (k == x) (λ b. (has xs k && not (k == j)) ≡ (cond b true (has xs k) && not (k == j)))
    (λ t.
    let same : (k == j) ≡ true = grind (arith, nat_tests) in rw same (elim (has xs k) as (λ b. (b && false) ≡ false) [ true ↦ refl | false ↦ refl ]))
    (λ _. refl)))
    (λ e. split (k == x) (λ b. cond b true (has (without_number xs j) k) ≡ (cond b true (has xs k) && not (k == j)))
    (λ t. let other : (k == j) ≡ false = grind (arith, nat_tests) in rw other refl)
    (λ _. has-without xs j k))

without_other : (xs : List ℕ) (j : ℕ) → has xs j ≡ false → without_number xs j ≡ xs
without_other [] j h = refl
without_other (x ∷ xs) j h =
    split (j == x) (λ b. cond b true (has xs j) ≡ false → cond (not (x == j)) (x ∷ without_number xs j) (without_number xs j) ≡ x ∷ xs) (λ _ n. cc)
    (λ off n. let other : (x == j) ≡ false = grind (arith, nat_tests) in rw other (ap (λ zs. x ∷ zs) (without_other xs j n))) h

pub apart_of : (b c : Bool) → not b && c ≡ true → (b ≡ false) × (c ≡ true)
apart_of true c e = cc
apart_of false c e = (refl, e)

pub distinct-without : (xs : List ℕ) (j : ℕ) → distinct xs ≡ true → distinct (without_number xs j) ≡ true
distinct-without [] j h = refl
distinct-without (x ∷ xs) j h =
    let a = apart_of (has xs x) (distinct xs) h in
    split (x == j) (λ b. distinct (cond (not b) (x ∷ without_number xs j) (without_number xs j)) ≡ true) (λ e. distinct-without xs j a.1)
    (λ e. rw (has-without xs j x, distinct-without xs j a.1) (rw a.0 refl))

-- all but one are at most one fewer
pub length-without : (xs : List ℕ) (j : ℕ) → distinct xs ≡ true → length xs ≤ length (without_number xs j) + 1
length-without [] j h = omega arith
length-without (x ∷ xs) j h =
    let a = apart_of (has xs x) (distinct xs) h in
    split (x == j) (λ b. length (x ∷ xs) ≤ length (cond (not b) (x ∷ without_number xs j) (without_number xs j)) + 1)
    (λ e. let same : x ≡ j = (Decides-eqb x j).0 e in rw (without_other xs j (subst (λ y. has xs y ≡ false) same a.0)) (omega arith))
    (λ _. let shorter = length-without xs j a.1 in omega (arith, shorter))

-- those that have yet to answer: all, none, and where one turn changes
pub count-all : (at : ℕ → Turn) (xs : List ℕ) → ((k : ℕ) → has xs k ≡ true → is_pending (at k) ≡ true) → count at xs ≡ length xs
count-all at [] h = refl
count-all at (x ∷ xs) h =
    let here : is_pending (at x) ≡ true = h x (rw (self x) refl) in
    let rest = count-all at xs (λ k e. h k (elim (k == x) as (λ b. cond b true (has xs k) ≡ true) [ true ↦ refl | false ↦ e ])) in
    rw (here, rest) (grind arith)

pub count-none : (at : ℕ → Turn) (xs : List ℕ) → ((k : ℕ) → has xs k ≡ true → is_pending (at k) ≡ false) → count at xs ≡ 0
count-none at [] h = refl
count-none at (x ∷ xs) h =
    let here : is_pending (at x) ≡ false = h x (rw (self x) refl) in
    let rest = count-none at xs (λ k e. h k (elim (k == x) as (λ b. cond b true (has xs k) ≡ true) [ true ↦ refl | false ↦ e ])) in
    rw (here, rest) refl

pub count-zero : (at : ℕ → Turn) (xs : List ℕ) → count at xs ≡ 0 → (k : ℕ) → has xs k ≡ true → is_pending (at k) ≡ false
count-zero at [] e k h = cc
count-zero at (x ∷ xs) e k h =
    split (is_pending (at x)) (λ b. cond b 1 0 + count at xs ≡ 0 → is_pending (at k) ≡ false) (λ _ n. let never : ⊥ = omega arith in absurd never)
    (λ off n. split (k == x) (λ b. cond b true (has xs k) ≡ true → is_pending (at k) ≡ false)
    (λ t _. let same : k ≡ x = (Decides-eqb k x).0 t in rw same off)
    (λ _ there. count-zero at xs (omega arith) k there) h) e

-- a change elsewhere isn't counted
pub count-other : (at : ℕ → Turn) (j : ℕ) (t : Turn) (xs : List ℕ) → has xs j ≡ false → count (put at j t) xs ≡ count at xs
count-other at j t [] h = refl
count-other at j t (x ∷ xs) h =
    split (j == x) (λ b. cond b true (has xs j) ≡ false → cond (is_pending (cond (x == j) t (at x))) 1 0 + count (put at j t) xs ≡ cond (is_pending (at x)) 1 0
    + count at xs)
    (λ _ n. cc)
    (λ off n. let other : (x == j) ≡ false = grind (arith, nat_tests) in rw (other, count-other at j t xs n) refl) h

pub count-put : (at : ℕ → Turn) (j : ℕ) (t : Turn) (xs : List ℕ) → distinct xs ≡ true → has xs j ≡ true
    → count (put at j t) xs + cond (is_pending (at j)) 1 0 ≡ count at xs + cond (is_pending t) 1 0
count-put at j t [] d h = cc
count-put at j t (x ∷ xs) d h =
    split (has xs x) (λ b. not b && distinct xs ≡ true → cond (is_pending (cond (x == j) t (at x))) 1 0 + count (put at j t) xs + cond (is_pending (at j)) 1 0
    ≡ cond (is_pending (at x)) 1 0 + count at xs + cond (is_pending t) 1 0)
    (λ _ n. cc)
    (λ off n. split (x == j) (λ b. cond (is_pending (cond b t (at x))) 1 0 + count (put at j t) xs + cond (is_pending (at j)) 1 0
    ≡ cond (is_pending (at x)) 1 0 + count at xs + cond (is_pending t) 1 0)
    (λ e. let same : x ≡ j = (Decides-eqb x j).0 e in
    let others : count (put at j t) xs ≡ count at xs = count-other at j t xs (subst (λ y. has xs y ≡ false) same off) in
    rw (others, same) (omega arith))
    (λ e. let other : (j == x) ≡ false = grind (arith, nat_tests) in
    let there : has xs j ≡ true = rw other at h in
    let rest = count-put at j t xs n there in omega (arith, rest))) d

abbrev pub turn_of : List ℕ → ℕ → Turn
turn_of o k = cond (has o k) Going Quiet

-- a Sync that has just gone to each of these
pub counts_turns : (o : List ℕ) → count (turn_of o) o ≡ length o
counts_turns o = count-all (turn_of o) o (λ k h. rw h refl)

pub turns_sent : (o : List ℕ) (k : ℕ) → is_pending (turn_of o k) ≡ true → has o k ≡ true
turns_sent o k = elim (has o k) as (λ t. is_pending (cond t Going Quiet) ≡ true → t ≡ true) [ true ↦ λ _. refl | false ↦ λ e. cc ]

pub in_without : (xs : List ℕ) (j k : ℕ) → has (without_number xs j) k ≡ true → has xs k ≡ true
in_without xs j k e =
    elim (has xs k) as (λ b. (b && not (k == j)) ≡ true → b ≡ true) [ true ↦ λ _. refl | false ↦ λ n. cc ] (sym (has-without xs j k) ∙ e)

-- the one that isn't sent a Sync
pub turn_self : (xs : List ℕ) (j : ℕ) → turn_of (without_number xs j) j ≡ Quiet
turn_self xs j =
    let out : has (without_number xs j) j ≡ false = has-without xs j j
    ∙ rw (self j) (elim (has xs j) as (λ b. (b && false) ≡ false) [ true ↦ refl | false ↦ refl ]) in
    rw out refl

-- a turn that was put at a place that was pending isn't at one that wasn't
pub pending-put : (at : ℕ → Turn) (j m : ℕ) (t : Turn) → is_pending (at j) ≡ true → is_pending (at m) ≡ false → is_pending (put at j t m) ≡ false
pending-put at j m t on off =
    split (m == j) (λ b. is_pending (cond b t (at m)) ≡ false)
    (λ e. let same_is : m ≡ j = (Decides-eqb m j).0 e in let both : false ≡ true = sym off ∙ rw same_is on in cc)
    (λ _. off)
