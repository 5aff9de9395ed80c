-- Laws on lists for the steps of the machine: copies, the last of a list, numbers that rise.
use Rattle.two_machine.proofs.Words.{◌≡◌, ◌<◌, ℕ, true, Option, Some, None, List, [], ◌∷◌, ◌++◌, refl, sym, ap, arith, Decides-eqb, same, read, last_or, fold}
use Rattle.two_machine.proofs.Words.{Rises, copies, copied, Bool, false, if◌then◌else◌}
use Rattle.std.specs.Prelude.{filter, scan}

pub copied_all : (R : Type 0) (c : List ℕ) → read copied (copies {R = R} c) ≡ c
copied_all R [] = refl
copied_all R (p ∷ c) = ap (λ z. p ∷ z) (copied_all R c)

pub last_put : (o : Option ℕ) (xs : List ℕ) (x : ℕ) → last_or o (xs ++ x ∷ []) ≡ Some x
last_put o [] x = refl
last_put o (y ∷ xs) x = last_put (Some y) xs x

pub scan-append : {S X Y : Type 0} (next : S → X → S) (out : S → X → Y) (a : S) (xs ys : List X)
    → scan next out a (xs ++ ys) ≡ scan next out a xs ++ scan next out (fold next a xs) ys
scan-append next out a [] ys = refl
scan-append next out a (x ∷ xs) ys = ap (λ zs. out a x ∷ zs) (scan-append next out (next a x) xs ys)

-- a fold over those that pass is one over all that steps at those alone
pub fold_filter : {A B : Type 0} (f : B → A → B) (k : A → Bool) (b : B) (xs : List A)
    → fold f b (filter k xs) ≡ fold (λ c x. if k x then f c x else c) b xs
fold_filter f k b [] = refl
fold_filter f k b (x ∷ xs) =
    elim (k x) as (λ t. fold f b (if t then x ∷ filter k xs else filter k xs) ≡ fold (λ c y. if k y then f c y else c) (if t then f b x else b) xs) [
      | true ↦ fold_filter f k (f b x) xs
      | false ↦ fold_filter f k b xs
    ]

-- those of a smaller kind among those of a greater
pub filter_among : {A : Type 0} (small great : A → Bool) → ((x : A) → great x ≡ false → small x ≡ false) → (xs : List A)
    → filter small (filter great xs) ≡ filter small xs
filter_among small great out [] = refl
filter_among small great out (x ∷ xs) =
    elim (great x) as (λ b. great x ≡ b → filter small (if b then x ∷ filter great xs else filter great xs) ≡ filter small (x ∷ xs)) [
      | true ↦ λ _. ap (λ zs. if small x then x ∷ zs else zs) (filter_among small great out xs)
      | false ↦ λ off. let small_off = out x off in rw small_off (filter_among small great out xs)
    ] refl

pub append_nil_left : {X : Type 0} (xs ys : List X) → xs ++ ys ≡ [] → xs ≡ []
append_nil_left [] ys e = refl
append_nil_left (x ∷ xs) ys e = cc

pub append_nil_right : {X : Type 0} (xs ys : List X) → xs ++ ys ≡ [] → ys ≡ []
append_nil_right [] ys e = e
append_nil_right (x ∷ xs) ys e = cc

pub rises_after : (n : ℕ) (xs ys : List ℕ) → Rises n (xs ++ ys) → (m : ℕ) × Rises m ys
rises_after n [] ys h = (n, h)
rises_after n (x ∷ xs) ys h = rises_after x xs ys h.1

pub rises_front : (n : ℕ) (xs ys : List ℕ) → Rises n (xs ++ ys) → Rises n xs
rises_front n [] ys h = tt
rises_front n (x ∷ xs) ys h = (h.0, rises_front x xs ys h.1)

-- what comes last in a list that rises is greater
pub last_above : (n : ℕ) (x : ℕ) (xs : List ℕ) → Rises n (x ∷ xs) → (l : ℕ) → last_or None (x ∷ xs) ≡ Some l → n < l
last_above n x [] h l e = let same : x ≡ l = cc in omega (arith, h.0, same)
last_above n x (y ∷ xs) h l e = let more = last_above x y xs h.1 l e in omega (arith, h.0, more)

-- the first is the last where there is no other
pub only_one : (n x : ℕ) (xs : List ℕ) → Rises n (x ∷ xs) → last_or None (x ∷ xs) ≡ Some x → xs ≡ []
only_one n x [] h e = refl
only_one n x (y ∷ xs) h e = let more = last_above x y xs h.1 x e in absurd (omega (arith, more))

-- both are there, and one number
pub record Both (s t : Option ℕ) : Type 0 where
  pub number : ℕ
  pub one : s ≡ Some number
  pub two : t ≡ Some number

pub both : (s t : Option ℕ) → same s t ≡ true → Both s t
both (Some x) (Some y) e = let is : x ≡ y = (Decides-eqb x y).0 e in record { number = x; one = refl; two = ap Some (sym is) }
both z t e = cc
