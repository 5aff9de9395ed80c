-- Two lists whose items are related one by one: what is put, found, dropped and tested of both.
use Rattle.std.proofs.Common.{◌≡◌, ℕ, zero, suc, Bool, Option, Some, None, List, [], ◌∷◌, ◌++◌, length, drop, refl, ap}
use Rattle.std.specs.Prelude.{slice_get, slice_set, slice_index_or, replicate}
use Rattle.std.specs.List.{AllZip, list_all}

module _ {X Y : Type 0} (P : X → Y → Type 0) where
  pub alike-append : (xs : List X) (ys : List Y) (xs' : List X) (ys' : List Y) → AllZip P xs ys → AllZip P xs' ys' → AllZip P (xs ++ xs') (ys ++ ys')
  alike-append [] [] xs' ys' h k = k
  alike-append (x ∷ xs) (y ∷ ys) xs' ys' h k = (h.0, alike-append xs ys xs' ys' h.1 k)
  alike-append z w xs' ys' h k = absurd h

  pub alike-replicate : (k : ℕ) (x : X) (y : Y) → P x y → AllZip P (replicate k x) (replicate k y)
  alike-replicate zero x y p = tt
  alike-replicate (suc k) x y p = (p, alike-replicate k x y p)

  pub alike-set : (xs : List X) (ys : List Y) (i : ℕ) (x : X) (y : Y) → AllZip P xs ys → P x y → AllZip P (slice_set xs i x) (slice_set ys i y)
  alike-set [] [] i x y h p = tt
  alike-set (a ∷ xs) (b ∷ ys) zero x y h p = (p, h.1)
  alike-set (a ∷ xs) (b ∷ ys) (suc i) x y h p = (h.0, alike-set xs ys i x y h.1 p)
  alike-set z w i x y h p = absurd h

  pub alike-at : (xs : List X) (ys : List Y) (i : ℕ) (x : X) (y : Y) → AllZip P xs ys → P x y → P (slice_index_or xs i x) (slice_index_or ys i y)
  alike-at [] [] i x y h p = p
  alike-at (a ∷ xs) (b ∷ ys) zero x y h p = h.0
  alike-at (a ∷ xs) (b ∷ ys) (suc i) x y h p = alike-at xs ys i x y h.1 p
  alike-at z w i x y h p = absurd h

  pub alike-length : (xs : List X) (ys : List Y) → AllZip P xs ys → length xs ≡ length ys
  alike-length [] [] h = refl
  alike-length (a ∷ xs) (b ∷ ys) h = ap suc (alike-length xs ys h.1)
  alike-length x y h = absurd h

  pub alike-rest : (xs : List X) (ys : List Y) → AllZip P xs ys → AllZip P (drop 1 xs) (drop 1 ys)
  alike-rest [] [] h = tt
  alike-rest (a ∷ xs) (b ∷ ys) h = h.1
  alike-rest x y h = absurd h

  -- related items, or none in both
  abbrev pub BothOrNone : Option X → Option Y → Type 0
  BothOrNone None None = Unit {0}
  BothOrNone (Some x) (Some y) = P x y
  BothOrNone None (Some y) = ⊥
  BothOrNone (Some x) None = ⊥

  pub alike-get : (xs : List X) (ys : List Y) (i : ℕ) → AllZip P xs ys → BothOrNone (slice_get xs i) (slice_get ys i)
  alike-get [] [] i h = tt
  alike-get (a ∷ xs) (b ∷ ys) zero h = h.0
  alike-get (a ∷ xs) (b ∷ ys) (suc i) h = alike-get xs ys i h.1
  alike-get x y i h = absurd h

  pub alike-all : (p : X → Bool) (q : Y → Bool) → ((x : X) (y : Y) → P x y → p x ≡ q y) → (xs : List X) (ys : List Y) → AllZip P xs ys
      → list_all p xs ≡ list_all q ys
  alike-all p q same [] [] h = refl
  alike-all p q same (a ∷ xs) (b ∷ ys) h = let one = same a b h.0 in let rest = alike-all p q same xs ys h.1 in rw (one, rest) refl
  alike-all p q same x y h = absurd h
