-- One role's tape takes the place of what it was: the role shows the new one, and the others show what they showed.
use Rattle.std.proofs.Common.{◌≡◌, ◌≢◌, ℕ, ◌<◌, zero, suc, List, [], ◌∷◌, ◌++◌, length, slice_set, slice_index_or, arith}
use Rattle.std.proofs.Common.{refl, ap, sym, ◌∙◌, subst, take, Option, None, Some, Result, Ok, Err, IfOk, OnOk, OnErr}
use Rattle.std.specs.Prelude.{option_map, slice_get, unwrap_or}
use Rattle.std.proofs.lemmas.Option.{slice_get-get_or}
use Rattle.nf_io.specs.declared.outside.Role.{Role}
use Rattle.std.specs.Io.KnownBytes.{append_known, Appends, Keeps, WriteAppends}
use Rattle.nf_io.specs.Meaning.{Meaning}
use Rattle.nf_io.specs.Roles.{role_place}
use Rattle.nf_io.proofs.RolesAfterLoan.{same_place}

get_there : {T : Type 0} (xs : List T) (at k : ℕ) (x : T) → at ≡ k → at < length xs → slice_get (slice_set xs at x) k ≡ Some x
get_there [] at k x e h = absurd (omega arith)
get_there (y ∷ ys) zero k x e h = rw (← e)
get_there (y ∷ ys) (suc at) k x e h = rw (← e) (get_there ys at at x refl (omega arith))

get_elsewhere : {T : Type 0} (xs : List T) (at k : ℕ) (x : T) → k ≢ at → slice_get (slice_set xs at x) k ≡ slice_get xs k
get_elsewhere [] at k x ne = refl
get_elsewhere (y ∷ ys) zero zero x ne = absurd (ne refl)
get_elsewhere (y ∷ ys) zero (suc k) x ne = refl
get_elsewhere (y ∷ ys) (suc at) zero x ne = refl
get_elsewhere (y ∷ ys) (suc at) (suc k) x ne = get_elsewhere ys at k x (λ e. ne (ap suc e))

-- what follows from a value and from an error alike
pub either : {R E A B C : Type 0} (r : Result R E) → (A → C) → (B → C) → OnOk r A → OnErr r B → C
either (Ok x) f g a b = f a
either (Err x) f g a b = g b

-- where the table has the role's tape
pub record IsPlace {T : Type 0} (xs : List T) (at : ℕ) (role : Role) : Type 0 where
  pub is : at ≡ role_place role
  pub within : at < length xs

module _ {T M : Type 0} (shows : T → M) (none : M) where
  abbrev shown_at : List T → ℕ → M
  shown_at xs k = unwrap_or (option_map shows (slice_get xs k)) none

  -- of a role whose tape is new
  pub there : (xs : List T) (at : ℕ) (x : T) (role : Role) → IsPlace xs at role → shown_at (slice_set xs at x) (role_place role) ≡ shows x
  there xs at x role place = ap (λ o. unwrap_or (option_map shows o) none) (get_there xs at (role_place role) x place.is place.within)

  -- of a role before
  pub here : (d : T) (xs : List T) (at : ℕ) (role : Role) → IsPlace xs at role → shown_at xs (role_place role) ≡ shows (slice_index_or xs at d)
  here d xs at role place = subst (λ k. shown_at xs k ≡ shows (slice_index_or xs at d)) place.is
      (ap (λ o. unwrap_or (option_map shows o) none) (slice_get-get_or xs at d place.within))

  -- of the other roles
  pub elsewhere : (xs : List T) (at : ℕ) (x : T) (role : Role) → at ≡ role_place role → (other : Role) → other ≢ role
      → shown_at (slice_set xs at x) (role_place other) ≡ shown_at xs (role_place other)
  elsewhere xs at x role e other ne =
      ap (λ o. unwrap_or (option_map shows o) none) (get_elsewhere xs at (role_place other) x (λ same. ne (same_place other role (same ∙ e))))

  -- of every role, of what no tape changes
  pub unchanged : {N : Type 0} (part : M → N) (d : T) (xs : List T) (at : ℕ) (x : T) → part (shows x) ≡ part (shows (slice_index_or xs at d)) → (k : ℕ)
      → part (shown_at (slice_set xs at x) k) ≡ part (shown_at xs k)
  unchanged part d [] at x e k = refl
  unchanged part d (y ∷ ys) zero x e zero = e
  unchanged part d (y ∷ ys) zero x e (suc k) = refl
  unchanged part d (y ∷ ys) (suc at) x e zero = refl
  unchanged part d (y ∷ ys) (suc at) x e (suc k) = unchanged part d ys at x e k

appends_known : (known : Option (List ℕ)) (bs : List ℕ) → Appends known (append_known known bs) bs
appends_known None bs = tt
appends_known (Some xs) bs = refl

keeps_known : (known : Option (List ℕ)) → Keeps known known
keeps_known None = tt
keeps_known (Some xs) = refl

-- a write to a tape appends a front of the bytes, or counts a fault
module _ {E : Type 0} (old new : Meaning) (bytes : List ℕ) where
  abbrev WritesFront : Result ℕ E → Type 0
  WritesFront r = IfOk r (λ n. new ≡ record old { written = append_known old.written (take n bytes) })

  abbrev CountsFault : Result ℕ E → Type 0
  CountsFault r = OnErr r (new ≡ record old { faults = new.faults })

  pub front_appended : (r : Result ℕ E) → WritesFront r → CountsFault r → WriteAppends old.written new.written r bytes
  front_appended (Ok n) ok err = rw (ap (λ m. m.written) ok) (appends_known old.written (take n bytes))
  front_appended (Err e) ok err = rw (ap (λ m. m.written) err) (keeps_known old.written)

  pub same_left : (r : Result ℕ E) → WritesFront r → CountsFault r → new.left ≡ old.left
  same_left (Ok n) ok err = ap (λ m. m.left) ok
  same_left (Err e) ok err = ap (λ m. m.left) err

  pub same_name : (r : Result ℕ E) → WritesFront r → CountsFault r → new.name ≡ old.name
  same_name (Ok n) ok err = ap (λ m. m.name) ok
  same_name (Err e) ok err = ap (λ m. m.name) err

-- of an empty list no end is left
pub ended : (xs ys zs : List ℕ) → xs ≡ ys ++ zs → length xs ≡ 0 → zs ≡ []
ended [] [] zs e none = sym e
ended [] (y ∷ ys) zs e none = absurd (cc)
ended (x ∷ xs) ys zs e none = absurd (omega arith)
