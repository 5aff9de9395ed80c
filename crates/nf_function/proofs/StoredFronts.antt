-- What stands first in stored bytes, and what comes after it: fronts join, and so a record is read from its own bytes alone.
use Rattle.std.proofs.Common.{◌≡◌, ◌∙◌, ◌<◌, ℕ, zero, suc, List, [], ◌∷◌, ◌++◌, length, take, drop, Option, None, Some}
use Rattle.std.proofs.Common.{option_and_then, sym, refl, ap, arith, append-nil, nat_le}
use Rattle.std.proofs.lemmas.List.{append_assoc}
use Rattle.std.proofs.lemmas.Option.{same_Some, option_and_then_some, cond_some}
use Rattle.nf_function.specs.Stored.{IsBytes, first_byte, at_most, at_end}

-- bytes after the first are bytes
pub IsBytes-tail : (b : ℕ) (bs : List ℕ) → IsBytes (b ∷ bs) → IsBytes bs
IsBytes-tail b bs h i = h (suc i)

pub IsBytes-drop : (n : ℕ) (bs : List ℕ) → IsBytes bs → IsBytes (drop n bs)
IsBytes-drop zero bs h = h
IsBytes-drop (suc n) [] h = h
IsBytes-drop (suc n) (b ∷ bs) h = IsBytes-drop n bs (IsBytes-tail b bs h)

pub IsBytes-take : (n : ℕ) (bs : List ℕ) → IsBytes bs → IsBytes (take n bs)
IsBytes-take zero bs h i = omega arith
IsBytes-take (suc n) [] h i = omega arith
IsBytes-take (suc n) (b ∷ bs) h zero = h zero
IsBytes-take (suc n) (b ∷ bs) h (suc i) = IsBytes-take n bs (IsBytes-tail b bs h) i

-- this stands first, and those bytes come after it
pub record IsFront (front bytes rest : List ℕ) : Type 0 where
  pub spelled : bytes ≡ front ++ rest
  pub rest_bytes : IsBytes rest

-- a front, and the next one after it
pub then_front : {a b bytes more rest : List ℕ} → IsFront a bytes more → IsFront b more rest → IsFront (a ++ b) bytes rest
then_front {a} {b} {bytes} {more} {rest} p q = record {
  spelled = p.spelled ∙ ap (λ (l : List ℕ). a ++ l) q.spelled ∙ sym (append_assoc a b rest);
  rest_bytes = q.rest_bytes;
}

-- with nothing after it, it is the whole
pub whole_front : {front bytes rest : List ℕ} → IsFront front bytes rest → rest ≡ [] → front ≡ bytes
whole_front {front} {bytes} {rest} p none = sym (p.spelled ∙ ap (λ (l : List ℕ). front ++ l) none ∙ append-nil front)

pub first_byte-some : (bytes : List ℕ) (read : ℕ × List ℕ) → IsBytes bytes → first_byte bytes ≡ Some read → IsFront (read.0 ∷ []) bytes read.1
first_byte-some [] read are h = cc
first_byte-some (byte ∷ more) read are h =
    rw (← same_Some (byte, more) read h) (record { spelled = refl; rest_bytes = IsBytes-tail byte more are })

-- a number that isn't too large is the one that was read
pub at_most-some : (most : ℕ) (o : Option (ℕ × List ℕ)) (read : ℕ × List ℕ) → option_and_then (at_most most) o ≡ Some read → o ≡ Some read
at_most-some most o read h =
    option_and_then_some (at_most most) o read h (λ x p q. p ∙ ap (λ (x : ℕ × List ℕ). Some x) (cond_some (nat_le x.0 most) x read q).1)

pub at_end-some : {X : Type 0} (x y : X) (rest : List ℕ) → at_end (x, rest) ≡ Some y → (rest ≡ []) × (x ≡ y)
at_end-some x y [] h = (refl, same_Some x y h)
at_end-some x y (byte ∷ rest) h = cc

-- nothing comes after what was read, or bytes do
pub ended : {X : Type 0} (x : X) (rest : List ℕ) → length rest ≡ 0 → at_end (x, rest) ≡ Some x
ended x [] none = refl
ended x (byte ∷ rest) none = absurd (omega (arith, none))

pub not_ended : {X : Type 0} (x : X) (rest : List ℕ) → 0 < length rest → at_end (x, rest) ≡ None
not_ended x [] some = absurd (omega (arith, some))
not_ended x (byte ∷ rest) some = refl
