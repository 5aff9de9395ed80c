-- A body in few numbers is read again from its bytes, has one spelling, and is short.
use Rattle.std.proofs.Common.{◌≡◌, ◌∙◌, ◌<◌, ◌≤◌, ◌^◌, eqb, ℕ, Bool, true, false, cond, List, [], ◌∷◌, ◌++◌, length, Option}
use Rattle.std.proofs.Common.{None, Some, option_and_then, refl, sym, ap, arith, append-nil, length-append}
use Rattle.std.proofs.lemmas.Bool.Decides.{nat_tests}
use Rattle.std.proofs.lemmas.List.{append_assoc}
use Rattle.std.proofs.lemmas.Option.{option_and_then_some, same_Some}
use Rattle.nf_function.specs.declared.short.ShortBody.{ShortBody}
use Rattle.nf_function.specs.Stored.{IsBytes, number_bytes, first_byte, first_number}
use Rattle.nf_function.specs.Short.{some_number_bytes, short_bytes, last_number, some_number_in, short_in}
use Rattle.nf_function.proofs.StoredFronts.{IsFront, first_byte-some, then_front, whole_front}
use Rattle.nf_function.proofs.StoredNumbers.{first_number-number_bytes, first_number-some, length-number_bytes}

-- the numbers of eight bytes are within their type
pub record IsWithin (b : ShortBody) : Type 0 where
  pub third : b.third < 2 ^ 64
  pub fourth : b.fourth < 2 ^ 64
  pub last : b.last < 2 ^ 64

-- the bytes of a number aren't empty, so the second case of `some_number_in` applies
some_bytes : (bytes : List ℕ) → length bytes ≡ 8 → some_number_in bytes ≡ option_and_then last_number (first_number 8 bytes)
unfolding some_number_in
some_bytes [] l = absurd (omega (arith, l))
some_bytes (byte ∷ more) l = refl

by_zero : (n : ℕ) (none : Bool) → n < 2 ^ 64 → eqb n 0 ≡ none → some_number_in (cond none [] (number_bytes 8 n)) ≡ Some n
unfolding some_number_in
by_zero n true below h = let zero : n ≡ 0 = grind (arith, nat_tests) in rw zero refl
by_zero n false below h =
    some_bytes (number_bytes 8 n) (length-number_bytes 8 n)
    ∙ ap (λ (bytes : List ℕ). option_and_then last_number (first_number 8 bytes)) (sym (append-nil (number_bytes 8 n)))
    ∙ ap (option_and_then last_number) (first_number-number_bytes 8 n [] below)
    ∙ rw h refl

-- a number that isn't 0 is read again, and 0 from no bytes
some_number_in-bytes : (n : ℕ) → n < 2 ^ 64 → some_number_in (some_number_bytes n) ≡ Some n
some_number_in-bytes n below = by_zero n (eqb n 0) below refl

-- a body is read again
pub short_in-short_bytes : (b : ShortBody) → IsWithin b → short_in (short_bytes b) ≡ Some b
unfolding short_in short_bytes
short_in-short_bytes b w =
    rw (
      append_assoc (number_bytes 8 b.third) (number_bytes 8 b.fourth) (some_number_bytes b.last),
      first_number-number_bytes 8 b.third (number_bytes 8 b.fourth ++ some_number_bytes b.last) w.third,
      first_number-number_bytes 8 b.fourth (some_number_bytes b.last) w.fourth,
      some_number_in-bytes b.last w.last,
    ) refl

-- the bytes that a last number was read from
some_number_bytes-in : (rest : List ℕ) (n : ℕ) → IsBytes rest → some_number_in rest ≡ Some n → IsFront (some_number_bytes n) rest []
unfolding some_number_in
some_number_bytes-in [] n are h = rw (← same_Some 0 n h) (record { spelled = refl; rest_bytes = are })
some_number_bytes-in (byte ∷ more) n are h =
    option_and_then_some last_number (first_number 8 (byte ∷ more)) n h
    (λ x read last. stored x.0 x.1 last (first_number-some 8 (byte ∷ more) x are read))
  where
    stored : (m : ℕ) (tail : List ℕ) → last_number (m, tail) ≡ Some n → IsFront (number_bytes 8 m) (byte ∷ more) tail
        → IsFront (some_number_bytes n) (byte ∷ more) []
    stored m [] last first = by_none (eqb m 0) refl last
      where
        by_none : (none : Bool) → eqb m 0 ≡ none → cond {A = Option ℕ} none None (Some m) ≡ Some n → IsFront (some_number_bytes n) (byte ∷ more) []
        by_none true is e = cc
        by_none false is e = rw (← same_Some m n e, is) first
    stored m (b ∷ tail) last first = cc

-- the bytes that a body was read from are its own
pub short_bytes-short_in : (bytes : List ℕ) (b : ShortBody) → IsBytes bytes → short_in bytes ≡ Some b → short_bytes b ≡ bytes
unfolding short_in short_bytes
short_bytes-short_in bytes b are h =
    option_and_then_some _ (first_byte bytes) b h (λ first p h1.
    option_and_then_some _ (first_byte first.1) b h1 (λ second q h2.
    option_and_then_some _ (first_number 8 second.1) b h2 (λ third r h3.
    option_and_then_some _ (first_number 8 third.1) b h3 (λ fourth s h4.
    option_and_then_some _ (some_number_in fourth.1) b h4 (λ last t ends.
    let one = first_byte-some bytes first are p in
    let two = first_byte-some first.1 second one.rest_bytes q in
    let three = first_number-some 8 second.1 third two.rest_bytes r in
    let four = first_number-some 8 third.1 fourth three.rest_bytes s in
    let five = some_number_bytes-in fourth.1 last four.rest_bytes t in
    rw (← same_Some (record { third = third.0; fourth = fourth.0; last = last; first = first.0; second = second.0 }) b ends)
    (whole_front (then_front (then_front (then_front (then_front one two) three) four) five) refl))))))

length-some_number_bytes : (n : ℕ) (none : Bool) → eqb n 0 ≡ none → length (cond none [] (number_bytes 8 n)) ≤ 8
length-some_number_bytes n true h = omega arith
length-some_number_bytes n false h = let is = length-number_bytes 8 n in omega arith

-- a body is short
pub length-short_bytes : (b : ShortBody) → length (short_bytes b) ≤ 26
unfolding short_bytes
length-short_bytes b =
    let last : length (some_number_bytes b.last) ≤ 8 = length-some_number_bytes b.last (eqb b.last 0) refl in
    rw (
      length-append (number_bytes 8 b.third ++ number_bytes 8 b.fourth) (some_number_bytes b.last),
      length-append (number_bytes 8 b.third) (number_bytes 8 b.fourth),
      length-number_bytes 8 b.third,
      length-number_bytes 8 b.fourth,
    ) (omega arith)
