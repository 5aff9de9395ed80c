-- Ends that were seen, a bit for each: to see one sets its bit and no other, and none stands twice where each is new.
use Rattle.std.proofs.Common.{◌≡◌, ◌≢◌, ◌<◌, ◌≤◌, ◌*◌, ◌/◌, ◌%◌, ◌^◌, ◌==◌, ◌&&◌, ◌||◌, ℕ, zero, suc, Bool, true, false}
use Rattle.std.proofs.Common.{not, List, [], ◌∷◌, length, set, get_or, drop, replicate, bit_and, bit_or, refl, arith}
use Rattle.std.specs.Int.{w64, bit_at}
use Rattle.std.specs.List.{list_all, list_any}
use Rattle.std.proofs.lemmas.Bool.{and_parts, eqb-true, ltb-true}
use Rattle.std.proofs.lemmas.Bool.Decides.{nat_tests}
use Rattle.std.proofs.lemmas.List.{get_or-set_same, get_or-set_other}
use Rattle.std.proofs.lemmas.Nat.Bits.{and_pow, bit_at-lt, bit_at-zero, bit_at_set_same, bit_at_set_other}
use Rattle.std.proofs.Math.Pow.{pow-lt, pow_mono}
use Rattle.nf_function.specs.Units.{is_transport}
use Rattle.addr_translator.specs.declared.mapping.Mapping.{Mapping}
use Rattle.addr_translator.specs.Mappings.{mapping_eq}
use Rattle.addr_translator.specs.Body.{is_mapping, is_distinct}
use Rattle.addr_translator.specs.Ends.{number_of, has_bit, has_end, IsAdded}

-- none of these was seen or stands twice
abbrev pub are_apart : List ℕ → List Mapping → Bool
are_apart words ends = list_all (λ end. not (has_end words end)) ends && is_distinct ends

-- no bit is set among zeros
zero_at : (n i : ℕ) → get_or (replicate n zero) i zero ≡ zero
zero_at zero i = refl
zero_at (suc n) zero = refl
zero_at (suc n) (suc i) = zero_at n i

pub none_set : (n : ℕ) (end : Mapping) → has_end (replicate n 0) end ≡ false
none_set n end = rw (zero_at n (number_of end / 64), bit_at-zero (number_of end % 64)) refl

-- what is left of a list passes as the whole does
pub left_all : {X : Type 0} (p : X → Bool) (n : ℕ) (xs : List X) → list_all p xs ≡ true → list_all p (drop n xs) ≡ true
left_all p zero xs h = h
left_all p (suc n) [] h = h
left_all p (suc n) (x ∷ xs) h = left_all p n xs (and_parts (p x) (list_all p xs) h).1

-- the bit of a number that is new is 0
pub is_fresh : (words : List ℕ) (n : ℕ) → (bit_and (get_or words (n / 64) 0) (1 * 2 ^ (n % 64) % 2 ^ 64) == 0) ≡ not (has_bit words n)
is_fresh words n =
    rw (small (2 ^ (n % 64)) (pow-lt {i = n % 64} {j = 64} (omega arith)), and_pow (get_or words (n / 64) 0) (n % 64))
    (by_bit (bit_at (get_or words (n / 64) 0) (n % 64)) (2 ^ (n % 64)) (bit_at-lt (get_or words (n / 64) 0) (n % 64))
    (pow_mono {i = 0} {j = n % 64} (omega arith)))
  where
    small : (power : ℕ) → power < 2 ^ 64 → 1 * power % 2 ^ 64 ≡ power
    small power h = omega arith

    by_bit : (bit power : ℕ) → bit < 2 → 1 ≤ power → (bit * power == 0) ≡ not (bit == 1)
    by_bit zero power l h = grind (arith, nat_tests)
    by_bit (suc zero) power l h = grind (arith, nat_tests)
    by_bit (suc (suc bit)) power l h = absurd (omega arith)

-- two numbers with one place and one bit are one
same_number : (n m : ℕ) → m / 64 ≡ n / 64 → m % 64 ≡ n % 64 → m ≡ n
same_number n m p q = omega (arith, p, q)

-- the words with one more bit
abbrev pub with_bit : List ℕ → ℕ → List ℕ
with_bit words n = set words (n / 64) (bit_or (get_or words (n / 64) 0) (1 * 2 ^ (n % 64) % 2 ^ 64))

pub has_bit-with_bit : (words : List ℕ) (n m : ℕ) → n / 64 < length words → has_bit (with_bit words n) m ≡ (m == n || has_bit words m)
has_bit-with_bit words n m h = by_number (m == n) refl
  where
    word : ℕ
    word = bit_or (get_or words (n / 64) 0) (1 * 2 ^ (n % 64) % 2 ^ 64)

    by_word : (same : Bool) → (m / 64 == n / 64) ≡ same → (m == n) ≡ false → has_bit (with_bit words n) m ≡ has_bit words m
    by_word true e other =
        let place : m / 64 ≡ n / 64 = eqb-true (m / 64) (n / 64) e in
        let differs : m % 64 ≢ n % 64 = λ q. grind (arith, nat_tests, other, same_number n m place q) in
        rw (place, get_or-set_same words (n / 64) word 0 h, bit_at_set_other w64 (get_or words (n / 64) 0) (n % 64) (omega arith) (m % 64) differs) refl
    by_word false e other = rw (get_or-set_other words (n / 64) (m / 64) word 0 (grind (arith, nat_tests, e))) refl

    by_number : (same : Bool) → (m == n) ≡ same → has_bit (with_bit words n) m ≡ (same || has_bit words m)
    by_number true e =
        let is : m ≡ n = eqb-true m n e in
        rw (is, get_or-set_same words (n / 64) word 0 h, bit_at_set_same w64 (get_or words (n / 64) 0) (n % 64) (omega arith)) refl
    by_number false e = by_word (m / 64 == n / 64) refl e

-- ends of TCP and UDP are one where their numbers are
number_eq : (a b : Mapping) → is_mapping a ≡ true → is_mapping b ≡ true → (number_of a == number_of b) ≡ mapping_eq a b
number_eq a b p q =
    let one = and_parts (is_transport a.proto) _ p in
    let other = and_parts (is_transport b.proto) _ q in
    numbers_eq a.proto b.proto a.port b.port one.0 other.0 (ltb-true a.port (2 ^ 16) one.1) (ltb-true b.port (2 ^ 16) other.1)
  where
    numbers_eq : (p q m n : ℕ) → is_transport p ≡ true → is_transport q ≡ true → m < 65536 → n < 65536
        → (number_of (record { proto = p; port = m }) == number_of (record { proto = q; port = n })) ≡ (p == q && m == n)
    numbers_eq p q m n a b c d = grind (arith, nat_tests)

pub sees_end : (words : List ℕ) (end : Mapping) → is_mapping end ≡ true → number_of end / 64 < length words → IsAdded end words (with_bit words (number_of end))
sees_end words end h within other is = rw (← number_eq other end is h) (has_bit-with_bit words (number_of end) (number_of other) within)

-- where one more is seen, others are apart from it and from those before
apart_more : (before after : List ℕ) (end : Mapping) (more : List Mapping) → IsAdded end before after → list_all is_mapping more ≡ true
    → list_all (λ other. not (has_end after other)) more
    ≡ (not (list_any (λ other. mapping_eq other end) more) && list_all (λ other. not (has_end before other)) more)
apart_more before after end [] added h = refl
apart_more before after end (m ∷ more) added h =
    let parts = and_parts (is_mapping m) (list_all is_mapping more) h in
    rw (added m parts.0, apart_more before after end more added parts.1)
    (regrouped (mapping_eq m end) (has_end before m) (list_any (λ other. mapping_eq other end) more) (list_all (λ other. not (has_end before other)) more))
  where
    regrouped : (a b c d : Bool) → (not (a || b) && (not c && d)) ≡ (not (a || c) && (not b && d))
    regrouped true b c d = refl
    regrouped false true true d = refl
    regrouped false true false d = refl
    regrouped false false c d = refl

pub seen_one : (before after : List ℕ) (end : Mapping) (more : List Mapping) → IsAdded end before after → list_all is_mapping more ≡ true
    → has_end before end ≡ false → are_apart before (end ∷ more) ≡ are_apart after more
seen_one before after end more added h fresh =
    rw (fresh, apart_more before after end more added h)
    (regrouped (list_any (λ other. mapping_eq other end) more) (list_all (λ other. not (has_end before other)) more) (is_distinct more))
  where
    regrouped : (a b c : Bool) → (b && (not a && c)) ≡ ((not a && b) && c)
    regrouped true true c = refl
    regrouped true false c = refl
    regrouped false b c = refl

pub seen_twice : (words : List ℕ) (end : Mapping) (more : List Mapping) → has_end words end ≡ true → are_apart words (end ∷ more) ≡ false
seen_twice words end more seen = rw seen refl

pub none_seen : (words : List ℕ) (ends : List Mapping) → ((end : Mapping) → is_mapping end ≡ true → has_end words end ≡ false) → list_all is_mapping ends ≡ true
    → are_apart words ends ≡ is_distinct ends
none_seen words ends none h = rw (all_fresh ends h) refl
  where
    all_fresh : (ends : List Mapping) → list_all is_mapping ends ≡ true → list_all (λ end. not (has_end words end)) ends ≡ true
    all_fresh [] h = refl
    all_fresh (end ∷ more) h =
        let parts = and_parts (is_mapping end) (list_all is_mapping more) h in
        rw (none end parts.0) (all_fresh more parts.1)
