-- Numbers in stored bytes: each number has one spelling, and spellings compare as their numbers do.
use Rattle.std.proofs.Common.{◌≡◌, ◌∙◌, ◌<◌, ◌≤◌, ◌+◌, ◌*◌, ◌^◌, ℕ, zero, suc, Bool, true, false, cond, List, [], ◌∷◌, ◌++◌}
use Rattle.std.proofs.Common.{length, take, drop, Option, None, Some, refl, sym, ap, arith, nat_lt, length-append, append-nil, eqb}
use Rattle.std.proofs.lemmas.Option.{same_Some}
use Rattle.std.proofs.Math.Nat.{mul-le-mul_right}
use Rattle.std.proofs.lemmas.Bool.Decides.{nat_tests}
use Rattle.std.proofs.lemmas.List.{length-take-le, take-append-drop, drop_at}
use Rattle.std.proofs.lemmas.Nat.{same_from_place}
use Rattle.std.specs.Int.{byte_at}
use Rattle.std.specs.Ordering.{nat_cmp, ordering_then}
use Rattle.std.specs.declared.cmp.Ordering.{Ordering}
use Rattle.std.specs.declared.cmp.Ordering.TheVariants.{Less, Equal, Greater}
use Rattle.std.specs.Cmp.Lexicographic.{slice_cmp}
use Rattle.byteorder.specs.Endian.{big_bytes, big_number}
use Rattle.byteorder.specs.Numbers.{big_from-cons, big_from-lt, big_number-reads_back, big_from-take, length-bytes_high_first}
use Rattle.nf_function.specs.Stored.{IsBytes, number_bytes, first_number}
use Rattle.nf_function.proofs.StoredFronts.{IsFront, IsBytes-tail, IsBytes-drop, IsBytes-take}

byte_at-below : (k x : ℕ) → byte_at k x < 256
byte_at-below zero x = omega arith
byte_at-below (suc k) x = omega arith

pub IsBytes-big_bytes : (n x : ℕ) → IsBytes (big_bytes n x)
IsBytes-big_bytes zero x i = omega arith
IsBytes-big_bytes (suc n) x zero = byte_at-below n x
IsBytes-big_bytes (suc n) x (suc i) = IsBytes-big_bytes n x i

-- a number with one byte more before it
big_number-cons : (n b : ℕ) (bs : List ℕ) → big_number (suc n) (b ∷ bs) ≡ b * 256 ^ n + big_number n bs
big_number-cons n b bs = ap (λ (r : ℕ). b * 256 ^ n + r) (big_from-cons 0 n b bs)

-- bytes of one length that give one number are the same bytes
same_bytes : (n : ℕ) (xs ys : List ℕ) → length xs ≡ n → length ys ≡ n → IsBytes xs → IsBytes ys → big_number n xs ≡ big_number n ys → xs ≡ ys
same_bytes zero [] [] l m p q h = refl
same_bytes zero [] (y ∷ ys) l m p q h = absurd (omega (arith, m))
same_bytes zero (x ∷ xs) ys l m p q h = absurd (omega (arith, l))
same_bytes (suc n) [] ys l m p q h = absurd (omega (arith, l))
same_bytes (suc n) (x ∷ xs) [] l m p q h = absurd (omega (arith, m))
same_bytes (suc n) (x ∷ xs) (y ∷ ys) l m p q h =
    let parts = same_from_place x (big_number n xs) y (big_number n ys) (256 ^ n) (big_from-lt 0 n xs (IsBytes-tail x xs p))
    (big_from-lt 0 n ys (IsBytes-tail y ys q))
    (sym (big_number-cons n x xs) ∙ h ∙ big_number-cons n y ys) in
    let rest = same_bytes n xs ys (omega (arith, l)) (omega (arith, m)) (IsBytes-tail x xs p) (IsBytes-tail y ys q) parts.1 in
    rw (parts.0, rest) refl

-- bytes that give a number are the number's spelling
big_bytes-big_number : (n : ℕ) (xs : List ℕ) → length xs ≡ n → IsBytes xs → big_bytes n (big_number n xs) ≡ xs
big_bytes-big_number n xs l h =
    let below : big_number n xs < 256 ^ n = big_from-lt 0 n xs h in
    let value : big_number n (big_bytes n (big_number n xs) ++ []) ≡ big_number n xs = big_number-reads_back n (big_number n xs) [] below in
    same_bytes n (big_bytes n (big_number n xs)) xs (length-bytes_high_first n (big_number n xs)) l (IsBytes-big_bytes n (big_number n xs)) h
    (ap (big_number n) (sym (append-nil (big_bytes n (big_number n xs)))) ∙ value)

-- a number in n bytes has n bytes
pub length-number_bytes : (n x : ℕ) → length (number_bytes n x) ≡ n
unfolding number_bytes
length-number_bytes n x = length-bytes_high_first n x

-- what was spelled is read, whatever follows
pub first_number-number_bytes : (n x : ℕ) (rest : List ℕ) → x < 256 ^ n → first_number n (number_bytes n x ++ rest) ≡ Some (x, rest)
unfolding first_number number_bytes
first_number-number_bytes n x rest below =
    let long : nat_lt (length (big_bytes n x ++ rest)) n ≡ false = grind (arith, nat_tests, length-append (big_bytes n x) rest, length-bytes_high_first n x) in
    rw (long, big_number-reads_back n x rest below, drop_at (big_bytes n x) rest n (length-bytes_high_first n x)) refl

-- the number that was read is the one whose spelling stands first
pub first_number-some : (n : ℕ) (bytes : List ℕ) (read : ℕ × List ℕ) → IsBytes bytes → first_number n bytes ≡ Some read
    → IsFront (number_bytes n read.0) bytes read.1
unfolding first_number number_bytes
first_number-some n bytes read are h = chosen (nat_lt (length bytes) n) refl h
  where
    chosen : (short : Bool) → nat_lt (length bytes) n ≡ short
        → cond {A = Option (ℕ × List ℕ)} short None (Some (big_number n bytes, drop n bytes)) ≡ Some read → IsFront (big_bytes n read.0) bytes read.1
    chosen true s e = cc
    chosen false s e =
        let long : n ≤ length bytes = grind (arith, nat_tests) in
        let front : big_number n (take n bytes) ≡ big_number n bytes = big_from-take 0 n n bytes (omega arith) in
        let whole : big_bytes n (big_number n bytes) ≡ take n bytes =
        ap (big_bytes n) (sym front) ∙ big_bytes-big_number n (take n bytes) (length-take-le n bytes long) (IsBytes-take n bytes are) in
        rw (← same_Some (big_number n bytes, drop n bytes) read e) (record {
          spelled = sym (take-append-drop n bytes) ∙ ap (λ (front : List ℕ). front ++ drop n bytes) (sym whole);
          rest_bytes = IsBytes-drop n bytes are;
        })

-- numbers whose high parts differ compare by these
nat_cmp-place : (x y r s c : ℕ) → r < c → s < c → nat_cmp (x * c + r) (y * c + s) ≡ ordering_then (nat_cmp x y) (nat_cmp r s)
nat_cmp-place x y r s c p q = by_first (nat_lt x y) (nat_lt y x) refl refl
  where
    below : (a b u v : ℕ) → a < b → u < c → a * c + u < b * c + v
    below a b u v h k = let top : (a + 1) * c ≤ b * c = mul-le-mul_right c (omega arith) in omega arith

    by_first : (less more : Bool) → nat_lt x y ≡ less → nat_lt y x ≡ more
        → nat_cmp (x * c + r) (y * c + s) ≡ ordering_then (nat_cmp x y) (nat_cmp r s)
    by_first true more h k =
        let first : x < y = grind (arith, nat_tests) in
        let all : x * c + r < y * c + s = below x y r s first p in
        let left : nat_lt (x * c + r) (y * c + s) ≡ true = grind (arith, nat_tests) in
        rw (left, h) refl
    by_first false true h k =
        let first : y < x = grind (arith, nat_tests) in
        let all : y * c + s < x * c + r = below y x s r first q in
        let left : nat_lt (x * c + r) (y * c + s) ≡ false = grind (arith, nat_tests) in
        let ties : eqb (x * c + r) (y * c + s) ≡ false = grind (arith, nat_tests) in
        let differ : eqb x y ≡ false = grind (arith, nat_tests) in
        rw (left, ties, h, differ) refl
    by_first false false h k =
        let same : x ≡ y = grind (arith, nat_tests) in
        let less : nat_lt (x * c + r) (y * c + s) ≡ nat_lt r s = rw same (grind (arith, nat_tests)) in
        let ties : eqb (x * c + r) (y * c + s) ≡ eqb r s = rw same (grind (arith, nat_tests)) in
        let tie : eqb x y ≡ true = grind (arith, nat_tests) in
        rw (less, ties, h, tie) refl

pub ordering_then-assoc : (a b c : Ordering) → ordering_then (ordering_then a b) c ≡ ordering_then a (ordering_then b c)
ordering_then-assoc Less b c = refl
ordering_then-assoc Equal b c = refl
ordering_then-assoc Greater b c = refl

pub ordering_then-Equal : (o : Ordering) → ordering_then o Equal ≡ o
ordering_then-Equal Less = refl
ordering_then-Equal Equal = refl
ordering_then-Equal Greater = refl

-- what was compared first decides nothing when it is compared again
pub ordering_then-again : (p a b c : Ordering)
    → ordering_then p (ordering_then a (ordering_then b (ordering_then p c))) ≡ ordering_then (ordering_then p (ordering_then a b)) c
ordering_then-again Less a b c = refl
ordering_then-again Equal a b c = sym (ordering_then-assoc a b c)
ordering_then-again Greater a b c = refl

-- bytes of one length compare as the numbers that they give, and then comes the rest
cmp_by_numbers : (n : ℕ) (xs ys us vs : List ℕ) → length xs ≡ n → length ys ≡ n → IsBytes xs → IsBytes ys
    → slice_cmp nat_cmp (xs ++ us) (ys ++ vs) ≡ ordering_then (nat_cmp (big_number n xs) (big_number n ys)) (slice_cmp nat_cmp us vs)
cmp_by_numbers zero [] [] us vs l m p q = refl
cmp_by_numbers zero [] (y ∷ ys) us vs l m p q = absurd (omega (arith, m))
cmp_by_numbers zero (x ∷ xs) ys us vs l m p q = absurd (omega (arith, l))
cmp_by_numbers (suc n) [] ys us vs l m p q = absurd (omega (arith, l))
cmp_by_numbers (suc n) (x ∷ xs) [] us vs l m p q = absurd (omega (arith, m))
cmp_by_numbers (suc n) (x ∷ xs) (y ∷ ys) us vs l m p q =
    ap (ordering_then (nat_cmp x y)) (cmp_by_numbers n xs ys us vs (omega (arith, l)) (omega (arith, m)) (IsBytes-tail x xs p) (IsBytes-tail y ys q))
    ∙ sym (ordering_then-assoc (nat_cmp x y) (nat_cmp (big_number n xs) (big_number n ys)) (slice_cmp nat_cmp us vs))
    ∙ ap (λ o. ordering_then o (slice_cmp nat_cmp us vs))
    (sym (nat_cmp-place x y (big_number n xs) (big_number n ys) (256 ^ n) (big_from-lt 0 n xs (IsBytes-tail x xs p)) (big_from-lt 0 n ys (IsBytes-tail y ys q)))
    ∙ ap (λ a. nat_cmp a (y * 256 ^ n + big_number n ys)) (sym (big_number-cons n x xs))
    ∙ ap (nat_cmp (big_number (suc n) (x ∷ xs))) (sym (big_number-cons n y ys)))

-- spellings compare as their numbers do, and then comes the rest
pub slice_cmp-number_bytes : (n x y : ℕ) (us vs : List ℕ) → x < 256 ^ n → y < 256 ^ n
    → slice_cmp nat_cmp (number_bytes n x ++ us) (number_bytes n y ++ vs) ≡ ordering_then (nat_cmp x y) (slice_cmp nat_cmp us vs)
unfolding number_bytes
slice_cmp-number_bytes n x y us vs p q =
    cmp_by_numbers n (big_bytes n x) (big_bytes n y) us vs (length-bytes_high_first n x) (length-bytes_high_first n y) (IsBytes-big_bytes n x)
    (IsBytes-big_bytes n y)
    ∙ ap (λ a. ordering_then (nat_cmp a (big_number n (big_bytes n y))) (slice_cmp nat_cmp us vs)) (value n x p)
    ∙ ap (λ b. ordering_then (nat_cmp x b) (slice_cmp nat_cmp us vs)) (value n y q)
  where
    value : (n x : ℕ) → x < 256 ^ n → big_number n (big_bytes n x) ≡ x
    value n x h = ap (big_number n) (sym (append-nil (big_bytes n x))) ∙ big_number-reads_back n x [] h
