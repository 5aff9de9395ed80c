-- Records compare by the bytes that they are stored as in the order of their fields there.
use Rattle.std.proofs.Common.{◌≡◌, ◌∙◌, ◌<◌, ◌^◌, eqb, ℕ, nat_lt, Bool, true, false, cond, List, [], ◌∷◌, ◌++◌, length, refl, sym, ap, arith, append-nil}
use Rattle.std.proofs.lemmas.Bool.Decides.{nat_tests}
use Rattle.std.proofs.lemmas.List.{append_assoc}
use Rattle.std.specs.Ordering.{nat_cmp, ordering_then}
use Rattle.std.specs.declared.cmp.Ordering.TheVariants.{Less, Greater}
use Rattle.std.specs.Cmp.Lexicographic.{slice_cmp}
use Rattle.nf_function.specs.Stored.{number_bytes}
use Rattle.nf_function.specs.Records.{age_cmp}
use Rattle.nf_function.specs.Short.{some_number_bytes, short_bytes}
use Rattle.nf_function.proofs.ShortLemmas.{IsWithin}
use Rattle.nf_function.proofs.StoredNumbers.{slice_cmp-number_bytes, length-number_bytes, ordering_then-Equal, ordering_then-again}
use Rattle.conn_tracker.specs.declared.record.TrackRecord.{TrackRecord}
use Rattle.conn_tracker.specs.Table.{state_number}
use Rattle.conn_tracker.specs.Body.{direction_number, numbers_of, body_of}
use Rattle.conn_tracker.specs.Conntrack.{conntrack}

-- no bytes come before some
none_first : (bytes : List ℕ) → length bytes ≡ 8 → slice_cmp nat_cmp [] bytes ≡ Less
none_first [] l = absurd (omega (arith, l))
none_first (b ∷ more) l = refl

none_last : (bytes : List ℕ) → length bytes ≡ 8 → slice_cmp nat_cmp bytes [] ≡ Greater
none_last [] l = absurd (omega (arith, l))
none_last (b ∷ more) l = refl

first_less : (n : ℕ) → eqb n 0 ≡ false → nat_cmp 0 n ≡ Less
first_less n h = let less : nat_lt 0 n ≡ true = grind (arith, nat_tests) in rw less refl

last_greater : (n : ℕ) → eqb n 0 ≡ false → nat_cmp n 0 ≡ Greater
last_greater n h = let less : nat_lt n 0 ≡ false = grind (arith, nat_tests) in rw (less, h) refl

last_cmp : (m n : ℕ) → m < 2 ^ 64 → n < 2 ^ 64 → slice_cmp nat_cmp (some_number_bytes m) (some_number_bytes n) ≡ nat_cmp m n
last_cmp m n p q = by_zeros (eqb m 0) (eqb n 0) refl refl
  where
    by_zeros : (a b : Bool) → eqb m 0 ≡ a → eqb n 0 ≡ b
        → slice_cmp nat_cmp (cond a [] (number_bytes 8 m)) (cond b [] (number_bytes 8 n)) ≡ nat_cmp m n
    by_zeros true true is_m is_n =
        let zero_m : m ≡ 0 = grind (arith, nat_tests) in let zero_n : n ≡ 0 = grind (arith, nat_tests) in rw (zero_m, zero_n) refl
    by_zeros true false is_m is_n =
        let zero_m : m ≡ 0 = grind (arith, nat_tests) in
        let less : nat_cmp m n ≡ Less = rw zero_m (first_less n is_n) in
        none_first (number_bytes 8 n) (length-number_bytes 8 n) ∙ sym less
    by_zeros false true is_m is_n =
        let zero_n : n ≡ 0 = grind (arith, nat_tests) in
        let more : nat_cmp m n ≡ Greater = rw zero_n (last_greater m is_m) in
        none_last (number_bytes 8 m) (length-number_bytes 8 m) ∙ sym more
    by_zeros false false is_m is_n =
        ap (λ (bytes : List ℕ). slice_cmp nat_cmp bytes (number_bytes 8 n)) (sym (append-nil (number_bytes 8 m)))
        ∙ ap (slice_cmp nat_cmp (number_bytes 8 m ++ [])) (sym (append-nil (number_bytes 8 n)))
        ∙ slice_cmp-number_bytes 8 m n [] [] p q ∙ ordering_then-Equal (nat_cmp m n)

-- bodies compare field by field
pub body_cmp : (a b : TrackRecord) → IsWithin (numbers_of a) → IsWithin (numbers_of b)
    → slice_cmp nat_cmp (body_of a) (body_of b)
    ≡ ordering_then (nat_cmp (state_number a.state) (state_number b.state)) (ordering_then (nat_cmp (direction_number a.opener) (direction_number b.opener))
    (ordering_then (nat_cmp a.packets b.packets) (ordering_then (nat_cmp a.bytes b.bytes) (nat_cmp a.seen b.seen))))
unfolding body_of short_bytes
body_cmp a b v w =
    ap (λ o. ordering_then (nat_cmp (state_number a.state) (state_number b.state))
    (ordering_then (nat_cmp (direction_number a.opener) (direction_number b.opener)) o))
    (ap (λ (bytes : List ℕ). slice_cmp nat_cmp bytes (number_bytes 8 b.packets ++ number_bytes 8 b.bytes ++ some_number_bytes b.seen))
    (append_assoc (number_bytes 8 a.packets) (number_bytes 8 a.bytes) (some_number_bytes a.seen))
    ∙ ap (slice_cmp nat_cmp (number_bytes 8 a.packets ++ (number_bytes 8 a.bytes ++ some_number_bytes a.seen)))
    (append_assoc (number_bytes 8 b.packets) (number_bytes 8 b.bytes) (some_number_bytes b.seen))
    ∙ slice_cmp-number_bytes 8 a.packets b.packets (number_bytes 8 a.bytes ++ some_number_bytes a.seen) (number_bytes 8 b.bytes ++ some_number_bytes b.seen)
    v.third w.third
    ∙ ap (ordering_then (nat_cmp a.packets b.packets))
    (slice_cmp-number_bytes 8 a.bytes b.bytes (some_number_bytes a.seen) (some_number_bytes b.seen) v.fourth w.fourth
    ∙ ap (ordering_then (nat_cmp a.bytes b.bytes)) (last_cmp a.seen b.seen v.last w.last)))

-- records compare by their packets, and then by the fields in the order of their bodies
pub age_by_fields : (a b : TrackRecord) → IsWithin (numbers_of a) → IsWithin (numbers_of b)
    → age_cmp conntrack a b
    ≡ ordering_then (ordering_then (nat_cmp a.packets b.packets)
    (ordering_then (nat_cmp (state_number a.state) (state_number b.state)) (nat_cmp (direction_number a.opener) (direction_number b.opener))))
    (ordering_then (nat_cmp a.bytes b.bytes) (nat_cmp a.seen b.seen))
age_by_fields a b v w =
    ap (ordering_then (nat_cmp a.packets b.packets)) (body_cmp a b v w)
    ∙ ordering_then-again (nat_cmp a.packets b.packets) (nat_cmp (state_number a.state) (state_number b.state))
    (nat_cmp (direction_number a.opener) (direction_number b.opener))
    (ordering_then (nat_cmp a.bytes b.bytes) (nat_cmp a.seen b.seen))
