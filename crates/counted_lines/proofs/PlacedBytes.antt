-- Bytes that are put after those that stand at the front of a place, or of a buffer.
use Rattle.std.proofs.Common.{◌≡◌, ◌≤◌, ℕ, zero, suc, ◌+◌, List, [], ◌∷◌, ◌++◌, length, take, drop, refl, ap, sym, ◌∙◌, subst, append_assoc, length-take, arith}
use Rattle.std.proofs.Math.Seq.{take-append_seam, drop-append_seam, take-append-add}
use Rattle.std.proofs.lemmas.List.{drop-drop, length-append, take-append-le}
use borrow.Rule.Slice.PartMut.{put_mid}

at_seam : (front rest ys : List ℕ) (k : ℕ) → put_mid (length front) k (front ++ rest) ys ≡ (front ++ ys) ++ drop k rest
at_seam front rest ys k =
    ap (λ l. l ++ (ys ++ drop k (drop (length front) (front ++ rest)))) (take-append_seam front rest)
    ∙ ap (λ l. front ++ (ys ++ drop k l)) (drop-append_seam front rest) ∙ sym (append_assoc front ys (drop k rest))

-- what stands behind the front is written over
put_behind : (front rest ys : List ℕ) (n k : ℕ) → length front ≡ n → put_mid n k (front ++ rest) ys ≡ (front ++ ys) ++ drop k rest
put_behind front rest ys n k is = subst (λ m. put_mid m k (front ++ rest) ys ≡ (front ++ ys) ++ drop k rest) is (at_seam front rest ys k)

-- two pieces are written over the front of a place, behind the first that stands there
pub put_two : (a b c place : List ℕ) (n k m j : ℕ) → length a ≡ n → length b ≡ k → m ≡ n + k
    → put_mid m j (put_mid n k (a ++ drop n place) b) c ≡ (a ++ (b ++ c)) ++ drop (n + k + j) place
put_two a b c place n k m j is_a is_b sum =
    let both : length (a ++ b) ≡ m = omega (arith, length-append a b, is_a, is_b, sum) in
    ap (λ l. put_mid m j l c) (put_behind a (drop n place) b n k is_a)
    ∙ put_behind (a ++ b) (drop k (drop n place)) c m j both
    ∙ ap (λ l. l ++ drop j (drop k (drop n place))) (append_assoc a b c)
    ∙ ap (λ l. (a ++ (b ++ c)) ++ l) (ap (drop j) (drop-drop k n place) ∙ drop-drop j (n + k) place)

-- a text after those of a buffer
put_text : (old rest place text : List ℕ) (used n : ℕ) → used ≤ length old → n ≤ length place → take n place ≡ text
    → take (used + n) (take used old ++ (place ++ rest)) ≡ take used old ++ text
put_text old rest place text used n within fits is =
    let front = take used old in
    let long : used ≡ length front = omega (arith, within, length-take used old) in
    ap (λ m. take (m + n) (front ++ (place ++ rest))) long ∙ take-append-add front (place ++ rest) n
    ∙ ap (λ l. front ++ l) (take-append-le n place rest fits ∙ is)

take-take : (m n : ℕ) (xs : List ℕ) → m ≤ n → take m (take n xs) ≡ take m xs
take-take zero n xs le = refl
take-take (suc m) zero xs le = absurd (omega (arith, le))
take-take (suc m) (suc n) [] le = refl
take-take (suc m) (suc n) (x ∷ xs) le = ap (λ l. x ∷ l) (take-take m n xs (omega (arith, le)))

-- the same where the list of bytes is put together again
pub put_written : (old rest place text tail : List ℕ) (used n len : ℕ) → used ≤ length old → n ≤ length place → used + n ≤ len → take n place ≡ text
    → take (used + n) (take len (take used old ++ (place ++ rest) ++ tail)) ≡ take used old ++ text
put_written old rest place text tail used n len within fits enough is =
    take-take (used + n) len (take used old ++ (place ++ rest) ++ tail) enough
    ∙ ap (take (used + n)) (append_assoc (take used old) (place ++ rest) tail ∙ ap (λ l. take used old ++ l) (append_assoc place rest tail))
    ∙ put_text old (rest ++ tail) place text used n within fits is
