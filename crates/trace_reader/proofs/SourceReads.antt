-- What several reads in a row take.
use Rattle.std.proofs.Common.{◌≡◌, ℕ, ◌+◌, ◌-◌, ◌≤◌, ◌<◌, ◌==◌, false, List, ◌++◌, Option, None, Some, length, take}
use Rattle.std.proofs.Common.{drop, ap, sym, ◌∙◌, subst, arith, nat_le, inl, inr, Bool, length-drop, length-append}
use Rattle.std.proofs.Math.Seq.{take-append-add, drop-append_seam, drop-length, take-length}
use Rattle.std.proofs.lemmas.List.{length-take-le, take-append-le, drop-drop}
use Rattle.std.specs.Io.KnownBytes.{Consumes}
use Rattle.std.proofs.KnownBytes.{Consumes-trans}
use Rattle.std.proofs.lemmas.Bool.{le-leb, lt-leb}
use Rattle.std.proofs.lemmas.Bool.Decides.{eqb_tells}
use borrow.Rule.Slice.PartMut.{put_mid, post_of}
use Rattle.trace_reader.specs.Takes.{Fills, Skips, body, BodyTaken, TakesBody}

-- what was read behind the filled front makes the front longer
pub filled_more : (a b c : Option (List ℕ)) (xs ys : List ℕ) (at k n : ℕ) → at ≤ length xs → n ≤ length ys → Consumes a b (take at xs)
    → Consumes b c (take n ys) → Consumes a c (take (at + n) (put_mid at k xs ys))
filled_more a b c xs ys at k n within fits p q =
    let long : length (take at xs) ≡ at = length-take-le at xs within in
    let joined : take (at + n) (take at xs ++ (ys ++ post_of at k xs)) ≡ take at xs ++ take n ys =
    ap (λ m. take (m + n) (take at xs ++ (ys ++ post_of at k xs))) (sym long) ∙ take-append-add (take at xs) (ys ++ post_of at k xs) n
    ∙ ap (λ l. take at xs ++ l) (take-append-le n ys (post_of at k xs) fits) in
    subst (Consumes a c) (sym joined) (Consumes-trans a b c _ _ p q)

split_off : (bytes piece ys : List ℕ) (done n : ℕ) → done ≤ length bytes → n ≤ length piece → drop done bytes ≡ take n piece ++ ys
    → (done + n ≤ length bytes) × (ys ≡ drop (done + n) bytes)
split_off bytes piece ys done n within fits e =
    let long : length (take n piece) ≡ n = length-take-le n piece fits in
    let count : length bytes - done ≡ n + length ys = sym (length-drop done bytes) ∙ ap length e ∙ length-append (take n piece) ys
    ∙ ap (λ m. m + length ys) long in
    let rest : drop n (drop done bytes) ≡ ys = ap (drop n) e ∙ ap (λ m. drop m (take n piece ++ ys)) (sym long) ∙ drop-append_seam (take n piece) ys in
    (omega arith, sym rest ∙ drop-drop n done bytes)

-- what was read behind the skipped front makes the front longer
pub skipped_more : (b c : Option (List ℕ)) (bytes piece : List ℕ) (done n : ℕ) → done ≤ length bytes → b ≡ Some (drop done bytes)
    → n ≤ length piece → Consumes b c (take n piece) → (done + n ≤ length bytes) × (c ≡ Some (drop (done + n) bytes))
skipped_more b None bytes piece done n within e fits p = absurd (subst (λ o. Consumes o None (take n piece)) e p)
skipped_more b (Some ys) bytes piece done n within e fits p =
    let split = split_off bytes piece ys done n within fits (subst (λ o. Consumes o (Some ys) (take n piece)) e p) in
    (split.0, ap Some split.1)

-- the source ended in the front
pub body_short : (a b : Option (List ℕ)) (front : List ℕ) (len n : ℕ) → Fills a b front n → n < length front → length front ≤ len
    → TakesBody a b (body front len) false
body_short a b front len n fills short fits bytes told =
    let f = fills bytes told in
    let all : n ≡ length bytes = omega (arith, f.0) in
    (sym (lt-leb len (length bytes) (omega arith)), f.2 ∙ ap Some (ap (λ m. drop m bytes) all ∙ drop-length bytes))

-- the front was filled, and then the rest was skipped as far as it is there
pub body_rest : (a b c : Option (List ℕ)) (front : List ℕ) (len n m : ℕ) → Fills a b front n → length front ≤ n → length front ≤ len
    → Skips b c (len - length front) m → TakesBody a c (body front len) (m == (len - length front))
body_rest a b c front len n m fills full fits skips bytes told =
    let f = fills bytes told in
    let s = skips (drop n bytes) f.2 in
    let same : n ≡ length front = omega (arith, f.0) in
    let rest : length (drop n bytes) ≡ length bytes - n = length-drop n bytes in
    let held : front ≡ take (length front) bytes = sym (take-length front) ∙ ap (λ k. take k front) (sym same) ∙ f.1 ∙ ap (λ k. take k bytes) same in
    let left : c ≡ Some (drop (n + m) bytes) = s.1 ∙ ap Some (drop-drop m n bytes) in
    let Goal : Bool → Type 0 = λ b. (b ≡ nat_le len (length bytes)) × BodyTaken bytes c (body front len) b in
    elim (eqb_tells m (len - length front)) as (λ _. Goal (m == (len - length front))) [
      | inl e ↦ (let all : n + m ≡ len = omega (arith, e.1) in
          subst Goal (sym e.0) (sym (le-leb len (length bytes) (omega (arith, f.0, s.0))), (held, left ∙ ap (λ k. Some (drop k bytes)) all)))
      | inr e ↦ (let all : n + m ≡ length bytes = omega (arith, f.0, s.0, e.1) in
          subst Goal (sym e.0)
          (sym (lt-leb len (length bytes) (omega (arith, f.0, s.0, e.1))), left ∙ ap Some (ap (λ k. drop k bytes) all ∙ drop-length bytes)))
    ]
