-- What several reads or writes in a row do together.
use Rattle.std.proofs.lemmas.List.{length-take-le, take-append-drop, drop-drop}
use Rattle.std.proofs.Common.{◌≡◌, ℕ, ◌+◌, ◌-◌, ◌≤◌, List, ◌++◌, Option, length, take, drop, ap}
use Rattle.std.proofs.Common.{sym, ◌∙◌, subst, length-drop, append-nil, append_assoc, None, Some}
use Rattle.std.proofs.Math.Seq.{take-length, take-add, take-append_seam}
use Rattle.std.specs.Io.KnownBytes.{Appends, Consumes, Keeps, prepend_known}
use Rattle.std.proofs.KnownBytes.{Appends-trans, Appends-kept}
use Rattle.nf_io.specs.Meaning.{Untouched, StaysOpen, AppendsFront}

-- two calls after each other leave open what each leaves open
pub StaysOpen-trans : {S Rest : Type 0} (is_open : S → Type 0) (kept : Untouched S Rest) (a b c : S)
    → StaysOpen is_open kept a b → StaysOpen is_open kept b c → StaysOpen is_open kept a c
StaysOpen-trans is_open kept a b c p q = record {
  still_open = q.still_open;
  same_loan = q.same_loan ∙ p.same_loan;
  same_rest = q.same_rest ∙ p.same_rest;
}

-- what `&bytes[at..]` is
range_from : (at : ℕ) (bytes : List ℕ) → take (length bytes - at) (drop at bytes) ≡ drop at bytes
range_from at bytes = ap (λ n. take n (drop at bytes)) (sym (length-drop at bytes)) ∙ take-length (drop at bytes)

-- a front was appended, and then n bytes of the rest
pub appended_more : (a b c : Option (List ℕ)) (bytes : List ℕ) (at n : ℕ) → Appends a b (take at bytes)
    → Appends b c (take n (take (length bytes - at) (drop at bytes))) → Appends a c (take (at + n) bytes)
appended_more a b c bytes at n p q =
    subst (Appends a c) (ap (λ l. take at bytes ++ take n l) (range_from at bytes) ∙ sym (take-add at n bytes)) (Appends-trans a b c _ _ p q)

-- a front was appended, and then nothing
pub appended_front : (a b c : Option (List ℕ)) (bytes : List ℕ) (at : ℕ) → at ≤ length bytes → Appends a b (take at bytes) → Keeps b c → AppendsFront a c bytes
appended_front a b c bytes at within p q = (at, within, Appends-kept a b c _ p q)

-- a front of what is left was copied over the front of a buffer, and is no longer left
pub front_moved : (xs ys piece tail : List ℕ) (taken n : ℕ) → ys ≡ xs → piece ≡ take n (take (length ys - taken) (drop taken ys))
    → n ≤ length (take (length ys - taken) (drop taken ys)) → drop taken xs ≡ take n (piece ++ tail) ++ drop (taken + n) xs
front_moved xs ys piece tail taken n same is within =
    let left : take (length ys - taken) (drop taken ys) ≡ drop taken xs = range_from taken ys ∙ ap (drop taken) same in
    let from : piece ≡ take n (drop taken xs) = is ∙ ap (take n) left in
    let len : length piece ≡ n = ap length is ∙ length-take-le n _ within in
    let front : take n (piece ++ tail) ≡ piece = ap (λ k. take k (piece ++ tail)) (sym len) ∙ take-append_seam piece tail in
    sym (take-append-drop n (drop taken xs)) ∙ ap (λ l. l ++ drop n (drop taken xs)) (sym from ∙ sym front)
    ∙ ap (λ l. take n (piece ++ tail) ++ l) (drop-drop n taken xs)

-- of no bytes, none were appended
pub appended_nothing : (a b : Option (List ℕ)) (bytes : List ℕ) (n : ℕ) → n ≡ 0 → Appends a b (take n bytes) → Keeps a b
appended_nothing None b bytes n none p = tt
appended_nothing (Some x) None bytes n none p = absurd p
appended_nothing (Some x) (Some y) bytes n none p = p ∙ ap (λ m. x ++ take m bytes) none ∙ append-nil x

-- the first n bytes of those in front of known bytes were taken
pub prepended_less : (known : Option (List ℕ)) (bytes : List ℕ) (n : ℕ)
    → Consumes (prepend_known bytes known) (prepend_known (drop n bytes) known) (take n bytes)
prepended_less None bytes n = tt
prepended_less (Some left) bytes n = ap (λ l. l ++ left) (sym (take-append-drop n bytes)) ∙ append_assoc (take n bytes) (drop n bytes) left
