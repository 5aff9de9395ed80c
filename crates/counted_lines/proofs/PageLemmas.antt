-- How a block goes on a page where another byte takes the place of its last.
use Rattle.std.proofs.Common.{◌≡◌, ◌<◌, ℕ, ◌+◌, ◌-◌, List, [], ◌∷◌, ◌++◌, length, take, ap, sym, ◌∙◌, append_assoc, arith, get_or}
use Rattle.std.proofs.Math.Seq.{take-length}
use Rattle.std.proofs.lemmas.List.{take_more}

-- a text that has a last byte
split_last : (xs : List ℕ) → 0 < length xs → (last : ℕ) × (xs ≡ take (length xs - 1) xs ++ last ∷ [])
split_last xs some =
    let at : length xs ≡ length xs - 1 + 1 = omega (arith, some) in
    (get_or xs (length xs - 1) 0, sym (take-length xs) ∙ ap (λ n. take n xs) at ∙ take_more xs (length xs - 1) 0 (omega (arith, some)))

-- a block, and another last byte
pub put_last : (old block after : List ℕ) (byte : ℕ) → 0 < length block
    → ((front : List ℕ) (last : ℕ) → old ++ block ≡ front ++ last ∷ [] → after ≡ front ++ byte ∷ [])
    → after ≡ old ++ (take (length block - 1) block ++ byte ∷ [])
put_last old block after byte some set =
    let split = split_last block some in
    let front = take (length block - 1) block in
    set (old ++ front) split.0 (ap (λ l. old ++ l) split.1 ∙ sym (append_assoc old front (split.0 ∷ []))) ∙ append_assoc old front (byte ∷ [])
