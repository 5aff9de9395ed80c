-- Lists over the first members: how they grow with one member more.
use Rattle.strong_share.proofs.Words.{◌≡◌, ℕ, suc, ◌+◌, Bool, true, false, List, [], ◌∷◌, ◌++◌, map, refl, sym, ap, ◌∙◌, append_assoc, append-nil, arith}
use Rattle.strong_share.proofs.Words.{if◌then◌else◌, ◌==◌, not, filter, map-append, filter-append, map-range_with_len_more, Chunk, Msg, sync_to, syncs}
use Rattle.std.proofs.Common.{map-id}
use Rattle.std.specs.List.{range_with_len}
use Rattle.strong_share.specs.Tables.{others}

members_more : (n : ℕ) → range_with_len 0 (suc n) ≡ range_with_len 0 n ++ n ∷ []
members_more n =
    let one : suc n ≡ n + 1 = omega arith in
    ap (range_with_len 0) one ∙ sym (map-id (range_with_len 0 (n + 1)))
    ∙ map-range_with_len_more (λ i. i) 0 n n (omega arith) ∙ ap (λ xs. xs ++ n ∷ []) (map-id (range_with_len 0 n))

-- what goes to one member
abbrev pub sync_of : ℕ → Chunk → ℕ → List (ℕ × Msg)
sync_of one chunk i = if i == one then [] else sync_to chunk i ∷ []

others_more : (n one : ℕ) → others (suc n) one ≡ others n one ++ (if n == one then [] else n ∷ [])
others_more n one =
    ap (filter (λ i. not (i == one))) (members_more n)
    ∙ filter-append (λ i. not (i == one)) (range_with_len 0 n) (n ∷ [])
    ∙ ap (λ xs. others n one ++ xs) (turned (n == one))
  where
    turned : (b : Bool) → (if not b then n ∷ [] else []) ≡ (if b then [] else n ∷ [])
    turned true = refl
    turned false = refl

pub syncs_more : (n one : ℕ) (chunk : Chunk) → syncs (suc n) one chunk ≡ syncs n one chunk ++ sync_of one chunk n
syncs_more n one chunk =
    ap (map (sync_to chunk)) (others_more n one)
    ∙ map-append (sync_to chunk) (others n one) (if n == one then [] else n ∷ [])
    ∙ ap (λ xs. syncs n one chunk ++ xs) (inside (n == one))
  where
    inside : (b : Bool) → map (sync_to chunk) (if b then [] else n ∷ []) ≡ (if b then [] else sync_to chunk n ∷ [])
    inside true = refl
    inside false = refl

-- one member more gets the chunk, but for the one
pub sync_sent : {N : Type 0} (before : List (ℕ × Msg)) (notes : N) (n one : ℕ) (chunk : Chunk) → (n == one) ≡ false
    → ◌≡◌ {A = List (ℕ × Msg) × N} ((before ++ syncs n one chunk) ++ sync_to chunk n ∷ [], notes) (before ++ syncs (n + 1) one chunk, notes)
sync_sent before notes n one chunk other =
    let more : n + 1 ≡ suc n = omega arith in
    ap (λ xs. (xs, notes))
    (append_assoc before (syncs n one chunk) (sync_to chunk n ∷ [])
    ∙ ap (λ b. before ++ (syncs n one chunk ++ (if b then [] else sync_to chunk n ∷ []))) (sym other)
    ∙ ap (λ xs. before ++ xs) (sym (ap (λ k. syncs k one chunk) more ∙ syncs_more n one chunk)))

pub none_sent : (n one : ℕ) (chunk : Chunk) → (n == one) ≡ true → syncs (n + 1) one chunk ≡ syncs n one chunk
none_sent n one chunk same =
    let more : n + 1 ≡ suc n = omega arith in
    ap (λ k. syncs k one chunk) more ∙ syncs_more n one chunk ∙ ap (λ b. syncs n one chunk ++ (if b then [] else sync_to chunk n ∷ [])) same
    ∙ append-nil (syncs n one chunk)
