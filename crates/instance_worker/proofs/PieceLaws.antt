-- Pieces, one after another, are all chunks; none has too many; the last alone is marked.
use Rattle.std.proofs.Common.{◌≡◌, ℕ, zero, suc, ◌≤◌, Bool, true, false, List, [], ◌∷◌, ◌++◌, map, length}
use Rattle.std.proofs.Common.{take, drop, refl, ap, ◌∙◌, arith, length-drop, append-nil, replicate}
use Rattle.std.specs.Prelude.{nat_le, if◌then◌else◌}
use Rattle.std.specs.List.{All, flat_map}
use Rattle.std.proofs.lemmas.List.{take-append-drop, length-take}
use Rattle.std.proofs.lemmas.List.Elements.{All-nil, All-cons}
use Rattle.std.proofs.lemmas.Bool.{leb-true, leb-false}
use Rattle.nf_function.specs.declared.chunk.Chunk.{Chunk}
use Rattle.nf_msgs.specs.declared.msg.Piece.{Piece}
use Rattle.instance_worker.specs.declared.pieces.WholePieces.{WholePieces}
use Rattle.instance_worker.specs.declared.pieces.TheConstants.{MOST_CHUNKS}
use Rattle.instance_worker.specs.Pieces.{pieces_from, piece_of, whole_of, PieceLaws}

-- what holds either way
either_way : {X : Type 0} (P : X → Type 0) (b : Bool) (x y : X) → (b ≡ true → P x) → (b ≡ false → P y) → P (if b then x else y)
either_way P true x y p q = p refl
either_way P false x y p q = q refl

abbrev chunks_in : List Piece → List Chunk
chunks_in ps = flat_map (λ p. p.chunks) ps

abbrev IsMarked : List Piece → Type 0
IsMarked ps = (n : ℕ) × (map (λ p. p.last) ps ≡ replicate n false ++ true ∷ [])

abbrev IsSmall : Piece → Type 0
IsSmall p = length p.chunks ≤ MOST_CHUNKS

module _ (whole : WholePieces) where
  all_there : (n : ℕ) (chunks : List Chunk) → chunks_in (pieces_from whole n chunks) ≡ chunks
  unfolding pieces_from
  all_there zero chunks = append-nil chunks
  all_there (suc n) chunks = either_way (λ ps. chunks_in ps ≡ chunks) (nat_le (length chunks) MOST_CHUNKS) _ _ (λ _. append-nil chunks)
      (λ _. ap (λ cs. take MOST_CHUNKS chunks ++ cs) (all_there n (drop MOST_CHUNKS chunks)) ∙ take-append-drop MOST_CHUNKS chunks)

  all_small : (n : ℕ) (chunks : List Chunk) → length chunks ≤ n → All IsSmall (pieces_from whole n chunks)
  unfolding pieces_from
  all_small zero chunks enough = All-cons IsSmall (piece_of whole true chunks) [] (omega arith) (All-nil IsSmall)
  all_small (suc n) chunks enough = either_way (All IsSmall) (nat_le (length chunks) MOST_CHUNKS) _ _
      (λ short. All-cons IsSmall (piece_of whole true chunks) [] (leb-true _ _ short) (All-nil IsSmall))
      (λ long. All-cons IsSmall (piece_of whole false (take MOST_CHUNKS chunks)) _ (omega (arith, length-take MOST_CHUNKS chunks))
      (all_small n (drop MOST_CHUNKS chunks) (omega (arith, leb-false _ _ long, length-drop MOST_CHUNKS chunks))))

  last_marked : (n : ℕ) (chunks : List Chunk) → IsMarked (pieces_from whole n chunks)
  unfolding pieces_from
  last_marked zero chunks = (0, refl)
  last_marked (suc n) chunks = either_way IsMarked (nat_le (length chunks) MOST_CHUNKS) _ _ (λ _. (0, refl))
      (λ _. let more = last_marked n (drop MOST_CHUNKS chunks) in (suc more.0, ap (λ bs. false ∷ bs) more.1))

pub piece_laws : PieceLaws
piece_laws = record {
  whole = λ chunks. all_there (whole_of chunks) (length chunks) chunks;
  small = λ chunks. all_small (whole_of chunks) (length chunks) chunks (omega arith);
  last = λ chunks. last_marked (whole_of chunks) (length chunks) chunks;
}
