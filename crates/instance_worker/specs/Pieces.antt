-- The pieces in which the chunks of a move are sent. This project's own.
use Rattle.std.specs.Prelude.{◌≡◌, ◌≤◌, ℕ, zero, suc, max, nat_le, Bool, true, false, if◌then◌else◌}
use Rattle.std.specs.Prelude.{List, [], ◌∷◌, map, length, take, drop, slice_index, replicate, ◌++◌}
use Rattle.std.specs.List.{All, flat_map}
use Rattle.nf_function.specs.declared.chunk.Chunk.{Chunk}
use Rattle.nf_msgs.specs.declared.msg.Piece.{Piece}
use Rattle.instance_worker.specs.declared.pieces.WholePieces.{WholePieces}
use Rattle.instance_worker.specs.declared.pieces.TheConstants.{MOST_CHUNKS}
use Rattle.nf_function.specs.Stored.{plain_version}

-- the version of a chunk is its first byte
abbrev pub version_of : Chunk → ℕ
version_of chunk = slice_index chunk.bytes 0

-- the highest version of chunks, and that of records without a time where there is none
abbrev pub newest_version : List Chunk → ℕ
newest_version [] = plain_version
newest_version (chunk ∷ chunks) = max (version_of chunk) (newest_version chunks)

-- a piece
abbrev pub piece_of : WholePieces → Bool → List Chunk → Piece
piece_of whole last chunks = record { chunks = chunks; total = whole.total; newest = whole.newest; last = last }

-- chunks in pieces of 64, and what is left as the last one. The number is at least that of the pieces before the last
unfoldable pub pieces_from : WholePieces → ℕ → List Chunk → List Piece
pieces_from whole zero chunks = piece_of whole true chunks ∷ []
pieces_from whole (suc n) chunks =
    if nat_le (length chunks) MOST_CHUNKS then piece_of whole true chunks ∷ []
    else piece_of whole false (take MOST_CHUNKS chunks) ∷ pieces_from whole n (drop MOST_CHUNKS chunks)

-- what all pieces of these chunks say
abbrev pub whole_of : List Chunk → WholePieces
whole_of chunks = record { total = length chunks; newest = newest_version chunks }

-- the pieces of chunks: one empty piece where there is none
abbrev pub pieces : List Chunk → List Piece
pieces chunks = pieces_from (whole_of chunks) (length chunks) chunks

-- pieces are all chunks in order, no piece has too many, and the last alone is marked so
pub record PieceLaws : Type 0 where
  pub whole : (chunks : List Chunk) → flat_map (λ p. p.chunks) (pieces chunks) ≡ chunks
  pub small : (chunks : List Chunk) → All (λ p. length p.chunks ≤ MOST_CHUNKS) (pieces chunks)
  pub last : (chunks : List Chunk) → (n : ℕ) × (map (λ p. p.last) (pieces chunks) ≡ replicate n false ++ true ∷ [])
