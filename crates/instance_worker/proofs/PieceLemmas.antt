-- What is left to send after one more piece, and how many chunks are selected at most.
use Rattle.std.proofs.Common.{◌≡◌, ℕ, zero, suc, ◌<◌, ◌≤◌, true, false, List, [], ◌∷◌, ◌++◌, map}
use Rattle.std.proofs.Common.{length, take, drop, refl, sym, ap, ◌∙◌, arith, append_assoc, length-drop}
use Rattle.std.specs.Prelude.{nat_le}
use Rattle.std.proofs.lemmas.Bool.Decides.{nat_tests}
use Rattle.std.proofs.lemmas.List.{length-map, take-append-le, drop-append-le, take_all, drop_all}
use Rattle.std.specs.FinMap as finite
use Rattle.std.specs.FinMap.{len-entries}
use Rattle.flow_filter.specs.declared.filter.Filter.{Filter}
use Rattle.nf_function.specs.declared.chunk.Chunk.{Chunk}
use Rattle.nf_function.specs.Units.{takes}
use Rattle.nf_function.specs.Semantics.{Semantics}
use Rattle.nf_msgs.specs.declared.msg.Msg.{Msg}
use Rattle.nf_msgs.specs.declared.msg.Piece.{Piece as APiece}
use Rattle.nf_msgs.specs.declared.msg.Msg.TheVariants.{Piece}
use Rattle.state_chunk.specs.Format.{record_chunk}
use Rattle.record_table.specs.Table.{Records, taken_by}
use Rattle.record_table.specs.Chunks.{chunks_of}
use Rattle.record_table.proofs.SortedEntries.{len_parts}
use Rattle.instance_worker.specs.declared.pieces.WholePieces.{WholePieces}
use Rattle.instance_worker.specs.declared.pieces.TheConstants.{MOST_CHUNKS}
use Rattle.instance_worker.specs.Pieces.{pieces_from, newest_version, piece_of}
use Rattle.instance_worker.specs.Instance.{to_controller}

pub at_most : (a b : ℕ) → a ≤ b → nat_le a b ≡ true
at_most a b h = grind (arith, nat_tests)

pub more_than : (a b : ℕ) → b < a → nat_le a b ≡ false
more_than a b h = grind (arith, nat_tests)

module _ (whole : WholePieces) where
  -- few chunks are one piece
  pub cut_short : (n : ℕ) (chunks : List Chunk) → length chunks ≤ MOST_CHUNKS → pieces_from whole n chunks ≡ piece_of whole true chunks ∷ []
  unfolding pieces_from
  cut_short zero chunks short = refl
  cut_short (suc n) chunks short = rw (at_most (length chunks) MOST_CHUNKS short) refl

  -- of more, the first are a piece
  pub cut_long : (n : ℕ) (chunks : List Chunk) → MOST_CHUNKS < length chunks
      → pieces_from whole (suc n) chunks ≡ piece_of whole false (take MOST_CHUNKS chunks) ∷ pieces_from whole n (drop MOST_CHUNKS chunks)
  unfolding pieces_from
  cut_long n chunks long = rw (more_than (length chunks) MOST_CHUNKS long) refl

-- how chunks are sent: the number of their move, what each piece says of all of them, and all that is sent in the end
pub record Sending : Type 0 where
  pub op : ℕ
  pub whole : WholePieces
  pub all : List (ℕ × Msg)

-- these chunks are left to send after what was sent, so that all is sent
pub record IsLeft (sending : Sending) (left : List Chunk) (sent : List (ℕ × Msg)) : Type 0 where
  pub most : ℕ
  pub enough : length left ≤ most
  pub sends : sent ++ to_controller (map (Piece sending.op) (pieces_from sending.whole most left)) ≡ sending.all

module _ (sending : Sending) (left : List Chunk) (sent : List (ℕ × Msg)) where
  -- one more piece is sent
  pub left_more : (next chunks : List Chunk) (piece : APiece) (more : List (ℕ × Msg)) → IsLeft sending left sent → MOST_CHUNKS < length left
      → next ≡ drop MOST_CHUNKS left
      → chunks ≡ take MOST_CHUNKS left → piece ≡ piece_of sending.whole false chunks → more ≡ sent ++ to_controller (Piece sending.op piece ∷ [])
      → IsLeft sending next more
  left_more next chunks piece more is long rest first made sends = by is.most is.enough is.sends
    where
      by : (n : ℕ) → length left ≤ n → sent ++ to_controller (map (Piece sending.op) (pieces_from sending.whole n left)) ≡ sending.all
          → IsLeft sending next more
      by zero enough e = absurd (omega arith)
      by (suc n) enough e = record {
        most = n;
        enough = rw rest (omega (arith, length-drop MOST_CHUNKS left));
        sends = rw (sends, made, first, rest)
            (append_assoc sent _ _ ∙ ap (λ ps. sent ++ to_controller (map (Piece sending.op) ps)) (sym (cut_long sending.whole n left long)) ∙ e);
      }

  -- the last piece is sent
  pub left_last : (chunks : List Chunk) (piece : APiece) (more : List (ℕ × Msg)) → IsLeft sending left sent → length left ≤ MOST_CHUNKS → chunks ≡ left
      → piece ≡ piece_of sending.whole true chunks → more ≡ sent ++ to_controller (Piece sending.op piece ∷ []) → more ≡ sending.all
  left_last chunks piece more is short same made sends =
      rw (sends, made, same) (ap (λ ps. sent ++ to_controller (map (Piece sending.op) ps)) (sym (cut_short sending.whole is.most left short)) ∙ is.sends)

-- no more chunks are selected than records are live
pub few_selected : {R : Type 0} (f : Semantics R) (filter : Filter) (m : Records R) → length (chunks_of f (taken_by filter m)) ≤ finite.len m
few_selected f filter m =
    omega (arith, length-map (finite.entries (taken_by filter m)) (λ e. record_chunk f e.0 e.1), len-entries (taken_by filter m), len_parts m (takes filter))

-- the highest version is at least 1
pub least_version : (chunks : List Chunk) → 1 ≤ newest_version chunks
least_version [] = omega arith
least_version (chunk ∷ chunks) = omega (arith, least_version chunks)

-- the first of two lists, and the second, by the length of the first
pub front_taken : (xs ys all : List Chunk) (n : ℕ) → length xs ≡ n → xs ++ ys ≡ all → xs ≡ take n all
front_taken xs ys all n long whole = sym (ap (take n) (sym whole) ∙ take-append-le n xs ys (omega arith) ∙ take_all n xs (omega arith))

pub rest_dropped : (xs ys all : List Chunk) (n : ℕ) → length xs ≡ n → xs ++ ys ≡ all → ys ≡ drop n all
rest_dropped xs ys all n long whole =
    sym (ap (drop n) (sym whole) ∙ drop-append-le n xs ys (omega arith) ∙ ap (λ zs. zs ++ ys) (drop_all n xs (omega arith)))
