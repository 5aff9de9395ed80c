-- What an instance sends is such as comes in a run.
use Rattle.proof_outlines.proofs.Words.{◌≡◌, ℕ, zero, suc, ◌≤◌, Bool, true, false, Option, Some, None, List, [], ◌∷◌, ◌++◌, map, length, take, drop, refl}
use Rattle.proof_outlines.proofs.Words.{arith, nat_lt, nat_le, option_map, AllByRecursion, keys_of, nat_tests, length-map, length-drop, Filter, takes}
use Rattle.proof_outlines.proofs.Words.{Semantics, is_sound, record_chunk, Records, same_unit, taken_by, AreSound, sound_retain_keys, valid_entries}
use Rattle.proof_outlines.proofs.Words.{distinct_entries, spelled-record_chunk, FullCell, Piece, switch_node, WholePieces, piece_of, whole_of, pieces}
use Rattle.proof_outlines.proofs.Words.{to_controller, chunk_told, EachSent, Each, Chunks, by_if, Unit, Msg, IsDistinct, FunctionLaws, pieces_from}
use Rattle.std.specs.FinMap as finite
use Rattle.record_table.specs.Chunks.{chunks_of}
use Rattle.proof_outlines.proofs.joined.Words.{chunk_of, AreValid, entries_made, valid_take, valid_drop, map-take, map-drop, all_each, Given, IsGoodChunk}
use Rattle.proof_outlines.proofs.joined.Words.{AreGoodChunks, IsGoodPiece, Label}
use Rattle.proof_outlines.proofs.joined.InstanceKeeps.{unit_is_fit}

-- a front and a rest of distinct units
module _ {R : Type 0} where
  apart_take : (u : Unit) (n : ℕ) (es : Chunks R) → AllByRecursion (λ v. same_unit u v ≡ false) (keys_of es)
      → AllByRecursion (λ v. same_unit u v ≡ false) (keys_of (take n es))
  apart_take u zero es h = tt
  apart_take u (suc n) [] h = tt
  apart_take u (suc n) (e ∷ es) h = (h.0, apart_take u n es h.1)

  distinct_take : (n : ℕ) (es : Chunks R) → IsDistinct same_unit (keys_of es) → IsDistinct same_unit (keys_of (take n es))
  unfolding IsDistinct
  distinct_take zero es d = tt
  distinct_take (suc n) [] d = tt
  distinct_take (suc n) (e ∷ es) d = (apart_take e.0 n es d.0, distinct_take n es d.1)

  distinct_drop : (n : ℕ) (es : Chunks R) → IsDistinct same_unit (keys_of es) → IsDistinct same_unit (keys_of (drop n es))
  unfolding IsDistinct
  distinct_drop zero es d = d
  distinct_drop (suc n) [] d = tt
  distinct_drop (suc n) (e ∷ es) d = distinct_drop n es d.1

not_more : (a b : ℕ) → b ≤ a → nat_lt a b ≡ false
not_more a b h = grind (arith, nat_tests)

front_few : (n : ℕ) {X : Type 0} (xs : List X) → length (take n xs) ≤ length xs
front_few zero xs = omega arith
front_few (suc n) [] = omega arith
front_few (suc n) (x ∷ xs) = let rest = front_few n xs in omega (arith, rest)

module _ {R : Type 0} (f : Semantics R) (laws : FunctionLaws f) (g : Given) where
  -- a chunk that was made of a valid record is good
  made_good : (u : Unit) (r : R) → f.is_valid u r ≡ true → IsGoodChunk f g (chunk_of f laws (u, r))
  made_good u r valid = record {
    chunk = record { entry = (u, r); spells = spelled-record_chunk f laws u r valid; unit = refl };
    valid = valid;
    fits = unit_is_fit f.kind u (laws.unit u r valid);
  }

  each_good : (es : Chunks R) → AreValid f laws es → Each (IsGoodChunk f g) (map (chunk_of f laws) es)
  each_good [] h = tt
  each_good (e ∷ es) h = (made_good e.0 e.1 h.0, each_good es h.1)

  all_good : (es : Chunks R) → AreValid f laws es → IsDistinct same_unit (keys_of es) → AreGoodChunks f g (map (chunk_of f laws) es)
  all_good es valid distinct = record { each = each_good es valid; distinct = rw (entries_made f laws es valid) distinct }

  one_good : (whole : WholePieces) (last : Bool) (es : Chunks R) → length es ≤ whole.total → AreValid f laws es → IsDistinct same_unit (keys_of es)
      → IsGoodPiece f g (piece_of whole last (map (chunk_of f laws) es))
  one_good whole last es few valid distinct =
      record { good = all_good es valid distinct; few = not_more whole.total _ (rw (length-map es (chunk_of f laws)) few) }

  -- the pieces of such chunks
  cut_good : (whole : WholePieces) (n : ℕ) (es : Chunks R) → length es ≤ whole.total → AreValid f laws es → IsDistinct same_unit (keys_of es)
      → Each (IsGoodPiece f g) (pieces_from whole n (map (chunk_of f laws) es))
  unfolding pieces_from
  cut_good whole zero es few valid distinct = (one_good whole true es few valid distinct, tt)
  cut_good whole (suc n) es few valid distinct =
      by_if (Each (IsGoodPiece f g)) (nat_le (length (map (chunk_of f laws) es)) 64) (one_good whole true es few valid distinct, tt)
      (rw (map-take f laws 64 es, map-drop f laws 64 es) (
        one_good whole false (take 64 es) (let front = front_few 64 es in omega (arith, front, few)) (valid_take f laws 64 es valid)
            (distinct_take 64 es distinct),
        cut_good whole n (drop 64 es) (let rest = length-drop 64 es in omega (arith, rest, few)) (valid_drop f laws 64 es valid)
            (distinct_drop 64 es distinct),
      ))

  taken_good : (g' : Filter) (live : Records R) → AreSound f live → Each (IsGoodPiece f g) (pieces (chunks_of f (taken_by g' live)))
  taken_good g' live sound =
      let es = finite.entries (taken_by g' live) in
      let valid = all_each (λ e. f.is_valid e.0 e.1 ≡ true) es (valid_entries f (taken_by g' live) (sound_retain_keys f live (takes g') sound)) in
      cut_good (whole_of (map (chunk_of f laws) es)) (length (map (chunk_of f laws) es)) es
      (let long = length-map es (chunk_of f laws) in omega (arith, long)) valid (distinct_entries (taken_by g' live))

  pieces_sent : (k op : ℕ) → 2 ≤ k → (ps : List Piece) → Each (IsGoodPiece f g) ps → EachSent (Label f g) k (to_controller (map (Msg.Piece op) ps))
  pieces_sent k op two [] h = tt
  pieces_sent k op two (p ∷ ps) h = (((two, refl), h.0), pieces_sent k op two ps h.1)

  -- what a stream sends
  pub stream_sends : (k op : ℕ) (g' : Filter) (live : Records R) → 2 ≤ k → AreSound f live
      → EachSent (Label f g) k (to_controller (map (Msg.Piece op) (pieces (chunks_of f (taken_by g' live)))))
  stream_sends k op g' live two sound = pieces_sent k op two (pieces (chunks_of f (taken_by g' live))) (taken_good g' live sound)

  -- what a copy is given
  pub get_sends : (k op : ℕ) (g' : Filter) (live : Records R) → 2 ≤ k → AreSound f live
      → EachSent (Label f g) k (to_controller (Msg.Chunks op (chunks_of f (taken_by g' live)) ∷ []))
  get_sends k op g' live two sound =
      let es = finite.entries (taken_by g' live) in
      let valid = all_each (λ e. f.is_valid e.0 e.1 ≡ true) es (valid_entries f (taken_by g' live) (sound_retain_keys f live (takes g') sound)) in
      (((two, refl), all_good es valid (distinct_entries (taken_by g' live))), tt)

  -- what a share is told of a packet's unit, and the packet's cell
  pub shared_sends : (k op : ℕ) (u : Unit) (o : Option R) (cell : FullCell) → 2 ≤ k → cell.pool ≡ 0 → is_sound f u o ≡ true
      → EachSent (Label f g) k (to_controller (chunk_told op (option_map (record_chunk f u) o)) ++ (switch_node, Msg.Credit cell) ∷ [])
  shared_sends k op u None cell two pool sound = ((two, refl, pool), tt)
  shared_sends k op u (Some r) cell two pool sound = (((two, refl), made_good u r sound), ((two, refl, pool), tt))
