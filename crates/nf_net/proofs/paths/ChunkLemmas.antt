-- What the chunks of one unit spell, among good chunks: the unit's record, if they have it, and once.
use Rattle.proof_machines.proofs.unit.UnitPieces.{cons_option_is}
use Rattle.nf_net.proofs.Words.{◌≡◌, ℕ, ◌+◌, ◌≤◌, false, cond, Option, Some, List, [], ◌∷◌, ◌++◌, map, refl, sym, ap, ◌∙◌, subst, arith, if◌then◌else◌, is_some}
use Rattle.nf_net.proofs.Words.{option_to_list, flat_map, option_map_or, map-append, filter-append, Chunk, Semantics, Piece, units_in, same_unit, is_among}
use Rattle.nf_net.proofs.Words.{spelled, same_unit-true, records, Each, each_map, Frame, record_at, is_chunk_of, spelled_of, IsChunk, units_same, entries}
use Rattle.nf_net.proofs.Words.{outline_piece, Given, place, AreGoodChunks, Unit, split}
use Rattle.std.specs.Prelude.{filter}
use Rattle.move_op.specs.Move.{chunks_of}
use Rattle.proof_machines.proofs.unit.Real.{see}
use Rattle.proof_machines.proofs.unit.Seen.{is_among-units}
use Rattle.proof_outlines.proofs.joined.UnitCounts.{times, times_from_distinct}
use Rattle.proof_outlines.proofs.joined.Joined.{IsGoodChunk}

-- records, as the unit's chunks spell them
abbrev pub as_spelled : {R : Type 0} → Unit → List R → List (Option (Unit × R))
as_spelled u rs = map (λ r. Some (u, r)) rs

module _ {R : Type 0} (f : Semantics R) (u : Unit) where
  pub spelled-append : (xs ys : List Chunk) → spelled_of f u (xs ++ ys) ≡ spelled_of f u xs ++ spelled_of f u ys
  spelled-append xs ys =
      ap (map (spelled f)) (filter-append (is_chunk_of u) xs ys) ∙ map-append (spelled f) (filter (is_chunk_of u) xs) (filter (is_chunk_of u) ys)

  pub spelled-all : {X : Type 0} (of : X → List Chunk) (xs : List X) → spelled_of f u (flat_map of xs) ≡ flat_map (λ x. spelled_of f u (of x)) xs
  spelled-all of [] = refl
  spelled-all of (x ∷ xs) = spelled-append (of x) (flat_map of xs) ∙ ap (λ v. spelled_of f u (of x) ++ v) (spelled-all of xs)

  module _ (p : List ℕ → Option ℕ) where
    -- a chunk that spells an entry
    of_unit : (c : Chunk) (h : IsChunk f p c) → is_chunk_of u c ≡ same_unit u h.entry.0
    of_unit c h = ap (λ o. option_map_or (same_unit u) o false) h.unit

    entries_more : (c : Chunk) (cs : List Chunk) (h : IsChunk f p c) → entries f (c ∷ cs) ≡ h.entry ∷ entries f cs
    entries_more c cs h = let is = h.spells in rw is refl

    pub spelled_more : (c : Chunk) (cs : List Chunk) (h : IsChunk f p c)
        → spelled_of f u (c ∷ cs) ≡ map (spelled f) (cond (same_unit u h.entry.0) (c ∷ filter (is_chunk_of u) cs) (filter (is_chunk_of u) cs))
    spelled_more c cs h = ap (λ b. map (spelled f) (cond b (c ∷ filter (is_chunk_of u) cs) (filter (is_chunk_of u) cs))) (of_unit c h)

    none_spelled : (cs : List Chunk) → Each (IsChunk f p) cs → times u (entries f cs) ≡ 0 → spelled_of f u cs ≡ []
    none_spelled [] h none = refl
    none_spelled (c ∷ cs) h none =
        spelled_more c cs h.0 ∙ split (same_unit u h.0.entry.0)
        (λ b. (if b then 1 else 0) + times u (entries f cs) ≡ 0 → map (spelled f) (cond b (c ∷ filter (is_chunk_of u) cs) (filter (is_chunk_of u) cs)) ≡ [])
        (λ _ e. absurd (omega (arith, e))) (λ _ e. none_spelled cs h.1 (omega (arith, e))) (ap (times u) (sym (entries_more c cs h.0)) ∙ none)

    one_spelled : (cs : List Chunk) → Each (IsChunk f p) cs → times u (entries f cs) ≤ 1
        → spelled_of f u cs ≡ as_spelled u (option_to_list (record_at u (entries f cs)))
    one_spelled [] h few = refl
    one_spelled (c ∷ cs) h few =
        spelled_more c cs h.0
        ∙ split (same_unit u h.0.entry.0)
        (λ b. (if b then 1 else 0) + times u (entries f cs) ≤ 1 → map (spelled f) (cond b (c ∷ filter (is_chunk_of u) cs) (filter (is_chunk_of u) cs))
        ≡ as_spelled u (option_to_list (cond b (Some h.0.entry.1) (record_at u (entries f cs)))))
        (λ on e.
        let none = none_spelled cs h.1 (omega (arith, e)) in
        let same : u ≡ h.0.entry.0 = same_unit-true u h.0.entry.0 on in
        ap (λ v. spelled f c ∷ v) none ∙ ap (λ o. o ∷ []) (h.0.spells ∙ ap (λ v. Some (v, h.0.entry.1)) (sym same)))
        (λ _ e. one_spelled cs h.1 (omega (arith, e))) (subst (λ es. times u es ≤ 1) (entries_more c cs h.0) few)
        ∙ ap (λ es. as_spelled u (option_to_list (record_at u es))) (sym (entries_more c cs h.0))

pub all_chunks : {R : Type 0} (f : Semantics R) (g : Given) (cs : List Chunk) → AreGoodChunks f g cs → Each (IsChunk f (place g)) cs
all_chunks f g cs h = each_map {P = (IsGoodChunk f g)} {Q = (IsChunk f (place g))} (λ y k. k.chunk) cs h.each

module _ {R : Type 0} (f : Semantics R) (g : Given) (u : Unit) where
  -- good chunks spell the unit's record where they have it
  pub good_spelled : (cs : List Chunk) → AreGoodChunks f g cs → spelled_of f u cs ≡ as_spelled u (option_to_list (record_at u (entries f cs)))
  good_spelled cs h = one_spelled f u (place g) cs (all_chunks f g cs h) (times_from_distinct (entries f cs) h.distinct u)

  -- its unit is among theirs where they have its record
  pub good_units : (cs : List Chunk) → AreGoodChunks f g cs → is_among (units_in cs) u ≡ is_some (record_at u (entries f cs))
  good_units cs h = ap (λ us. is_among us u) (units_same f (place g) cs (all_chunks f g cs h)) ∙ is_among-units u (entries f cs)

  -- pieces, as the unit sees them
  pub pieces_spelled : (v : Frame) → v.unit ≡ u → (ps : List Piece) → Each (λ p. AreGoodChunks f g p.chunks) ps
      → spelled_of f u (chunks_of ps) ≡ as_spelled u (records (map (see v) (map (outline_piece f) ps)))
  pieces_spelled v at [] h = refl
  pieces_spelled v at (p ∷ ps) h =
      spelled-append f u p.chunks (chunks_of ps)
      ∙ ap (λ xs. xs ++ spelled_of f u (chunks_of ps))
      (good_spelled p.chunks h.0 ∙ ap (λ k. as_spelled u (option_to_list (record_at k (entries f p.chunks)))) (sym at))
      ∙ ap (λ xs. as_spelled u (option_to_list (record_at v.unit (entries f p.chunks))) ++ xs) (pieces_spelled v at ps h.1)
      ∙ sym (map-append (λ r. Some (u, r)) (option_to_list (record_at v.unit (entries f p.chunks))) (records (map (see v) (map (outline_piece f) ps))))
      ∙ ap (as_spelled u) (sym (cons_option_is _ (records (map (see v) (map (outline_piece f) ps)))))
