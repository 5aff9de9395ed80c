-- The outline of an instance's step on state that it gives or takes is the step of the abstract network.
use Rattle.proof_outlines.proofs.Words.{◌≡◌, ℕ, zero, suc, Bool, true, false, Option, Some, None, List, [], ◌∷◌, map, length, take, drop, refl, sym, ap, ◌∙◌}
use Rattle.proof_outlines.proofs.Words.{if◌then◌else◌, cond, max, nat_le, nat_lt, is_some, All, length-map, All-head, All-tail, Filter, Packet, Site, Chunk}
use Rattle.proof_outlines.proofs.Words.{takes, units_total, Semantics, record_chunk, version_number, Records, AreSound, taken_by, are_good, one_unit}
use Rattle.proof_outlines.proofs.Words.{sound_retain_keys, valid_entries, spelled-record_chunk, Answer, Instance, WholePieces, newest_version, piece_of}
use Rattle.proof_outlines.proofs.Words.{whole_of, pieces, to_controller, on_delete, piece_refusal, piece_put, Chunks, is_nil, Each, live_table, inst_step}
use Rattle.proof_outlines.proofs.Words.{everything, to_ctrl, Unit, Msg, FunctionLaws, records_of, APiece, pieces_from, MoveMsg}
use Rattle.std.specs.FinMap as finite
use Rattle.state_chunk.specs.Format.{record_bytes}
use Rattle.record_table.specs.Chunks.{chunks_of}
use Rattle.instance_worker.specs.Instance.{on_stream, on_put, on_restore}
use Rattle.proof_machines.proofs.unit.Real as real
use Rattle.proof_machines.proofs.unit.Cuts.{marks, chop, is_nil-chop}
use Rattle.proof_machines.proofs.unit.SeenInst.{put_row}
use Rattle.proof_machines.proofs.net.Net as net
use Rattle.proof_outlines.proofs.outline.FiltersApart.{is_whole, unit_fits, takes_whole}
use Rattle.proof_outlines.proofs.outline.Outline.{entries, outline_piece, outline_sends, newest_in, sys, outline_instance}
use Rattle.proof_outlines.proofs.outline.InstanceOutline.{Follows}

module _ {R : Type 0} (f : Semantics R) (laws : FunctionLaws f) where
  -- the chunk of an entry
  abbrev pub chunk_of : Unit × R → Chunk
  chunk_of e = record_chunk f e.0 e.1

  abbrev pub AreValid : Chunks R → Type 0
  AreValid es = Each (λ e. f.is_valid e.0 e.1 ≡ true) es

  pub entries_made : (es : Chunks R) → AreValid es → entries f (map chunk_of es) ≡ es
  entries_made [] h = refl
  entries_made (e ∷ es) h = let one = spelled-record_chunk f laws e.0 e.1 h.0 in rw one (ap (λ xs. e ∷ xs) (entries_made es h.1))

  pub newest_made : (es : Chunks R) → newest_version (map chunk_of es) ≡ newest_in f es
  unfolding record_bytes
  newest_made [] = refl
  newest_made (e ∷ es) = ap (λ n. max (version_number (f.is_timed e.1)) n) (newest_made es)

  pub valid_take : (n : ℕ) (es : Chunks R) → AreValid es → AreValid (take n es)
  valid_take zero es h = tt
  valid_take (suc n) [] h = tt
  valid_take (suc n) (e ∷ es) h = (h.0, valid_take n es h.1)

  pub valid_drop : (n : ℕ) (es : Chunks R) → AreValid es → AreValid (drop n es)
  valid_drop zero es h = h
  valid_drop (suc n) [] h = tt
  valid_drop (suc n) (e ∷ es) h = valid_drop n es h.1

  pub map-take : (n : ℕ) (es : Chunks R) → take n (map chunk_of es) ≡ map chunk_of (take n es)
  map-take zero es = refl
  map-take (suc n) [] = refl
  map-take (suc n) (e ∷ es) = ap (λ xs. chunk_of e ∷ xs) (map-take n es)

  pub map-drop : (n : ℕ) (es : Chunks R) → drop n (map chunk_of es) ≡ map chunk_of (drop n es)
  map-drop zero es = refl
  map-drop (suc n) [] = refl
  map-drop (suc n) (e ∷ es) = map-drop n es

  -- the pieces of chunks that were made of entries are the pieces of the entries
  cut_same : (whole : WholePieces) (n : ℕ) (es : Chunks R) → AreValid es
      → map (outline_piece f) (pieces_from whole n (map chunk_of es)) ≡ marks whole.total whole.newest (chop n es)
  unfolding pieces_from
  cut_same whole zero es h = ap (λ xs. record { chunks = xs; total = whole.total; newest = whole.newest; last = true } ∷ []) (entries_made es h)
  cut_same whole (suc n) es h =
      let few : nat_le (length (map chunk_of es)) 64 ≡ nat_le (length es) 64 = ap (λ k. nat_le k 64) (length-map es chunk_of) in
      rw few (elim (nat_le (length es) 64) as (λ b. map (outline_piece f) (if b then piece_of whole true (map chunk_of es) ∷ []
      else piece_of whole false (take 64 (map chunk_of es)) ∷ pieces_from whole n (drop 64 (map chunk_of es)))
      ≡ marks whole.total whole.newest (if b then es ∷ [] else take 64 es ∷ chop n (drop 64 es))) [
        | true ↦ ap (λ xs. record { chunks = xs; total = whole.total; newest = whole.newest; last = true } ∷ []) (entries_made es h)
        | false ↦
            let front : entries f (take 64 (map chunk_of es)) ≡ take 64 es = ap (entries f) (map-take 64 es) ∙ entries_made (take 64 es) (valid_take 64 es h) in
            let rest : map (outline_piece f) (pieces_from whole n (drop 64 (map chunk_of es))) ≡ marks whole.total whole.newest (chop n (drop 64 es)) =
            ap (λ cs. map (outline_piece f) (pieces_from whole n cs)) (map-drop 64 es) ∙ cut_same whole n (drop 64 es) (valid_drop 64 es h) in
            let last : is_nil (chop n (drop 64 es)) ≡ false = is_nil-chop n (drop 64 es) in
            rw (front, rest, last) refl
      ])

  pieces_same : (es : Chunks R) → AreValid es → map (outline_piece f) (pieces (map chunk_of es)) ≡ marks (length es) (newest_in f es) (chop (length es) es)
  pieces_same es h =
      cut_same (whole_of (map chunk_of es)) (length (map chunk_of es)) es h
      ∙ ap (λ k. marks k (newest_version (map chunk_of es)) (chop k es)) (length-map es chunk_of)
      ∙ ap (λ k. marks (length es) k (chop (length es) es)) (newest_made es)

pub all_each : {X : Type 0} (P : X → Type 0) (xs : List X) → All P xs → Each P xs
all_each P [] h = tt
all_each P (x ∷ xs) h = (All-head P x xs h, all_each P xs (All-tail P x xs h))

-- State that an instance gives and takes.
module _ {R : Type 0} (f : Semantics R) where
  -- what holds of the live records of each instance in a run: they are valid, and for units that packets have
  pub record HasRecords (live : Records R) : Type 0 where
    pub sound : AreSound f live
    pub fits : (u : Unit) → is_some (finite.get live u) ≡ true → unit_fits f.kind u ≡ true

  taken_at : (g : Filter) (u : Unit) (o : Option R) → is_whole f.kind g ≡ true → (is_some o ≡ true → unit_fits f.kind u ≡ true)
      → cond (takes g u) o None ≡ cond (takes_whole f.kind g u) o None
  taken_at g u None w fits = none_both (takes g u) (takes_whole f.kind g u)
    where
      none_both : (a b : Bool) → ◌≡◌ {A = Option R} (cond a None None) (cond b None None)
      none_both true true = refl
      none_both true false = refl
      none_both false true = refl
      none_both false false = refl
  taken_at g u (Some r) w fits = let at = fits refl in rw (w, at) refl

  -- a filter that splits no unit takes the same records, whether or not units must be such as packets have
  pub taken_same : (g : Filter) (live : Records R) → is_whole f.kind g ≡ true → HasRecords live
      → taken_by g live ≡ finite.retain_keys live (takes_whole f.kind g)
  taken_same g live w h =
      finite.same_map units_total one_unit (taken_by g live) (finite.retain_keys live (takes_whole f.kind g)) (λ u.
      finite.get-retain_keys live (takes g) u (λ x same. ap (takes g) (sym (one_unit u x same)))
      ∙ taken_at g u (finite.get live u) w (h.fits u)
      ∙ sym (finite.get-retain_keys live (takes_whole f.kind g) u (λ x same. ap (takes_whole f.kind g) (sym (one_unit u x same)))))

sends_pieces : {R : Type 0} (f : Semantics R) (place : List ℕ → Option ℕ) (op : ℕ) (ps : List APiece)
    → outline_sends f place (to_controller (map (Msg.Piece op) ps)) ≡ map to_ctrl (map (λ p. MoveMsg.Piece op p) (map (outline_piece f) ps))
sends_pieces f place op [] = refl
sends_pieces f place op (p ∷ ps) = ap (λ xs. to_ctrl (MoveMsg.Piece op (outline_piece f p)) ∷ xs) (sends_pieces f place op ps)

module _ {F R : Type 0} (f : Semantics R) (laws : FunctionLaws f) (site : Site) (packet : ℕ → Packet) (place : List ℕ → Option ℕ) where
  pub stream_follows : (i : Instance F R) (op : ℕ) (g : Filter) → is_whole f.kind g ≡ true → HasRecords f i.table.live
      → Follows f site packet place (on_stream f i op g) (inst_step (sys f site packet) (outline_instance f site packet i) (net.Of_move g (MoveMsg.Stream op)))
  unfolding on_stream
  stream_follows i op g w h =
      let es = finite.entries (taken_by g i.table.live) in
      let valid = all_each (λ e. f.is_valid e.0 e.1 ≡ true) es
      (valid_entries f (taken_by g i.table.live) (sound_retain_keys f i.table.live (takes g) h.sound)) in
      record {
        node = refl;
        sends =
            sends_pieces f place op (pieces (chunks_of f (taken_by g i.table.live)))
            ∙ ap (λ ps. map to_ctrl (map (λ p. MoveMsg.Piece op p) ps)) (pieces_same f laws es valid)
            ∙ ap (λ t. map to_ctrl (map (λ p. MoveMsg.Piece op p)
            (marks (length (finite.entries t)) (newest_in f (finite.entries t)) (chop (length (finite.entries t)) (finite.entries t)))))
            (taken_same f g i.table.live w h);
        ran = refl;
      }

  pub delete_follows : (i : Instance F R) (op : ℕ) (gone : List Unit) → Follows f site packet place (on_delete i op gone)
      (inst_step (sys f site packet) (outline_instance f site packet i) (net.Of_move everything (MoveMsg.Delete op gone)))
  delete_follows i op gone = record { node = refl; sends = refl; ran = refl }

  pub restore_follows : (i : Instance F R) (op : ℕ) (chunks : List Chunk) → are_good f chunks ≡ true → Follows f site packet place (on_restore f i op
      chunks) (inst_step (sys f site packet) (outline_instance f site packet i) (net.Of_move everything (MoveMsg.Restore op (entries f chunks))))
  unfolding on_restore records_of
  restore_follows i op chunks good = rw good (record { node = refl; sends = refl; ran = refl })

  pub put_follows : (i : Instance F R) (op : ℕ) (piece : APiece) (first : Bool) → are_good f piece.chunks ≡ true
      → nat_lt piece.total (length piece.chunks) ≡ false → Follows f site packet place (on_put f i op piece first)
      (inst_step (sys f site packet) (outline_instance f site packet i) (net.Of_move everything (MoveMsg.Put op (outline_piece f piece) first)))
  unfolding on_put records_of
  put_follows i op piece true good all = rw all (by_refusal (piece_refusal i piece))
    where
      by_refusal : (o : Option Answer) → Follows f site packet place (piece_put f i op piece true o) (net.with_table (sys f site packet)
          (outline_instance f site packet i) (put_row (sys f site packet).F (live_table f) op true o (outline_piece f piece) i.table.live))
      by_refusal (Some why) = record { node = refl; sends = refl; ran = refl }
      by_refusal None = rw good (record { node = refl; sends = refl; ran = refl })
  put_follows i op piece false good all = rw (all, good) (record { node = refl; sends = by_last piece.last; ran = refl })
    where
      by_last : (b : Bool) → outline_sends f place (to_controller (if b then Msg.PutOk op ∷ [] else []))
          ≡ map to_ctrl (if b then MoveMsg.Put_ok op ∷ [] else [])
      by_last true = refl
      by_last false = refl
