-- What an instance sends for copies: chunks where it is asked for them, and one answer for what it is to keep. All other rows send nothing of that.
use Rattle.proof_outlines.proofs.Words.{◌≡◌, ℕ, Bool, true, false, ◌⊎◌, inl, inr, Option, Some, None, List, [], ◌∷◌, ◌++◌, map, refl, if◌then◌else◌, ◌||◌}
use Rattle.proof_outlines.proofs.Words.{option_map, Result, Ok, Err, Filter, Chunk, Semantics, unit_at, ChunkFault, tally_read, are_good, record_chunk, part}
use Rattle.proof_outlines.proofs.Words.{Mark, FullCell, Piece, Msg, Instance, pieces, to_controller, chunk_told, table_after, with_count, tally_put}
use Rattle.proof_outlines.proofs.Words.{with_standby, keep_note, tells_and_notes, instance_step, selected_chunks, Each, each-append, each_map, not}
use Rattle.std.specs.FinMap as finite
use Rattle.instance_worker.specs.Instance.{still, process_step, on_get, on_standby, on_put_all}
use Rattle.proof_outlines.proofs.outline.InstanceWays.{instance_fits}
use Rattle.proof_outlines.proofs.outline.MoveRows.{is_of_move}

-- not a message by which a copy goes on, but for those of the all-flows state that ask and give
abbrev pub is_uncopied : Msg → Bool
is_uncopied (Msg.Get op filter) = false
is_uncopied (Msg.Chunks op chunks) = false
is_uncopied (Msg.Standby op chunks) = false
is_uncopied (Msg.PutAll op chunk) = false
is_uncopied (Msg.Kept op) = false
is_uncopied m = true

-- a message by which a copy goes on
abbrev pub is_of_copy : Msg → Bool
is_of_copy (Msg.GetAll op) = true
is_of_copy (Msg.AllChunk op chunk) = true
is_of_copy m = not (is_uncopied m)

-- none is sent
abbrev pub AreNoCopies : List (ℕ × Msg) → Type 0
AreNoCopies sends = Each (λ x. is_of_copy x.1 ≡ false) sends

-- nothing of a copy is sent
abbrev pub AreUncopied : List (ℕ × Msg) → Type 0
AreUncopied sends = Each (λ x. is_uncopied x.1 ≡ true) sends

pub no_copy : (m : Msg) → is_of_copy m ≡ false → is_uncopied m ≡ true
no_copy (Msg.Get op filter) h = cc
no_copy m h = cc

-- a move sends none
pub move_none : (m : Msg) → is_of_move m ≡ true → is_of_copy m ≡ false
move_none (Msg.Get op filter) h = cc
move_none m h = cc

-- an instance answers once, or sends nothing
abbrev pub IsAnswer : ℕ → List (ℕ × Msg) → Type 0
IsAnswer op sends = (sends ≡ []) ⊎ (sends ≡ (1, Msg.Kept op) ∷ [])

pieces_none : (op : ℕ) (ps : List Piece) → AreNoCopies (to_controller (map (Msg.Piece op) ps))
pieces_none op [] = tt
pieces_none op (p ∷ ps) = (refl, pieces_none op ps)

told_none : (op : ℕ) (cell : FullCell) (o : Option Chunk) → AreNoCopies (to_controller (chunk_told op o) ++ (0, Msg.Credit cell) ∷ [])
told_none op cell None = (refl, tt)
told_none op cell (Some chunk) = (refl, (refl, tt))

module _ {F R : Type 0} (f : Semantics R) where
  processed_none : (i : Instance F R) (m : Mark) (cell : FullCell) → AreNoCopies (process_step f i m cell).sends
  unfolding process_step
  processed_none i (Mark.Shared op home) cell =
      let after : Instance F R = with_count (record i { table = table_after f i (Mark.Shared op home) cell.packet }) in
      let unit = unit_at f.kind i.site cell.packet in
      told_none op cell (option_map (record_chunk f unit) (finite.get (part after.table home) unit))
  processed_none i s cell = (refl, tt)

  -- what an instance sends for any other message
  pub other_none : (i : Instance F R) (m : Msg) → is_of_copy m ≡ false → AreNoCopies (instance_step f i m).sends
  other_none = instance_fits f (λ _ m did. is_of_copy m ≡ false → AreNoCopies did.sends) (record {
    still = λ i m e. tt;
    held = λ i mk cell op e. tt;
    processed = λ i mk cell e. processed_none i mk cell;
    released = λ i op cell e. processed_none i Mark.Plain cell;
    both = λ i m did next w a b e. each-append (λ x. is_of_copy x.1 ≡ false) did.sends (next did.node).sends (a e) (b e);
    unruled = λ i op did h. h;
    seen = λ i mk cell op e. (refl, tt);
    event = λ i mk cell op e. (refl, tt);
    fenced = λ i op e. (refl, tt);
    stopped = λ i e. (refl, tt);
    enabled = λ i op filter action e. (refl, tt);
    given = λ i op filter e. cc;
    streamed = λ i op filter e. pieces_none op (pieces (selected_chunks f i filter));
    all_given = λ i op e. cc;
    deleted = λ i op gone e. (refl, tt);
    refused = λ i op piece first why is e. (refl, tt);
    taken = λ i op piece first is e. elim (first || piece.last)
        as (λ b. AreNoCopies (to_controller (if b then Msg.PutOk op ∷ [] else []))) [ true ↦ (refl, tt) | false ↦ tt ];
    restored = λ i op chunks e. (refl, tt);
    stood_by = λ i op chunks e. cc;
    synced = λ i home op chunks e. (refl, tt);
    merged = λ i op chunk slots is e. cc;
  })

  -- an instance that is asked for records gives them
  pub get_sent : (i : Instance F R) (op : ℕ) (filter : Filter)
      → (instance_step f i (Msg.Get op filter)).sends ≡ (1, Msg.Chunks op (selected_chunks f i filter)) ∷ []
  unfolding on_get
  get_sent i op filter = refl

  -- what is to stand by is kept and answered, or left
  pub standby_sent : (i : Instance F R) (op : ℕ) (chunks : List Chunk) → IsAnswer op (instance_step f i (Msg.Standby op chunks)).sends
  unfolding on_standby
  standby_sent i op chunks = elim (are_good f chunks) as (λ b. IsAnswer op
      (if b then tells_and_notes (with_standby f i chunks) (Msg.Kept op) (keep_note i op chunks) else still i).sends) [ true ↦ inr refl | false ↦ inl refl ]

  tally_sent : (i : Instance F R) (op : ℕ) (r : Result (List ℕ) ChunkFault) → IsAnswer op (tally_put i op r).sends
  tally_sent i op (Ok slots) = inr refl
  tally_sent i op (Err fault) = inl refl

  pub put_all_sent : (i : Instance F R) (op : ℕ) (chunk : Chunk) → IsAnswer op (instance_step f i (Msg.PutAll op chunk)).sends
  unfolding on_put_all
  put_all_sent i op chunk = tally_sent i op (tally_read f.kind chunk.bytes)

  -- all other rows
  pub other_sent : (i : Instance F R) (m : Msg) → is_uncopied m ≡ true → AreUncopied (instance_step f i m).sends
  other_sent i (Msg.GetAll op) e = (refl, tt)
  other_sent i (Msg.AllChunk op chunk) e = tt
  other_sent i (Msg.Get op filter) e = cc
  other_sent i (Msg.Chunks op chunks) e = cc
  other_sent i (Msg.Standby op chunks) e = cc
  other_sent i (Msg.PutAll op chunk) e = cc
  other_sent i (Msg.Kept op) e = cc
  other_sent i m e = each_map (λ x h. no_copy x.1 h) (instance_step f i m).sends (other_none i m refl)
