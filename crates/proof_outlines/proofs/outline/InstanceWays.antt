-- The ways in which an instance goes on with a message: what holds of each of them, and of one and then another, holds of its step.
use Rattle.proof_outlines.proofs.Words.{◌≡◌, ℕ, Bool, true, false, Option, Some, None, Result, Ok, Err, List, [], ◌∷◌, map, length, refl, if◌then◌else◌, ◌||◌}
use Rattle.proof_outlines.proofs.Words.{nat_lt, Filter, flow_of, Chunk, Semantics, ChunkFault, tally_read, are_good, Action, Mark, Plain, FullCell, Answer}
use Rattle.proof_outlines.proofs.Words.{Piece, Msg, Instance, pieces, to_controller, tell_step, tells_and_notes, and_then, carry_step, where_good, with_live}
use Rattle.proof_outlines.proofs.Words.{with_standby, with_records, imported, keep_note, export_note, selected_chunks, piece_put, piece_refusal, tally_put}
use Rattle.proof_outlines.proofs.Words.{instance_step, by_if, Unit}
use Rattle.event_filter.specs.declared.decide.Decide.{Decide}
use Rattle.event_filter.specs.Rules as rules
use Rattle.instance_worker.specs.Instance as worker
use Rattle.instance_worker.specs.Instance.{Step, process_step, all_processed, on_carry, on_fence, on_get, on_stream, on_put, on_restore, on_standby, on_sync}
use Rattle.instance_worker.specs.Instance.{on_put_all}

-- what an instance takes packets by
abbrev pub may_process : Msg → Bool
may_process (Msg.Carry mk cell) = true
may_process (Msg.Fence op) = true
may_process m = false

-- why a piece is refused: only where it is put first
abbrev pub refusal_of : {F R : Type 0} → Instance F R → Piece → Bool → Option Answer
refusal_of i piece first = if first then piece_refusal i piece else None

module _ {F R : Type 0} (f : Semantics R) (Allows : Instance F R → Msg → Step F R → Type 0) where
  abbrev streams : Instance F R → ℕ → Filter → Step F R
  streams i op filter = record {
    node = i;
    sends = to_controller (map (Msg.Piece op) (pieces (selected_chunks f i filter)));
    notes = export_note i op (selected_chunks f i filter) ∷ [];
  }

  abbrev takes : Instance F R → ℕ → Piece → Bool → Step F R
  takes i op piece answered = record {
    node = with_live f i piece.chunks;
    sends = to_controller (if answered then Msg.PutOk op ∷ [] else []);
    notes = imported i op piece.chunks ∷ [];
  }

  -- nothing, a packet that is held or processed, one step and then another, what is told of a packet and of a fence, and each of the other rows
  pub record WaysOfInstance : Type 0 where
    pub still : (i : Instance F R) (m : Msg) → Allows i m (worker.still i)
    pub held : (i : Instance F R) (mk : Mark) (cell : FullCell) (op : ℕ)
        → Allows i (Msg.Carry mk cell) (worker.still (record i { rules = rules.with_held i.rules op cell }))
    pub processed : (i : Instance F R) (mk : Mark) (cell : FullCell) → Allows i (Msg.Carry mk cell) (process_step f i mk cell)
    pub released : (i : Instance F R) (op : ℕ) (cell : FullCell) → Allows i (Msg.Fence op) (process_step f i Plain cell)
    pub both : (i : Instance F R) (m : Msg) (did : Step F R) (next : Instance F R → Step F R) → may_process m ≡ true → Allows i m did
        → Allows did.node m (next did.node) → Allows i m (and_then did next)
    pub unruled : (i : Instance F R) (op : ℕ) (did : Step F R) → Allows (record i { rules = rules.without_rule i.rules op }) (Msg.Fence op) did
        → Allows i (Msg.Fence op) did
    pub seen : (i : Instance F R) (mk : Mark) (cell : FullCell) (op : ℕ) → Allows i (Msg.Carry mk cell) (tell_step i (Msg.Seen op cell.packet))
    pub event : (i : Instance F R) (mk : Mark) (cell : FullCell) (op : ℕ) → Allows i (Msg.Carry mk cell) (tell_step i (Msg.Event op cell))
    pub fenced : (i : Instance F R) (op : ℕ) → Allows i (Msg.Fence op) (tell_step i (Msg.Fenced op))
    pub stopped : (i : Instance F R) → Allows i Msg.Stop (worker.on_stop i)
    pub enabled : (i : Instance F R) (op : ℕ) (filter : Filter) (action : Action)
        → Allows i (Msg.Enable op filter action) (worker.on_enable i op filter action)
    pub given : (i : Instance F R) (op : ℕ) (filter : Filter) → Allows i (Msg.Get op filter)
        (tells_and_notes i (Msg.Chunks op (selected_chunks f i filter)) (export_note i op (selected_chunks f i filter)))
    pub streamed : (i : Instance F R) (op : ℕ) (filter : Filter) → Allows i (Msg.Stream op filter) (streams i op filter)
    pub all_given : (i : Instance F R) (op : ℕ) → Allows i (Msg.GetAll op) (worker.on_get_all f i op)
    pub deleted : (i : Instance F R) (op : ℕ) (gone : List Unit) → Allows i (Msg.Delete op gone) (worker.on_delete i op gone)
    pub refused : (i : Instance F R) (op : ℕ) (piece : Piece) (first : Bool) (why : Answer) → refusal_of i piece first ≡ Some why
        → Allows i (Msg.Put op piece first) (tell_step i (Msg.PutNo op (record { why = why; chunks = piece.chunks })))
    pub taken : (i : Instance F R) (op : ℕ) (piece : Piece) (first : Bool) → refusal_of i piece first ≡ None
        → Allows i (Msg.Put op piece first) (takes i op piece (first || piece.last))
    pub restored : (i : Instance F R) (op : ℕ) (chunks : List Chunk)
        → Allows i (Msg.Restore op chunks) (tells_and_notes (with_live f i chunks) (Msg.Restored op) (imported i op chunks))
    pub stood_by : (i : Instance F R) (op : ℕ) (chunks : List Chunk)
        → Allows i (Msg.Standby op chunks) (tells_and_notes (with_standby f i chunks) (Msg.Kept op) (keep_note i op chunks))
    pub synced : (i : Instance F R) (home : Bool) (op : ℕ) (chunks : List Chunk)
        → Allows i (Msg.Sync home op chunks) (tells_and_notes (with_records f i home chunks) (Msg.Synced op) (keep_note i op chunks))
    pub merged : (i : Instance F R) (op : ℕ) (chunk : Chunk) (slots : List ℕ) → tally_read f.kind chunk.bytes ≡ Ok slots
        → Allows i (Msg.PutAll op chunk) (tally_put i op (Ok slots))

  module _ (ways : WaysOfInstance) where
    all_fit : (i : Instance F R) (op : ℕ) (cells : List FullCell) → Allows i (Msg.Fence op) (all_processed f i cells)
    unfolding all_processed
    all_fit i op [] = ways.still i (Msg.Fence op)
    all_fit i op (cell ∷ cells) = ways.both i (Msg.Fence op) (process_step f i Plain cell) (λ j. all_processed f j cells) refl
        (ways.released i op cell) (all_fit (process_step f i Plain cell).node op cells)

    by_decision : (i : Instance F R) (mk : Mark) (cell : FullCell) (d : Decide) → Allows i (Msg.Carry mk cell) (carry_step f i mk cell d)
    by_decision i mk cell Decide.Process = ways.processed i mk cell
    by_decision i mk cell (Decide.ProcessAndEvent op) =
        ways.both i (Msg.Carry mk cell) (process_step f i mk cell) (λ j. tell_step j (Msg.Seen op cell.packet)) refl
        (ways.processed i mk cell) (ways.seen (process_step f i mk cell).node mk cell op)
    by_decision i mk cell (Decide.Event op) = ways.event i mk cell op
    by_decision i mk cell (Decide.Buffer op) = ways.held i mk cell op

    where_fit : (i : Instance F R) (m : Msg) (chunks : List Chunk) (did : Step F R) → Allows i m did → Allows i m (where_good f i chunks did)
    where_fit i m chunks did h = by_if (Allows i m) (are_good f chunks) h (ways.still i m)

    by_refusal : (i : Instance F R) (op : ℕ) (piece : Piece) (first : Bool) (o : Option Answer) → refusal_of i piece first ≡ o
        → Allows i (Msg.Put op piece first) (piece_put f i op piece (first || piece.last) o)
    by_refusal i op piece first (Some why) is = ways.refused i op piece first why is
    by_refusal i op piece first None is =
        where_fit i (Msg.Put op piece first) piece.chunks (takes i op piece (first || piece.last)) (ways.taken i op piece first is)

    by_reading : (i : Instance F R) (op : ℕ) (chunk : Chunk) (r : Result (List ℕ) ChunkFault) → tally_read f.kind chunk.bytes ≡ r
        → Allows i (Msg.PutAll op chunk) (tally_put i op r)
    by_reading i op chunk (Ok slots) is = ways.merged i op chunk slots is
    by_reading i op chunk (Err fault) is = ways.still i (Msg.PutAll op chunk)

    pub instance_fits : (i : Instance F R) (m : Msg) → Allows i m (instance_step f i m)
    unfolding on_carry on_fence on_get on_stream on_put on_restore on_standby on_sync on_put_all
    instance_fits i (Msg.Carry mk cell) = by_decision i mk cell (rules.decide i.rules (flow_of i.site cell.packet).0 mk)
    instance_fits i (Msg.Fence op) =
        let j : Instance F R = record i { rules = rules.without_rule i.rules op } in
        let all = all_processed f j (rules.held_at i.rules op) in
        ways.both i (Msg.Fence op) all (λ x. tell_step x (Msg.Fenced op)) refl (ways.unruled i op all (all_fit j op (rules.held_at i.rules op)))
        (ways.fenced all.node op)
    instance_fits i Msg.Stop = ways.stopped i
    instance_fits i (Msg.Enable op filter action) = ways.enabled i op filter action
    instance_fits i (Msg.Get op filter) = ways.given i op filter
    instance_fits i (Msg.Stream op filter) = ways.streamed i op filter
    instance_fits i (Msg.GetAll op) = ways.all_given i op
    instance_fits i (Msg.Delete op gone) = ways.deleted i op gone
    instance_fits i (Msg.Put op piece first) = by_if (Allows i (Msg.Put op piece first)) (nat_lt piece.total (length piece.chunks))
        (ways.still i (Msg.Put op piece first))
        (by_refusal i op piece first (refusal_of i piece first) refl)
    instance_fits i (Msg.Restore op chunks) = where_fit i (Msg.Restore op chunks) chunks _ (ways.restored i op chunks)
    instance_fits i (Msg.Standby op chunks) = where_fit i (Msg.Standby op chunks) chunks _ (ways.stood_by i op chunks)
    instance_fits i (Msg.PutAll op chunk) = by_reading i op chunk (tally_read f.kind chunk.bytes) refl
    instance_fits i (Msg.Sync home op chunks) = where_fit i (Msg.Sync home op chunks) chunks _ (ways.synced i home op chunks)
    instance_fits i m = ways.still i m
