-- What is seen of a step of the controller is the machine's.
use Rattle.two_machine.proofs.Words.{◌≡◌, ℕ, Bool, true, false, Option, Some, None, List, [], ◌∷◌, ◌++◌, refl, ap, ◌∙◌, append_assoc, append-nil}
use Rattle.two_machine.proofs.Words.{if◌then◌else◌, Phase, Idle, Freezing, Getting, Deleting, Putting, Holding, Laying, Waiting, Turning, Settling, Ending}
use Rattle.two_machine.proofs.Words.{Over, State, same, System, Laws, Msg, Ctrl, Step, End, Seen, Finish, forwards, none, on_start, on_enabled, on_chunks}
use Rattle.two_machine.proofs.Words.{on_deleted, on_restored, on_event, on_laid, on_copied, on_fenced, ctrl_row, soon_at, finishes, soon, ctrl_step, World}
use Rattle.two_machine.proofs.Words.{Observer, Nobody, Of_unit, read, flat_map-append, filter-append, frame, inside, item, fold-append, view, sent, put_ctrl}
use Rattle.two_machine.proofs.Words.{put_twice}
use Rattle.two_machine.proofs.Machine as m
use Rattle.two_machine.proofs.Tables
use Rattle.two_machine.proofs.View.{forwarded, seen}
use Rattle.two_machine.proofs.Rows.{Finishes, Not_yet, Asks, finish_row}

pub ruleset reads = (flat_map-append, filter-append, fold-append, append_assoc, append-nil)

module _ {U T C R O : Type 0} (S : System U T C R O) (laws : Laws S) (o : Observer U) where
  -- no chunks have no record
  pub inside_none : inside S o (none S) ≡ None
  inside_none = by o
    where
      by : (o : Observer U) → inside S o (none S) ≡ None
      by Nobody = refl
      by (Of_unit u) = laws.selected S.empty u ∙ (let nothing = laws.nothing u in rw nothing (both_none (S.takes u)))
        where
          both_none : (b : Bool) → ◌≡◌ {A = Option R} (if b then None else None) None
          both_none true = refl
          both_none false = refl

  finishes_unseen : (v : World T C O) {did : Step S (Ctrl C)} → Finishes S v.ct did → view S o (put_ctrl S v did) ≡ view S o v
  finishes_unseen v (Not_yet e) = simp reads
  finishes_unseen v (Asks e over) = simp reads

  soon_first : (v : World T C O) (ph : Phase) → view S o (put_ctrl S v (soon_at S ph v.ct)) ≡ m.soon_at (frame S o) ph (view S o v)
  soon_first v Settling =
      elim (same v.ct.seen v.ct.last) as (λ b.
      view S o
      (put_ctrl S v
      (if b then record { node = record v.ct { phase = Ending }; sends = (3, Tables.Fence) ∷ []; notes = [] }
      else record { node = v.ct; sends = []; notes = [] }))
      ≡
      (if b then record (view S o v) { c = record ((view S o v).c) { phase = Ending }; cb = (view S o v).cb ++ m.Fence ∷ [] }
      else view S o v)) [
        | true ↦ simp reads
        | false ↦ simp reads
      ]
  soon_first v Waiting =
      elim v.ct.ended as (λ b.
      view S o
      (put_ctrl S v
      (if b then record { node = record v.ct { phase = Over }; sends = []; notes = Tables.No_packet ∷ [] }
      else record { node = v.ct; sends = []; notes = [] }))
      ≡
      (if b then record (view S o v) { c = record ((view S o v).c) { phase = Over }; scan = m.scanned (view S o v).scan m.No_packet }
      else view S o v)) [
        | true ↦ simp reads
        | false ↦ simp reads
      ]
  soon_first v ph = simp reads

  -- what the controller does as soon as it may
  pub soon_seen : (v : World T C O) → view S o (put_ctrl S v (soon S v.ct)) ≡ m.soon (frame S o) (view S o v)
  soon_seen v =
      let first = soon_at S v.ct.phase v.ct in
      ap (view S o) (put_twice S v first (finishes S)) ∙ finishes_unseen (put_ctrl S v first) (finish_row S first.node) ∙ soon_first v v.ct.phase

  -- a row, and then that
  pub step_seen : (v : World T C O) (port : ℕ) (msg : Msg C) {x : State R} → view S o (put_ctrl S v (ctrl_row S v.ct port msg)) ≡ x
      → view S o (put_ctrl S v (ctrl_step S v.ct port msg)) ≡ m.soon (frame S o) x
  step_seen v port msg row =
      let first = ctrl_row S v.ct port msg in
      ap (view S o) (put_twice S v first (soon S)) ∙ soon_seen (put_ctrl S v first) ∙ ap (m.soon (frame S o)) row

  -- the stored packets go on as forwards
  forwards_all : (ps : List ℕ) → read forwarded (sent 0 (forwards S ps)) ≡ ps
  forwards_all [] = refl
  forwards_all (p ∷ ps) = ap (λ xs. p ∷ xs) (forwards_all ps)

  forwards_item : (ps : List ℕ) → read (item S o) (sent 0 (forwards S ps)) ≡ []
  forwards_item [] = refl
  forwards_item (p ∷ ps) = forwards_item ps

  forwards_a : (ps : List ℕ) → sent 2 (forwards S ps) ≡ []
  forwards_a [] = refl
  forwards_a (p ∷ ps) = forwards_a ps

  forwards_b : (ps : List ℕ) → sent 3 (forwards S ps) ≡ []
  forwards_b [] = refl
  forwards_b (p ∷ ps) = forwards_b ps

  ruleset more = (reads, forwards_all, forwards_item, forwards_a, forwards_b)

  -- the rows
  pub start_seen : (v : World T C O) (ph : Phase) → view S o (put_ctrl S v (on_start S ph v.ct)) ≡ m.begun_at (frame S o) ph (view S o v)
  start_seen v Idle = simp reads
  start_seen v ph = simp reads

  pub enabled_seen : (v : World T C O) (ph : Phase) → view S o (put_ctrl S v (on_enabled S ph v.ct)) ≡ m.enabled_at (frame S o) ph (view S o v)
  enabled_seen v Holding = simp more
  enabled_seen v ph = simp reads

  pub chunks_seen : (v : World T C O) (ph : Phase) (c : C)
      → view S o (put_ctrl S v (on_chunks S ph v.ct c)) ≡ m.chunks_at (frame S o) ph (view S o v) (inside S o c)
  chunks_seen v Getting c = simp reads
  chunks_seen v ph c = simp reads

  pub deleted_seen : (v : World T C O) (ph : Phase) → view S o (put_ctrl S v (on_deleted S ph v.ct)) ≡ m.deleted_at (frame S o) ph (view S o v)
  deleted_seen v Deleting = rw inside_none (simp reads)
  deleted_seen v ph = simp reads

  pub restored_seen : (v : World T C O) (ph : Phase) → view S o (put_ctrl S v (on_restored S ph v.ct)) ≡ m.restored_at (frame S o) ph (view S o v)
  restored_seen v Putting = simp reads
  restored_seen v ph = simp reads

  pub event_seen : (v : World T C O) (ph : Phase) (p : ℕ) → view S o (put_ctrl S v (on_event S ph v.ct p)) ≡ m.event_at (frame S o) ph (view S o v) p
  event_seen v Idle p = simp reads
  event_seen v ph p = simp reads

  pub laid_seen : (v : World T C O) (ph : Phase) (high : Bool) → view S o (put_ctrl S v (on_laid S ph high v.ct)) ≡ m.laid_at (frame S o) ph high (view S o v)
  laid_seen v Laying false = simp reads
  laid_seen v Turning true = simp reads
  laid_seen v ph high = simp reads

  pub copied_seen : (v : World T C O) (ph : Phase) (p : ℕ) → view S o (put_ctrl S v (on_copied S ph v.ct p)) ≡ m.copied_at (frame S o) ph (view S o v) p
  copied_seen v Waiting p = simp reads
  copied_seen v ph p = simp reads

  pub fenced_seen : (v : World T C O) (ph : Phase) → view S o (put_ctrl S v (on_fenced S ph v.ct)) ≡ m.fenced_at (frame S o) ph (view S o v)
  fenced_seen v Ending = simp reads
  fenced_seen v ph = simp reads

  pub end_seen : (v : World T C O) → view S o (put_ctrl S v (ctrl_row S v.ct 0 End)) ≡ record (view S o v) { c = record ((view S o v).c) { ended = true } }
  end_seen v = simp reads

  pub told_seen : (v : World T C O) (p : ℕ)
      → view S o (put_ctrl S v (ctrl_row S v.ct 3 (Seen p))) ≡ record (view S o v) { c = record ((view S o v).c) { seen = Some p } }
  told_seen v p = simp reads

  pub final_seen : (v : World T C O) (b : Bool)
      → view S o
      (put_ctrl S v
      (if b then record { node = v.ct; sends = (0, Finish 1) ∷ []; notes = [] }
      else record { node = record v.ct { stopped = true }; sends = []; notes = [] }))
      ≡ view S o v
  final_seen v true = simp reads
  final_seen v false = simp reads
