-- The tables as lists of rows: what the controller does with a message, and then as soon as it may, and what an instance does with a plain packet.
use Rattle.two_machine.proofs.Words.{◌≡◌, ℕ, Bool, true, false, Some, [], ◌∷◌, ◌++◌, refl, sym, ◌∙◌, if◌then◌else◌, ◌==◌, ◌&&◌, false≢true, Rule, Free, Drops}
use Rattle.two_machine.proofs.Words.{Buffers, Phase, Idle, Freezing, Getting, Deleting, Putting, Holding, Laying, Waiting, Turning, Settling, Ending, Over}
use Rattle.two_machine.proofs.Words.{same, System, Msg, Ctrl, Step, Start, End, Copied, Laid, Forward, Lay, Finish, Enable, Get, Delete, Restore, Fence}
use Rattle.two_machine.proofs.Words.{Enabled, Chunks, Deleted, Restored, Event, Seen, Fenced, Final, Done, still, says, forwards, none, on_start, on_enabled}
use Rattle.two_machine.proofs.Words.{on_chunks, on_deleted, on_restored, on_event, on_laid, on_copied, on_fenced, ctrl_row, soon_at, is_over, finishes, Inst}
use Rattle.two_machine.proofs.Words.{Carry, inst_step, processed, ruled}
use Rattle.std.specs.Prelude.{not}
use Rattle.two_machine.proofs.Tables
use Rattle.two_machine.proofs.Tables.{to_phase, stored}
use Rattle.two_machine.proofs.Closing.{is_at_end}

-- what a message brings besides its turn: a packet, the end of the input, chunks, or the end of an instance, of A or of B
pub data Kind (C : Type 0) : Type 0 where
  Plain : Kind C
  Cell : Kind C
  Ended : Kind C
  Has : C → Kind C
  Last : Bool → Kind C

abbrev pub kind : {C : Type 0} → ℕ → Msg C → Kind C
kind port (Event p) = Cell
kind port End = Ended
kind port (Chunks cs) = Has cs
kind port Final = Last (port == 2)
kind port m = Plain

module _ {U T C R O : Type 0} (S : System U T C R O) where
  pub data Row (c : Ctrl C) : Kind C → Step S (Ctrl C) → Type 0 where
    Stays : Row c Plain (still S c)
    Passes_over : (cs : C) → Row c (Has cs) (still S c)
    Freezes : c.phase ≡ Idle → Row c Plain (says S (to_phase S c Freezing) 2 (Enable Drops))
    Gets : c.phase ≡ Freezing → Row c Plain (says S (to_phase S c Getting) 2 Get)
    Deletes : (cs : C) → c.phase ≡ Getting → Row c (Has cs) (says S (record c { phase = Deleting; kept = cs }) 2 (Delete cs))
    Restores : c.phase ≡ Deleting → Row c Plain (says S (record c { phase = Putting; kept = none S }) 3 (Restore c.kept))
    Holds : c.phase ≡ Putting → Row c Plain (says S (to_phase S c Holding) 3 (Enable Buffers))
    Lays_low : c.phase ≡ Holding
        → Row c Plain (record { node = record c { phase = Laying; store = [] }; sends = forwards S c.store ++ (0, Lay false) ∷ []; notes = [] })
    Waits : c.phase ≡ Laying → Row c Plain (still S (to_phase S c Waiting))
    Lays_high : (p : ℕ) → c.phase ≡ Waiting → Row c Plain (says S (record c { phase = Turning; last = Some p }) 0 (Lay true))
    Copies : (p : ℕ) → Row c Plain (still S (record c { last = Some p }))
    Settles : c.phase ≡ Turning → Row c Plain (still S (to_phase S c Settling))
    Fences : c.phase ≡ Settling → Row c Plain (says S (to_phase S c Ending) 3 Fence)
    Is_over : c.phase ≡ Ending → Row c Plain (record { node = to_phase S c Over; sends = []; notes = Done ∷ [] })
    None_came : c.phase ≡ Waiting → Row c Plain (record { node = to_phase S c Over; sends = []; notes = Tables.No_packet ∷ [] })
    Stores : (p : ℕ) → Row c Cell (stored S c p)
    Forwards : (p : ℕ) → Row c Cell (says S c 0 (Forward p))
    Sees : (p : ℕ) → Row c Plain (still S (record c { seen = Some p }))
    Hears_end : Row c Ended (still S (record c { ended = true }))
    Hears_a : Row c (Last true) (says S c 0 (Finish 1))
    Hears_b : Row c (Last false) (still S (record c { stopped = true }))

  start_row : (c : Ctrl C) (ph : Phase) → c.phase ≡ ph → Row c Plain (on_start S ph c)
  start_row c Idle e = Freezes e
  start_row c ph e = Stays

  enabled_row : (c : Ctrl C) (ph : Phase) → c.phase ≡ ph → Row c Plain (on_enabled S ph c)
  enabled_row c Freezing e = Gets e
  enabled_row c Holding e = Lays_low e
  enabled_row c ph e = Stays

  chunks_row : (c : Ctrl C) (ph : Phase) (cs : C) → c.phase ≡ ph → Row c (Has cs) (on_chunks S ph c cs)
  chunks_row c Getting cs e = Deletes cs e
  chunks_row c ph cs e = Passes_over cs

  deleted_row : (c : Ctrl C) (ph : Phase) → c.phase ≡ ph → Row c Plain (on_deleted S ph c)
  deleted_row c Deleting e = Restores e
  deleted_row c ph e = Stays

  restored_row : (c : Ctrl C) (ph : Phase) → c.phase ≡ ph → Row c Plain (on_restored S ph c)
  restored_row c Putting e = Holds e
  restored_row c ph e = Stays

  event_row : (c : Ctrl C) (ph : Phase) (p : ℕ) → Row c Cell (on_event S ph c p)
  event_row c Idle p = Stores p
  event_row c Freezing p = Stores p
  event_row c Getting p = Stores p
  event_row c Deleting p = Stores p
  event_row c Putting p = Stores p
  event_row c Holding p = Stores p
  event_row c ph p = Forwards p

  laid_row : (c : Ctrl C) (ph : Phase) (high : Bool) → c.phase ≡ ph → Row c Plain (on_laid S ph high c)
  laid_row c Laying false e = Waits e
  laid_row c Turning true e = Settles e
  laid_row c ph high e = Stays

  copied_row : (c : Ctrl C) (ph : Phase) (p : ℕ) → c.phase ≡ ph → Row c Plain (on_copied S ph c p)
  copied_row c Waiting p e = Lays_high p e
  copied_row c Turning p e = Copies p
  copied_row c ph p e = Stays

  fenced_row : (c : Ctrl C) (ph : Phase) → c.phase ≡ ph → Row c Plain (on_fenced S ph c)
  fenced_row c Ending e = Is_over e
  fenced_row c ph e = Stays

  last_row : (c : Ctrl C) (b : Bool) → Row c (Last b) (if b then says S c 0 (Finish 1) else still S (record c { stopped = true }))
  last_row c true = Hears_a
  last_row c false = Hears_b

  pub row : (c : Ctrl C) (port : ℕ) (m : Msg C) → Row c (kind port m) (ctrl_row S c port m)
  row c port Start = start_row c c.phase refl
  row c port End = Hears_end
  row c port (Copied p) = copied_row c c.phase p refl
  row c port (Laid high) = laid_row c c.phase high refl
  row c port Enabled = enabled_row c c.phase refl
  row c port (Chunks cs) = chunks_row c c.phase cs refl
  row c port Deleted = deleted_row c c.phase refl
  row c port Restored = restored_row c c.phase refl
  row c port (Event p) = event_row c c.phase p
  row c port (Seen p) = Sees p
  row c port Fenced = fenced_row c c.phase refl
  row c port Final = last_row c (port == 2)
  row c port m = Stays

  pub soon_row : (c : Ctrl C) (ph : Phase) → c.phase ≡ ph → Row c Plain (soon_at S ph c)
  soon_row c Settling e =
      elim (same c.seen c.last) as (λ b. Row c Plain (if b then says S (to_phase S c Ending) 3 Fence else still S c)) [ true ↦ Fences e | false ↦ Stays ]
  soon_row c Waiting e =
      elim c.ended as (λ b. Row c Plain (if b then record { node = to_phase S c Over; sends = []; notes = Tables.No_packet ∷ [] } else still S c)) [
        | true ↦ None_came e
        | false ↦ Stays
      ]
  soon_row c ph e = Stays

  -- the finish of A is asked for once, as soon as the update is over and the input has ended
  pub data Finishes (c : Ctrl C) : Step S (Ctrl C) → Type 0 where
    Not_yet : (c.finished ≡ false → is_at_end S c ≡ false) → Finishes c (still S c)
    Asks : c.finished ≡ false → is_at_end S c ≡ true → Finishes c (says S (record c { finished = true }) 0 (Finish 0))

  pub finish_row : (c : Ctrl C) → Finishes c (finishes S c)
  finish_row c = by (is_over S c.phase) c.ended c.finished refl refl refl
    where
      by : (a b f : Bool) → is_over S c.phase ≡ a → c.ended ≡ b → c.finished ≡ f
          → Finishes c (if a && (b && not f) then says S (record c { finished = true }) 0 (Finish 0) else still S c)
      by true true true over ended is = Not_yet (λ unsent. absurd (false≢true (sym unsent ∙ is)))
      by true true false over ended is = Asks is (rw (over, ended) refl)
      by true false f over ended is = Not_yet (λ _. rw (over, ended) refl)
      by false b f over ended is = Not_yet (λ _. rw over refl)

  -- an instance processes a packet, hands it out, or holds it
  pub data Carried (n : ℕ) (i : Inst T) (p : ℕ) : Step S (Inst T) → Type 0 where
    Runs : (S.covers p ≡ true → i.rule ≡ Free) → Carried n i p (processed S n i p)
    Hands_out : i.rule ≡ Drops → S.covers p ≡ true → Carried n i p (says S i 1 (Event p))
    Held : S.covers p ≡ true → Carried n i p (still S (record i { held = i.held ++ p ∷ [] }))

  pub carried : (n : ℕ) (i : Inst T) (p : ℕ) → Carried n i p (inst_step S n i (Carry p))
  carried n i p = by (S.covers p) i.rule refl refl
    where
      by : (b : Bool) (r : Rule) → S.covers p ≡ b → i.rule ≡ r → Carried n i p (if b then ruled S r n i p else processed S n i p)
      by true Free covers is = Runs (λ _. is)
      by true Drops covers is = Hands_out is covers
      by true Buffers covers is = Held covers
      by false r covers is = Runs (λ covered. absurd (false≢true (sym covers ∙ covered)))
