-- Each node sends what its links have, whatever message of its own it takes.
use Rattle.two_machine.proofs.Words.{◌≡◌, ◌≢◌, ℕ, Bool, true, false, List, [], ◌∷◌, refl, ◌∙◌, if◌then◌else◌, ◌==◌, Free, Drops, Target, To_a, To_both}
use Rattle.two_machine.proofs.Words.{System, Msg, Switch, Ctrl, Inst, Step, In_packet, In_start, In_end, Forward, Lay, Finish, Carry, Pass, Stop, Enable, Get}
use Rattle.two_machine.proofs.Words.{Delete, Restore, Fence, Chunks, Fenced, has_room, goes, switch_step, processed, all_processed, inst_step, forwards}
use Rattle.two_machine.proofs.Words.{ctrl_row, and_then, soon_at, finishes, soon, ctrl_step, read, flat_map-append, arrived, ran, Place, Ca, Cb, Sa, Sb, Ac}
use Rattle.two_machine.proofs.Words.{choice, IsSelected, Label, From_a, From_b, Each, each-append}
use Rattle.two_machine.proofs.Rows.{Kind, Ended, Has, kind, Row, Freezes, Gets, Deletes, Restores, Holds, Lays_low, Lays_high, Fences, Forwards, Hears_a}
use Rattle.two_machine.proofs.Rows.{Finishes, Not_yet, Asks, row, soon_row, finish_row, Carried, Runs, Hands_out, Held, carried}
use Rattle.two_machine.proofs.Puts.{From_switch, FromCtrl}

module _ {U T C R O : Type 0} (S : System U T C R O) where
  -- the switch sends each message where it belongs
  goes_ok : (t : Target) (s : Switch) (p : ℕ) → Each (λ x. From_switch S x.0 x.1) (goes S t s p).sends
  goes_ok To_both s p = (tt, (tt, tt))
  goes_ok x s p = (tt, tt)

  pub switch_ok : (s : Switch) (m : Msg C) → Each (λ x. From_switch S x.0 x.1) (switch_step S s m).sends
  switch_ok s (In_packet p) =
      elim (has_room S s) as (λ b.
      Each (λ x. From_switch S x.0 x.1)
      (if b then goes S (if S.covers p then s.target else To_a) s p else record { node = s; sends = []; notes = [] }).sends) [
        | true ↦ goes_ok (if S.covers p then s.target else To_a) s p
        | false ↦ tt
      ]
  switch_ok s In_start = (tt, tt)
  switch_ok s In_end = (tt, tt)
  switch_ok s (Forward p) = (tt, tt)
  switch_ok s (Lay high) = (tt, tt)
  switch_ok s (Finish to) = by (to == 0)
    where
      by : (b : Bool) → From_switch S (if b then 2 else 3) Stop × Unit {0}
      by true = (tt, tt)
      by false = (tt, tt)
  switch_ok s m = tt

  -- so do the instances
  all_back : (n : ℕ) (i : Inst T) (ps : List ℕ) → Each (λ x. From_b S x.0 x.1) (all_processed S n i ps).sends
  all_back n i [] = tt
  all_back n i (p ∷ ps) = (tt, all_back n (processed S n i p).node ps)

  carry_a : {i : Inst T} {p : ℕ} {did : Step S (Inst T)} → Carried S 0 i p did → Each (λ x. From_a S x.0 x.1) did.sends
  carry_a (Held covers) = tt
  carry_a x = (tt, tt)

  carry_b : {i : Inst T} {p : ℕ} {did : Step S (Inst T)} → i.rule ≢ Drops → Carried S 1 i p did → Each (λ x. From_b S x.0 x.1) did.sends
  carry_b no_drop (Runs free) = (tt, tt)
  carry_b no_drop (Hands_out drops covers) = absurd (no_drop drops)
  carry_b no_drop (Held covers) = tt

  pub sa_ok : (i : Inst T) (m : Msg C) → Label S Sa m → Each (λ x. From_a S x.0 x.1) (inst_step S 0 i m).sends
  sa_ok i (Carry p) h = carry_a (carried S 0 i p)
  sa_ok i Stop h = (tt, tt)
  sa_ok i m h = absurd h

  pub ca_ok : (i : Inst T) (m : Msg C) → Label S Ca m → Each (λ x. From_a S x.0 x.1) (inst_step S 0 i m).sends
  ca_ok i (Enable r) h = (tt, tt)
  ca_ok i Get h = ((i.table, refl), tt)
  ca_ok i (Delete c) h = (tt, tt)
  ca_ok i m h = absurd h

  pub sb_ok : (i : Inst T) (m : Msg C) → i.rule ≢ Drops → Label S Sb m → Each (λ x. From_b S x.0 x.1) (inst_step S 1 i m).sends
  sb_ok i (Carry p) no_drop h = carry_b no_drop (carried S 1 i p)
  sb_ok i (Pass p) no_drop h = (tt, (tt, tt))
  sb_ok i Stop no_drop h = (tt, tt)
  sb_ok i m no_drop h = absurd h

  pub cb_ok : (i : Inst T) (m : Msg C) → Label S Cb m → Each (λ x. From_b S x.0 x.1) (inst_step S 1 i m).sends
  cb_ok i (Enable r) h = (tt, tt)
  cb_ok i (Restore c) h = (tt, tt)
  cb_ok i Fence h =
      each-append (λ x. From_b S x.0 x.1) (all_processed S 1 (record i { rule = Free; held = [] }) i.held).sends ((1, Fenced) ∷ [])
      (all_back 1 (record i { rule = Free; held = [] }) i.held) (tt, tt)
  cb_ok i m h = absurd h

  -- and the controller; its chunks are those of a table
  pub record CtrlOk (e : Bool) (did : Step S (Ctrl C)) : Type 0 where
    pub sends : Each (λ x. FromCtrl S x.0 x.1) did.sends
    pub kept : IsSelected S did.node.kept
    pub ended : did.node.ended ≡ e
    pub quiet : read arrived did.notes ≡ []
    pub unrun : read ran did.notes ≡ []

  then_ok : (e : Bool) (one : Step S (Ctrl C)) (next : Ctrl C → Step S (Ctrl C)) → CtrlOk e one → CtrlOk one.node.ended (next one.node)
      → CtrlOk e (and_then S one next)
  then_ok e one next h k = record {
    sends = each-append (λ x. FromCtrl S x.0 x.1) one.sends (next one.node).sends h.sends k.sends;
    kept = k.kept;
    ended = k.ended ∙ h.ended;
    quiet = let first = h.quiet in let second = k.quiet in flat_map-append arrived one.notes (next one.node).notes ∙ rw (first, second) refl;
    unrun = let first = h.unrun in let second = k.unrun in flat_map-append ran one.notes (next one.node).notes ∙ rw (first, second) refl;
  }

  forwards_ok : (ps : List ℕ) → Each (λ x. FromCtrl S x.0 x.1) (forwards S ps)
  forwards_ok [] = tt
  forwards_ok (p ∷ ps) = (tt, forwards_ok ps)

  abbrev pub GivesChunks : Kind C → Type 0
  GivesChunks (Has c) = IsSelected S c
  GivesChunks k = Unit {0}

  abbrev pub ended_by : Kind C → Ctrl C → Bool
  ended_by Ended c = true
  ended_by k c = c.ended

  ok : {e : Bool} {did : Step S (Ctrl C)} → Each (λ x. FromCtrl S x.0 x.1) did.sends → IsSelected S did.node.kept → did.node.ended ≡ e
      → read arrived did.notes ≡ [] → read ran did.notes ≡ [] → CtrlOk e did
  ok sends kept ended quiet unrun = record { sends = sends; kept = kept; ended = ended; quiet = quiet; unrun = unrun }

  row_ok : {c : Ctrl C} {k : Kind C} {did : Step S (Ctrl C)} → IsSelected S c.kept → GivesChunks k → Row S c k did → CtrlOk (ended_by k c) did
  row_ok kept h (Freezes e) = ok (tt, tt) kept refl refl refl
  row_ok kept h (Gets e) = ok (tt, tt) kept refl refl refl
  row_ok kept h (Deletes cs e) = ok (h, tt) h refl refl refl
  row_ok kept h (Restores e) = ok (kept, tt) (S.empty, refl) refl refl refl
  row_ok kept h (Holds e) = ok (tt, tt) kept refl refl refl
  row_ok {c} kept h (Lays_low e) =
      ok (each-append (λ x. FromCtrl S x.0 x.1) (forwards S c.store) ((0, Lay false) ∷ []) (forwards_ok c.store) (tt, tt)) kept refl refl refl
  row_ok kept h (Lays_high p e) = ok (tt, tt) kept refl refl refl
  row_ok kept h (Fences e) = ok (tt, tt) kept refl refl refl
  row_ok kept h (Forwards p) = ok (tt, tt) kept refl refl refl
  row_ok kept h Hears_a = ok (tt, tt) kept refl refl refl
  row_ok kept h x = ok tt kept refl refl refl

  finish_ok : {c : Ctrl C} {did : Step S (Ctrl C)} → IsSelected S c.kept → Finishes S c did → CtrlOk c.ended did
  finish_ok kept (Not_yet e) = ok tt kept refl refl refl
  finish_ok kept (Asks e over) = ok (tt, tt) kept refl refl refl

  pub ctrl_ok : (c : Ctrl C) (port : ℕ) (m : Msg C) → IsSelected S c.kept → GivesChunks (kind port m) → CtrlOk (ended_by (kind port m) c) (ctrl_step S c port m)
  ctrl_ok c port m k h =
      let first = ctrl_row S c port m in
      let next = soon_at S first.node.phase first.node in
      let one = row_ok k h (row S c port m) in
      let two = row_ok one.kept tt (soon_row S first.node first.node.phase refl) in
      then_ok (ended_by (kind port m) c) first (soon S) one
      (then_ok first.node.ended next (finishes S) two (finish_ok two.kept (finish_row S next.node)))

  -- chunks come from A alone
  pub gives : (pl : Place) (m : Msg C) → Label S pl m → GivesChunks (kind (choice pl).port m)
  gives Ac (Chunks c) h = h
  gives pl (Chunks c) h = absurd h
  gives pl m h = tt
