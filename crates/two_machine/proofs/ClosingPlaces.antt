-- Each message that is taken keeps the closing, at each place.
use Rattle.two_machine.proofs.Words.{◌≡◌, ℕ, Bool, true, false, List, [], ◌∷◌, ◌++◌, refl, ap, append-nil, if◌then◌else◌, ◌==◌, Free, Target, To_a}
use Rattle.two_machine.proofs.Words.{System, Msg, Ctrl, Inst, In_packet, In_start, In_end, Start, End, Copied, Laid, Forward, Lay, Finish, Step, Carry}
use Rattle.two_machine.proofs.Words.{Pass, Stop, Enable, Get, Delete, Restore, Fence, Enabled, Chunks, Deleted, Restored, Event, Seen, Fenced, Final, Credit}
use Rattle.two_machine.proofs.Words.{has_room, goes, processed, all_processed, still, says, and_then, soon, ctrl_step, World, read, flat_map-append, Label}
use Rattle.two_machine.proofs.Words.{sent, put_switch, put_ctrl, put_a, put_b, put_twice, result, Place, In, Cs, Aw, Bw, Sc, Ac, Bc, Sa, Ca, Sb, Cb, with_waits}
use Rattle.two_machine.proofs.Rows.{Carried, Runs, Held, carried}
use Rattle.two_machine.proofs.Closing.{ends, seen_signs, Closing}
use Rattle.two_machine.proofs.ClosingController.{NotFinal, step_ok, soon_ok}
use Rattle.two_machine.proofs.ClosingSteps.{finishes_at, stops_a, stops_b, hears_a, hears_b, at_finish, at_stop_a, at_stop_b, at_final_a, at_final_b}
use Rattle.two_machine.proofs.ClosingSteps.{same_close, next_close, ctrl_close}

ruleset reads = (flat_map-append, append-nil)

module _ {U T C R O : Type 0} (S : System U T C R O) where
  -- a packet arrives, is carried, or all that was held is processed
  in_signs : (v : World T C O) (p : ℕ) (b : Bool) (t : Target)
      → seen_signs S (put_switch S v (if b then goes S t v.sw p else still S v.sw)) ≡ seen_signs S v
  in_signs v p true To_a = simp reads
  in_signs v p x t = simp reads

  a_signs : (v : World T C O) {p : ℕ} {did : Step S (Inst T)} → Carried S 0 v.a p did → seen_signs S (put_a S v did) ≡ seen_signs S v
  a_signs v (Runs free) = simp reads
  a_signs v x = simp reads

  b_signs : (v : World T C O) {p : ℕ} {did : Step S (Inst T)} → Carried S 1 v.b p did → seen_signs S (put_b S v did) ≡ seen_signs S v
  b_signs v (Held covers) = simp reads
  b_signs v run = simp reads

  all_quiet : (n : ℕ) (i : Inst T) (ps : List ℕ)
      → (read ends (sent 1 (all_processed S n i ps).sends) ≡ []) × ((all_processed S n i ps).node.stopped ≡ i.stopped)
  all_quiet n i [] = (refl, refl)
  all_quiet n i (p ∷ ps) = all_quiet n (processed S n i p).node ps

  finish_signs : (v : World T C O) (to : ℕ) (rest : List (Msg C))
      → seen_signs S (result S Cs (record v { cs = rest }) (Finish to)) ≡ finishes_at to (seen_signs S (record v { cs = Finish to ∷ rest }))
  finish_signs v to rest =
      elim (to == 0) as (λ b.
      seen_signs S
      (put_switch S (record v { cs = rest })
      (record { node = record v.sw { closed = if to == 1 then true else v.sw.closed }; sends = (if b then 2 else 3, Stop) ∷ []; notes = [] }))
      ≡ record (finishes_at to (seen_signs S (record v { cs = Finish to ∷ rest }))) {
        sa = if b then read ends v.sa ++ 2 ∷ [] else read ends v.sa;
        sb = if b then read ends v.sb else read ends v.sb ++ 2 ∷ [];
      }) [
        | true ↦ simp reads
        | false ↦ simp reads
      ]

  -- the controller, but on Final; and what it does as soon as it may after that
  heard : (v : World T C O) (port : ℕ) (m : Msg C) → NotFinal S m → Closing S v → Closing S (put_ctrl S v (ctrl_step S v.ct port m))
  heard v port m other h = ctrl_close S v (ctrl_step S v.ct port m) (step_ok S v.ct port m other) h

  then_soon : (v : World T C O) (one : Step S (Ctrl C)) → Closing S (put_ctrl S v one) → Closing S (put_ctrl S v (and_then S one (soon S)))
  then_soon v one h =
      same_close S (ap (seen_signs S) (put_twice S v one (soon S))) (ctrl_close S (put_ctrl S v one) (soon S one.node) (soon_ok S one.node) h)

  pub closing_keeps : (pl : Place) (v : World T C O) (m : Msg C) (rest : List (Msg C)) → Label S pl m → Closing S (with_waits S pl (m ∷ rest) v)
      → Closing S (result S pl (with_waits S pl rest v) m)
  closing_keeps In v (In_packet p) rest l h =
      same_close S (in_signs (record v { input = rest }) p (has_room S v.sw) (if S.covers p then v.sw.target else To_a)) h
  closing_keeps In v In_start rest l h = same_close S (simp reads) h
  closing_keeps In v In_end rest l h = same_close S (simp reads) h
  closing_keeps Cs v (Forward p) rest l h = same_close S (simp reads) h
  closing_keeps Cs v (Lay high) rest l h = same_close S (simp reads) h
  closing_keeps Cs v (Finish to) rest l h =
      next_close S (finishes_at to) (finish_signs v to rest) h (at_finish h.at to (read ends rest) (ap (λ x. x.cs) h.is))
  closing_keeps Aw v (Credit p) rest l h = same_close S (simp reads) h
  closing_keeps Bw v (Credit p) rest l h = same_close S (simp reads) h
  closing_keeps Sa v (Carry p) rest l h = same_close S (a_signs (record v { sa = rest }) (carried S 0 v.a p)) h
  closing_keeps Sa v Stop rest l h =
      next_close S stops_a (simp reads) h (at_stop_a h.at (read ends rest) (ap (λ x. x.sa) h.is))
  closing_keeps Sb v (Carry p) rest l h = same_close S (b_signs (record v { sb = rest }) (carried S 1 v.b p)) h
  closing_keeps Sb v (Pass p) rest l h = same_close S (simp reads) h
  closing_keeps Sb v Stop rest l h =
      next_close S stops_b (simp reads) h (at_stop_b h.at (read ends rest) (ap (λ x. x.sb) h.is))
  closing_keeps Ca v (Enable r) rest l h = same_close S (simp reads) h
  closing_keeps Ca v Get rest l h = same_close S (simp reads) h
  closing_keeps Ca v (Delete c) rest l h = same_close S (simp reads) h
  closing_keeps Cb v (Enable r) rest l h = same_close S (simp reads) h
  closing_keeps Cb v (Restore c) rest l h = same_close S (simp reads) h
  closing_keeps Cb v Fence rest l h =
      let quiet = all_quiet 1 (record v.b { rule = Free; held = [] }) v.b.held in
      same_close S (simp (reads, quiet.0, quiet.1)) h
  closing_keeps Sc v Start rest l h = heard (record v { sc = rest }) 0 Start tt (same_close S refl h)
  closing_keeps Sc v End rest l h = heard (record v { sc = rest }) 0 End tt (same_close S refl h)
  closing_keeps Sc v (Copied p) rest l h = heard (record v { sc = rest }) 0 (Copied p) tt (same_close S refl h)
  closing_keeps Sc v (Laid high) rest l h = heard (record v { sc = rest }) 0 (Laid high) tt (same_close S refl h)
  closing_keeps Ac v Enabled rest l h = heard (record v { ac = rest }) 2 Enabled tt (same_close S refl h)
  closing_keeps Ac v (Chunks c) rest l h = heard (record v { ac = rest }) 2 (Chunks c) tt (same_close S refl h)
  closing_keeps Ac v Deleted rest l h = heard (record v { ac = rest }) 2 Deleted tt (same_close S refl h)
  closing_keeps Ac v (Event p) rest l h = heard (record v { ac = rest }) 2 (Event p) tt (same_close S refl h)
  closing_keeps Ac v Final rest l h =
      then_soon (record v { ac = rest }) (says S v.ct 0 (Finish 1))
      (next_close S hears_a (simp reads) h (at_final_a h.at (read ends rest) (ap (λ x. x.ac) h.is)))
  closing_keeps Bc v Restored rest l h = heard (record v { bc = rest }) 3 Restored tt (same_close S refl h)
  closing_keeps Bc v Enabled rest l h = heard (record v { bc = rest }) 3 Enabled tt (same_close S refl h)
  closing_keeps Bc v Fenced rest l h = heard (record v { bc = rest }) 3 Fenced tt (same_close S refl h)
  closing_keeps Bc v (Seen p) rest l h = heard (record v { bc = rest }) 3 (Seen p) tt (same_close S refl h)
  closing_keeps Bc v Final rest l h =
      then_soon (record v { bc = rest }) (still S (record v.ct { stopped = true }))
      (next_close S hears_b (simp reads) h (at_final_b h.at (read ends rest) (ap (λ x. x.bc) h.is)))
  closing_keeps pl v m rest l h = absurd l
