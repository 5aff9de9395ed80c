-- The switch counts the packets under way: those on links, in the store, and held.
use Rattle.two_machine.proofs.Words.{◌≡◌, ◌≢◌, ℕ, ◌+◌, true, false, List, [], ◌∷◌, ◌++◌, length, refl, ap, ◌∙◌, arith, if◌then◌else◌, ◌==◌, length_push}
use Rattle.two_machine.proofs.Words.{Free, Drops, Target, To_a, System, Msg, Switch, Ctrl, Inst, Step, In_packet, In_start, In_end, Forward, Lay, Finish}
use Rattle.two_machine.proofs.Words.{Carry, Pass, Stop, Enable, Get, Delete, Restore, Fence, Event, Fenced, Credit, goes, switch_step, processed}
use Rattle.two_machine.proofs.Words.{all_processed, inst_step, forwards, ctrl_row, soon_at, finishes, ctrl_step, takes_in, World, flat_map-append, Place, Ac}
use Rattle.two_machine.proofs.Words.{Bc}
use Rattle.two_machine.proofs.Words.{Ca, Cb, Cs, In, Sa, Sb, Sc, Aw, Bw, with_waits, OnBack, Label, to_one, sent, put_switch, put_ctrl, put_a, put_b, result}
use Rattle.two_machine.proofs.Words.{weigh, weigh-append}
use Rattle.two_machine.proofs.Rows.{Kind, Cell, kind, Row, Lays_low, Stores, Finishes, Not_yet, Asks, row, soon_row, finish_row, Carried, Runs, Hands_out}
use Rattle.two_machine.proofs.Rows.{Held, carried}
use Rattle.two_machine.proofs.Arrivals.{Ready}

-- whether a message carries a cell
abbrev pub cell : {C : Type 0} → Msg C → ℕ
cell (Carry p) = 1
cell (Pass p) = 1
cell (Forward p) = 1
cell (Event p) = 1
cell (Credit p) = 1
cell m = 0

-- and whether a message brings the controller one
abbrev pub cell_in : {C : Type 0} → Kind C → ℕ
cell_in Cell = 1
cell_in k = 0

module _ {U T C R O : Type 0} (S : System U T C R O) where
  abbrev pub cells : World T C O → ℕ
  cells v =
      weigh cell v.sa + weigh cell v.sb + weigh cell v.cs + weigh cell v.ac + weigh cell v.aw + weigh cell v.bw + length v.ct.store + length v.a.held
      + length v.b.held

  pub record Counts (window : ℕ) (v : World T C O) : Type 0 where
    pub flying : v.sw.flying ≡ cells v
    pub window_is : v.sw.window ≡ window

  -- a step of the controller keeps its cells
  abbrev Keeps : Ctrl C → Step S (Ctrl C) → ℕ → Type 0
  Keeps c did n = length did.node.store + weigh cell (sent 0 did.sends) ≡ length c.store + n

  stored_all : (ps : List ℕ) → weigh cell (sent 0 (forwards S ps ++ (0, Lay false) ∷ [])) ≡ length ps
  stored_all [] = refl
  stored_all (p ∷ ps) = omega (arith, stored_all ps)

  row_keeps : {c : Ctrl C} {k : Kind C} {did : Step S (Ctrl C)} → Row S c k did → Keeps c did (cell_in k)
  row_keeps {c} (Lays_low e) = omega (arith, stored_all c.store)
  row_keeps {c} (Stores p) = let more = length_push c.store p in omega (arith, more)
  row_keeps r = omega arith

  finish_keeps : {c : Ctrl C} {did : Step S (Ctrl C)} → Finishes S c did → Keeps c did 0
  finish_keeps (Not_yet e) = omega arith
  finish_keeps (Asks e over) = omega arith

  sent_cells : (xs ys : List (ℕ × Msg C)) → weigh cell (sent 0 (xs ++ ys)) ≡ weigh cell (sent 0 xs) + weigh cell (sent 0 ys)
  sent_cells xs ys = ap (weigh cell) (flat_map-append (to_one 0) xs ys) ∙ weigh-append cell (sent 0 xs) (sent 0 ys)

  step_keeps : (c : Ctrl C) (port : ℕ) (m : Msg C) → Keeps c (ctrl_step S c port m) (cell_in (kind port m))
  step_keeps c port m =
      let first = ctrl_row S c port m in
      let next = soon_at S first.node.phase first.node in
      let last = finishes S next.node in
      let three = finish_keeps (finish_row S next.node) in
      let sent_first = sent_cells first.sends (next.sends ++ last.sends) in
      omega (arith, row_keeps (row S c port m), row_keeps (soon_row S first.node first.node.phase refl), three, sent_first, sent_cells next.sends last.sends)

  -- what a step of the switch, of A and of B does to the cells that it counts and holds: n come with its message
  abbrev SwitchKeeps : Switch → Step S Switch → ℕ → Type 0
  SwitchKeeps s did n =
      (did.node.flying + n ≡ s.flying + weigh cell (sent 2 did.sends) + weigh cell (sent 3 did.sends)) × (did.node.window ≡ s.window)

  abbrev A_keeps : Inst T → Step S (Inst T) → ℕ → Type 0
  A_keeps i did n = length did.node.held + weigh cell (sent 0 did.sends) + weigh cell (sent 1 did.sends) ≡ length i.held + n

  abbrev B_keeps : Inst T → Step S (Inst T) → ℕ → Type 0
  B_keeps i did n = length did.node.held + weigh cell (sent 0 did.sends) ≡ length i.held + n

  -- steps at each node
  ctrl_counts : (window : ℕ) (v : World T C O) (did : Step S (Ctrl C)) (n : ℕ) → Keeps v.ct did n → v.sw.flying ≡ cells v + n → v.sw.window ≡ window
      → Counts window (put_ctrl S v did)
  ctrl_counts window v did n keeps flying win =
      record { flying = omega (arith, weigh-append cell v.cs (sent 0 did.sends), keeps, flying); window_is = win }

  switch_counts : (window : ℕ) (v : World T C O) (did : Step S Switch) (n : ℕ) → SwitchKeeps v.sw did n → v.sw.flying ≡ cells v + n → v.sw.window ≡ window
      → Counts window (put_switch S v did)
  switch_counts window v did n keeps flying win = record {
    flying = omega (arith, weigh-append cell v.sa (sent 2 did.sends), weigh-append cell v.sb (sent 3 did.sends), keeps.0, flying);
    window_is = keeps.1 ∙ win;
  }

  a_counts : (window : ℕ) (v : World T C O) (did : Step S (Inst T)) (n : ℕ) → A_keeps v.a did n → v.sw.flying ≡ cells v + n → v.sw.window ≡ window
      → Counts window (put_a S v did)
  a_counts window v did n keeps flying win = record {
    flying = omega (arith, weigh-append cell v.aw (sent 0 did.sends), weigh-append cell v.ac (sent 1 did.sends), keeps, flying);
    window_is = win;
  }

  b_counts : (window : ℕ) (v : World T C O) (did : Step S (Inst T)) (n : ℕ) → B_keeps v.b did n → v.sw.flying ≡ cells v + n → v.sw.window ≡ window
      → Counts window (put_b S v did)
  b_counts window v did n keeps flying win =
      record { flying = omega (arith, weigh-append cell v.bw (sent 0 did.sends), keeps, flying); window_is = win }

  goes_cells : (t : Target) (s : Switch) (p : ℕ) → SwitchKeeps s (goes S t s p) 0
  goes_cells To_a s p = (omega arith, refl)
  goes_cells t s p = (omega arith, refl)

  in_cells : (s : Switch) (m : Msg C) → Label S In m → takes_in S s m ≡ true → SwitchKeeps s (switch_step S s m) 0
  in_cells s (In_packet p) l ready = rw ready (goes_cells (if S.covers p then s.target else To_a) s p)
  in_cells s In_start l ready = (omega arith, refl)
  in_cells s In_end l ready = (omega arith, refl)
  in_cells s m l ready = absurd l

  cs_cells : (s : Switch) (m : Msg C) → Label S Cs m → SwitchKeeps s (switch_step S s m) (cell m)
  cs_cells s (Forward p) l = (omega arith, refl)
  cs_cells s (Lay high) l = (omega arith, refl)
  cs_cells s (Finish to) l =
      elim (to == 0) as (λ b. SwitchKeeps s (record { node = s; sends = (if b then 2 else 3, Stop) ∷ []; notes = [] }) 0) [
        | true ↦ (omega arith, refl)
        | false ↦ (omega arith, refl)
      ]
  cs_cells s m l = absurd l

  back_cells : (s : Switch) (m : Msg C) (n : ℕ) → OnBack S m → s.flying ≡ n + cell m → SwitchKeeps s (switch_step S s m) (cell m)
  back_cells s (Credit p) n l e = (omega (arith, e), refl)
  back_cells s m n l e = absurd l

  back_counts : (window : ℕ) (v : World T C O) (m : Msg C) → OnBack S m → v.sw.flying ≡ cells v + cell m → v.sw.window ≡ window
      → Counts window (put_switch S v (switch_step S v.sw m))
  back_counts window v m l flying win =
      switch_counts window v (switch_step S v.sw m) (cell m) (back_cells v.sw m (cells v) l flying) flying win

  carry_a : {i : Inst T} {p : ℕ} {did : Step S (Inst T)} → Carried S 0 i p did → A_keeps i did 1
  carry_a {i} {p} (Held covers) = omega (arith, length_push i.held p)
  carry_a run = omega arith

  sa_cells : (i : Inst T) (m : Msg C) → Label S Sa m → A_keeps i (inst_step S 0 i m) (cell m)
  sa_cells i (Carry p) l = carry_a (carried S 0 i p)
  sa_cells i Stop l = omega arith
  sa_cells i m l = absurd l

  ca_cells : (i : Inst T) (m : Msg C) → Label S Ca m → A_keeps i (inst_step S 0 i m) 0
  ca_cells i (Enable r) l = omega arith
  ca_cells i Get l = omega arith
  ca_cells i (Delete c) l = omega arith
  ca_cells i m l = absurd l

  carry_b : {i : Inst T} {p : ℕ} {did : Step S (Inst T)} → i.rule ≢ Drops → Carried S 1 i p did → B_keeps i did 1
  carry_b no_drop (Runs free) = omega arith
  carry_b no_drop (Hands_out drops covers) = absurd (no_drop drops)
  carry_b {i} {p} no_drop (Held covers) = omega (arith, length_push i.held p)

  sb_cells : (i : Inst T) (m : Msg C) → i.rule ≢ Drops → Label S Sb m → B_keeps i (inst_step S 1 i m) (cell m)
  sb_cells i (Carry p) no_drop l = carry_b no_drop (carried S 1 i p)
  sb_cells i (Pass p) no_drop l = omega arith
  sb_cells i Stop no_drop l = omega arith
  sb_cells i m no_drop l = absurd l

  all_cells : (i : Inst T) (ps : List ℕ)
      → (length (all_processed S 1 i ps).node.held ≡ length i.held) × (weigh cell (sent 0 ((all_processed S 1 i ps).sends ++ (1, Fenced) ∷ [])) ≡ length ps)
  all_cells i [] = (refl, refl)
  all_cells i (p ∷ ps) = let rest = all_cells (processed S 1 i p).node ps in (rest.0, omega (arith, rest.1))

  cb_cells : (i : Inst T) (m : Msg C) → Label S Cb m → B_keeps i (inst_step S 1 i m) 0
  cb_cells i (Enable r) l = omega arith
  cb_cells i (Restore c) l = omega arith
  cb_cells i Fence l = let all = all_cells (record i { rule = Free; held = [] }) i.held in omega (arith, all.0, all.1)
  cb_cells i m l = absurd l

  -- the controller takes a message that brings it this many cells
  ctrl_takes : (window : ℕ) (v : World T C O) (port : ℕ) (m : Msg C) (n : ℕ) → cell_in (kind port m) ≡ n → v.sw.flying ≡ cells v + n → v.sw.window ≡ window
      → Counts window (put_ctrl S v (ctrl_step S v.ct port m))
  ctrl_takes window v port m n brings flying window_is =
      ctrl_counts window v (ctrl_step S v.ct port m) (cell_in (kind port m)) (step_keeps v.ct port m) (omega (arith, flying, brings)) window_is

  ac_cells : (m : Msg C) → Label S Ac m → cell_in (kind 2 m) ≡ cell m
  ac_cells (Carry p) l = absurd l
  ac_cells (Pass p) l = absurd l
  ac_cells (Forward p) l = absurd l
  ac_cells (Credit p) l = absurd l
  ac_cells m l = refl

  bc_cells : (m : Msg C) → Label S Bc m → cell_in (kind 3 m) ≡ 0
  bc_cells (Event p) l = absurd l
  bc_cells m l = refl

  sc_cells : (m : Msg C) → Label S Sc m → cell_in (kind 0 m) ≡ 0
  sc_cells (Event p) l = absurd l
  sc_cells m l = refl

  pub counts_keeps : (window : ℕ) (pl : Place) (v : World T C O) (m : Msg C) (rest : List (Msg C)) → Label S pl m → Ready S pl v m → v.b.rule ≢ Drops
      → Counts window (with_waits S pl (m ∷ rest) v) → Counts window (result S pl (with_waits S pl rest v) m)
  counts_keeps window In v m rest l ready no_drop h =
      switch_counts window (with_waits S In rest v) (switch_step S v.sw m) 0 (in_cells v.sw m l ready) (omega (arith, h.flying)) h.window_is
  counts_keeps window Cs v m rest l ready no_drop h =
      switch_counts window (with_waits S Cs rest v) (switch_step S v.sw m) (cell m) (cs_cells v.sw m l) (omega (arith, h.flying)) h.window_is
  counts_keeps window Aw v m rest l ready no_drop h = back_counts window (with_waits S Aw rest v) m l (omega (arith, h.flying)) h.window_is
  counts_keeps window Bw v m rest l ready no_drop h = back_counts window (with_waits S Bw rest v) m l (omega (arith, h.flying)) h.window_is
  counts_keeps window Sc v m rest l ready no_drop h =
      ctrl_takes window (with_waits S Sc rest v) 0 m 0 (sc_cells m l) (omega (arith, h.flying)) h.window_is
  counts_keeps window Ac v m rest l ready no_drop h =
      ctrl_takes window (with_waits S Ac rest v) 2 m (cell m) (ac_cells m l) (omega (arith, h.flying)) h.window_is
  counts_keeps window Bc v m rest l ready no_drop h =
      ctrl_takes window (with_waits S Bc rest v) 3 m 0 (bc_cells m l) (omega (arith, h.flying)) h.window_is
  counts_keeps window Sa v m rest l ready no_drop h =
      a_counts window (with_waits S Sa rest v) (inst_step S 0 v.a m) (cell m) (sa_cells v.a m l) (omega (arith, h.flying)) h.window_is
  counts_keeps window Ca v m rest l ready no_drop h =
      a_counts window (with_waits S Ca rest v) (inst_step S 0 v.a m) 0 (ca_cells v.a m l) (omega (arith, h.flying)) h.window_is
  counts_keeps window Sb v m rest l ready no_drop h =
      b_counts window (with_waits S Sb rest v) (inst_step S 1 v.b m) (cell m) (sb_cells v.b m no_drop l) (omega (arith, h.flying)) h.window_is
  counts_keeps window Cb v m rest l ready no_drop h =
      b_counts window (with_waits S Cb rest v) (inst_step S 1 v.b m) 0 (cb_cells v.b m l) (omega (arith, h.flying)) h.window_is
