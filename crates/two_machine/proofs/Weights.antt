-- What each message and the controller weigh, and what a step of the controller costs.
use Rattle.two_machine.proofs.Words.{◌≡◌, ◌≤◌, ℕ, ◌+◌, ◌*◌, Bool, true, false, List, [], ◌∷◌, ◌++◌, length, refl, ap, ◌∙◌, arith, if◌then◌else◌, ◌==◌}
use Rattle.two_machine.proofs.Words.{length_push, Phase, Idle, Freezing, Getting, Deleting, Putting, Holding, Laying, Waiting, Turning, Settling, Ending, Over}
use Rattle.two_machine.proofs.Words.{System, Msg, Ctrl, Step, In_packet, Forward, Lay, Finish, Carry, Pass, Event, Final, forwards, ctrl_row, soon_at}
use Rattle.two_machine.proofs.Words.{finishes, ctrl_step, World, flat_map-append, to_one, sent, weigh, weigh-append}
use Rattle.two_machine.proofs.Rows.{Kind, Cell, Last, kind, Row, Freezes, Gets, Deletes, Restores, Holds, Lays_low, Waits, Lays_high, Settles, Fences, Is_over}
use Rattle.two_machine.proofs.Rows.{None_came, Stores, Finishes, Not_yet, Asks, row, soon_row, finish_row}

-- each message weighs one more than what it can lead to
abbrev pub w_in : {C : Type 0} → Msg C → ℕ
w_in (In_packet p) = 8
w_in m = 2

abbrev pub w_sa : {C : Type 0} → Msg C → ℕ
w_sa (Carry p) = 6
w_sa m = 5

abbrev pub w_sb : {C : Type 0} → Msg C → ℕ
w_sb (Carry p) = 6
w_sb (Pass p) = 3
w_sb m = 2

abbrev pub w_cs : {C : Type 0} → Msg C → ℕ
w_cs (Forward p) = 4
w_cs (Finish to) = if to == 0 then 6 else 3
w_cs m = 2

abbrev pub w_two : {C : Type 0} → Msg C → ℕ
w_two m = 2

abbrev pub w_one : {C : Type 0} → Msg C → ℕ
w_one m = 1

abbrev pub w_ac : {C : Type 0} → Msg C → ℕ
w_ac (Event p) = 5
w_ac Final = 4
w_ac m = 1

-- and so does what the controller is still to send
abbrev pub w_phase : Phase → ℕ
w_phase Idle = 16
w_phase Freezing = 14
w_phase Getting = 12
w_phase Deleting = 10
w_phase Putting = 8
w_phase Holding = 6
w_phase Laying = 4
w_phase Waiting = 4
w_phase Turning = 2
w_phase Settling = 2
w_phase Ending = 0
w_phase Over = 0

abbrev pub w_finish : Bool → ℕ
w_finish true = 0
w_finish false = 6

module _ {U T C R O : Type 0} (S : System U T C R O) where
  abbrev pub w_ctrl : Ctrl C → ℕ
  w_ctrl c = w_phase c.phase + 4 * length c.store + w_finish c.finished

  abbrev pub weight : World T C O → ℕ
  weight v =
      weigh w_in v.input + weigh w_sa v.sa + weigh w_sb v.sb + weigh w_one v.sc + weigh w_cs v.cs + weigh w_two v.ca + weigh w_two v.cb
      + weigh w_ac v.ac + weigh w_one v.bc + weigh w_one v.aw + weigh w_one v.bw + w_ctrl v.ct + length v.a.held + length v.b.held

  -- what a step of the controller sends
  abbrev pub w_sends : List (ℕ × Msg C) → ℕ
  w_sends xs = weigh w_cs (sent 0 xs) + weigh w_two (sent 2 xs) + weigh w_two (sent 3 xs)

  sends-append : (xs ys : List (ℕ × Msg C)) → w_sends (xs ++ ys) ≡ w_sends xs + w_sends ys
  sends-append xs ys =
      let a = ap (weigh w_cs) (flat_map-append (to_one 0) xs ys) ∙ weigh-append w_cs (sent 0 xs) (sent 0 ys) in
      let b = ap (weigh w_two) (flat_map-append (to_one 2) xs ys) ∙ weigh-append w_two (sent 2 xs) (sent 2 ys) in
      let d = ap (weigh w_two) (flat_map-append (to_one 3) xs ys) ∙ weigh-append w_two (sent 3 xs) (sent 3 ys) in
      omega (arith, a, b, d)

  w_forwards : (ps : List ℕ) → w_sends (forwards S ps) ≡ 4 * length ps
  w_forwards [] = refl
  w_forwards (p ∷ ps) = omega (arith, w_forwards ps)

  -- a step of the controller weighs at most so much
  abbrev pub Costs : Step S (Ctrl C) → ℕ → Type 0
  Costs did n = w_ctrl did.node + w_sends did.sends ≤ n

  phase_costs : (c : Ctrl C) (ph : Phase) → c.phase ≡ ph → w_ctrl c ≡ w_phase ph + 4 * length c.store + w_finish c.finished
  phase_costs c ph e = ap (λ x. w_phase x + 4 * length c.store + w_finish c.finished) e

  -- what a message may cost, one less than it weighs
  abbrev pub allowed : Kind C → ℕ
  allowed Cell = 4
  allowed (Last true) = 3
  allowed k = 0

  row_costs : {c : Ctrl C} {k : Kind C} {did : Step S (Ctrl C)} → Row S c k did → Costs did (w_ctrl c + allowed k)
  row_costs {c} (Freezes e) = let is = phase_costs c Idle e in omega (arith, is)
  row_costs {c} (Gets e) = let is = phase_costs c Freezing e in omega (arith, is)
  row_costs {c} (Deletes cs e) = let is = phase_costs c Getting e in omega (arith, is)
  row_costs {c} (Restores e) = let is = phase_costs c Deleting e in omega (arith, is)
  row_costs {c} (Holds e) = let is = phase_costs c Putting e in omega (arith, is)
  row_costs {c} (Lays_low e) = omega (arith, phase_costs c Holding e, sends-append (forwards S c.store) ((0, Lay false) ∷ []), w_forwards c.store)
  row_costs {c} (Waits e) = let is = phase_costs c Laying e in omega (arith, is)
  row_costs {c} (Lays_high p e) = let is = phase_costs c Waiting e in omega (arith, is)
  row_costs {c} (Settles e) = let is = phase_costs c Turning e in omega (arith, is)
  row_costs {c} (Fences e) = let is = phase_costs c Settling e in omega (arith, is)
  row_costs {c} (Is_over e) = let is = phase_costs c Ending e in omega (arith, is)
  row_costs {c} (None_came e) = let is = phase_costs c Waiting e in omega (arith, is)
  row_costs {c} (Stores p) = let more = length_push c.store p in omega (arith, more)
  row_costs r = omega arith

  finish_costs : {c : Ctrl C} {did : Step S (Ctrl C)} → Finishes S c did → Costs did (w_ctrl c)
  finish_costs (Not_yet e) = omega arith
  finish_costs (Asks e over) = let is = ap w_finish e in omega (arith, is)

  pub step_costs : (c : Ctrl C) (port : ℕ) (m : Msg C) → Costs (ctrl_step S c port m) (w_ctrl c + allowed (kind port m))
  step_costs c port m =
      let first = ctrl_row S c port m in
      let next = soon_at S first.node.phase first.node in
      let last = finishes S next.node in
      let three = finish_costs (finish_row S next.node) in
      let sent_first = sends-append first.sends (next.sends ++ last.sends) in
      omega (arith, row_costs (row S c port m), row_costs (soon_row S first.node first.node.phase refl), three, sent_first, sends-append next.sends last.sends)
