-- What the controller does of the closing in each step: it asks once for the finish of A, as soon as the update is over and the input ended.
use Rattle.two_machine.proofs.Words.{◌≡◌, ℕ, true, false, List, [], ◌∷◌, ◌++◌, refl, sym, ap, ◌∙◌, if◌then◌else◌, and_parts, false≢true, Phase, Idle, Freezing}
use Rattle.two_machine.proofs.Words.{Getting, Deleting, Putting, Holding, Laying, Waiting, Turning, Settling, Ending, Over, System, Msg, Ctrl, Step, Lay}
use Rattle.two_machine.proofs.Words.{Final, forwards, ctrl_row, and_then, soon_at, is_over, finishes, soon, ctrl_step, still, read, flat_map-append, sent}
use Rattle.two_machine.proofs.Words.{to_one}
use Rattle.two_machine.proofs.Rows.{Kind, Last, kind, Row, Stays, Freezes, Gets, Deletes, Restores, Holds, Lays_low, Waits, Lays_high, Settles, Fences}
use Rattle.two_machine.proofs.Rows.{Is_over, None_came, Hears_end, Hears_a, Hears_b, Finishes, Not_yet, Asks, row, soon_row, finish_row}
use Rattle.two_machine.proofs.Closing.{ends, is_at_end}

module _ {U T C R O : Type 0} (S : System U T C R O) where
  -- what the controller does in a row and as soon as it may, but for the finish itself
  pub record RowOk (c : Ctrl C) (did : Step S (Ctrl C)) : Type 0 where
    pub quiet : read ends (sent 0 did.sends) ≡ []
    pub finished : did.node.finished ≡ c.finished
    pub stopped : did.node.stopped ≡ c.stopped
    pub keeps : is_over S c.phase ≡ true → did.node.phase ≡ c.phase
    pub ended : c.ended ≡ true → did.node.ended ≡ true

  -- it stays in its phase, or it wasn't over
  stays : {c : Ctrl C} {did : Step S (Ctrl C)} → read ends (sent 0 did.sends) ≡ [] → did.node.finished ≡ c.finished → did.node.stopped ≡ c.stopped
      → did.node.phase ≡ c.phase → did.node.ended ≡ c.ended → RowOk c did
  stays quiet finished stopped phase ended =
      record { quiet = quiet; finished = finished; stopped = stopped; keeps = λ _. phase; ended = λ e. ended ∙ e }

  leaves : {c : Ctrl C} {did : Step S (Ctrl C)} (ph : Phase) → is_over S ph ≡ false → c.phase ≡ ph → read ends (sent 0 did.sends) ≡ []
      → did.node.finished ≡ c.finished → did.node.stopped ≡ c.stopped → did.node.ended ≡ c.ended → RowOk c did
  leaves ph off is quiet finished stopped ended = record {
    quiet = quiet;
    finished = finished;
    stopped = stopped;
    keeps = λ over. absurd (false≢true (sym (ap (is_over S) is ∙ off) ∙ over));
    ended = λ e. ended ∙ e;
  }

  forwards_quiet : (ps : List ℕ) → read ends (sent 0 (forwards S ps ++ (0, Lay false) ∷ [])) ≡ []
  forwards_quiet [] = refl
  forwards_quiet (p ∷ ps) = forwards_quiet ps

  -- all rows but that of Final
  abbrev NotLast : Kind C → Type 0
  NotLast (Last b) = ⊥
  NotLast k = Unit {0}

  row_ok : {c : Ctrl C} {k : Kind C} {did : Step S (Ctrl C)} → NotLast k → Row S c k did → RowOk c did
  row_ok h (Freezes e) = leaves Idle refl e refl refl refl refl
  row_ok h (Gets e) = leaves Freezing refl e refl refl refl refl
  row_ok h (Deletes cs e) = leaves Getting refl e refl refl refl refl
  row_ok h (Restores e) = leaves Deleting refl e refl refl refl refl
  row_ok h (Holds e) = leaves Putting refl e refl refl refl refl
  row_ok {c} h (Lays_low e) = leaves Holding refl e (forwards_quiet c.store) refl refl refl
  row_ok h (Waits e) = leaves Laying refl e refl refl refl refl
  row_ok h (Lays_high p e) = leaves Waiting refl e refl refl refl refl
  row_ok h (Settles e) = leaves Turning refl e refl refl refl refl
  row_ok h (Fences e) = leaves Settling refl e refl refl refl refl
  row_ok h (Is_over e) = leaves Ending refl e refl refl refl refl
  row_ok h (None_came e) = leaves Waiting refl e refl refl refl refl
  row_ok h Hears_end = record { quiet = refl; finished = refl; stopped = refl; keeps = λ _. refl; ended = λ _. refl }
  row_ok h Hears_a = absurd h
  row_ok h Hears_b = absurd h
  row_ok h r = stays refl refl refl refl refl

  abbrev pub NotFinal : Msg C → Type 0
  NotFinal Final = ⊥
  NotFinal m = Unit {0}

  not_last : (port : ℕ) (m : Msg C) → NotFinal m → NotLast (kind port m)
  not_last port Final h = h
  not_last port m h = tt

  -- the finish
  pub record FinishOk (c : Ctrl C) (did : Step S (Ctrl C)) : Type 0 where
    pub stopped : did.node.stopped ≡ c.stopped
    pub at_end : is_at_end S did.node ≡ is_at_end S c
    pub if_done : c.finished ≡ true → (did.node.finished ≡ true) × (read ends (sent 0 did.sends) ≡ [])
    pub if_not : c.finished ≡ false → (did.node.finished ≡ is_at_end S c) × (read ends (sent 0 did.sends) ≡ (if is_at_end S c then 0 ∷ [] else []))

  finish_ok : {c : Ctrl C} {did : Step S (Ctrl C)} → Finishes S c did → FinishOk c did
  finish_ok (Not_yet no_end) = record {
    stopped = refl;
    at_end = refl;
    if_done = λ is. (is, refl);
    if_not = λ is. (let off = no_end is in rw off (is, refl));
  }
  finish_ok (Asks unsent over) =
      record { stopped = refl; at_end = refl; if_done = λ is. absurd (false≢true (sym unsent ∙ is)); if_not = λ _. rw over (refl, refl) }

  -- a whole step, but that on Final
  pub record StepOk (c : Ctrl C) (did : Step S (Ctrl C)) : Type 0 where
    pub stopped : did.node.stopped ≡ c.stopped
    pub if_done : c.finished ≡ true → is_at_end S c ≡ true → (did.node.finished ≡ true) × (is_at_end S did.node ≡ true) × (read ends (sent 0 did.sends) ≡ [])
    pub if_not : c.finished ≡ false
        → (did.node.finished ≡ is_at_end S did.node) × (read ends (sent 0 did.sends) ≡ (if is_at_end S did.node then 0 ∷ [] else []))

  pub over_is : (ph : Phase) → is_over S ph ≡ true → ph ≡ Over
  over_is Over e = refl
  over_is ph e = absurd (false≢true e)

  then_ok : (c : Ctrl C) (one : Step S (Ctrl C)) → RowOk c one → StepOk c (and_then S one (soon S))
  then_ok c one r =
      let f = row_ok tt (soon_row S one.node one.node.phase refl) in
      let next = soon_at S one.node.phase one.node in
      let e = finish_ok (finish_row S next.node) in
      let sends : read ends (sent 0 (one.sends ++ (next.sends ++ (finishes S next.node).sends))) ≡ read ends (sent 0 (finishes S next.node).sends) =
      ap (read ends) (flat_map-append (to_one 0) one.sends (next.sends ++ (finishes S next.node).sends))
      ∙ flat_map-append ends (sent 0 one.sends) (sent 0 (next.sends ++ (finishes S next.node).sends))
      ∙ ap (λ xs. xs ++ read ends (sent 0 (next.sends ++ (finishes S next.node).sends))) r.quiet
      ∙ ap (read ends) (flat_map-append (to_one 0) next.sends (finishes S next.node).sends)
      ∙ flat_map-append ends (sent 0 next.sends) (sent 0 (finishes S next.node).sends)
      ∙ ap (λ xs. xs ++ read ends (sent 0 (finishes S next.node).sends)) f.quiet
      in
      record {
        stopped = e.stopped ∙ f.stopped ∙ r.stopped;
        if_done = λ done at_end.
            let parts = and_parts (is_over S c.phase) c.ended at_end in
            let over = over_is c.phase parts.0 in
            let one_over : is_over S one.node.phase ≡ true = ap (is_over S) (r.keeps parts.0 ∙ over) in
            let next_over : is_over S next.node.phase ≡ true = ap (is_over S) (f.keeps one_over) ∙ one_over in
            let next_ended : next.node.ended ≡ true = f.ended (r.ended parts.1) in
            let finished : next.node.finished ≡ true = f.finished ∙ r.finished ∙ done in
            let does = e.if_done finished in
            (does.0, e.at_end ∙ rw (next_over, next_ended) refl, sends ∙ does.1);
        if_not = λ not_done.
            let finished : next.node.finished ≡ false = f.finished ∙ r.finished ∙ not_done in
            let does = e.if_not finished in
            let same_end = e.at_end in
            (does.0 ∙ sym same_end, sends ∙ does.1 ∙ ap (λ b. if b then 0 ∷ [] else []) (sym same_end));
      }

  pub step_ok : (c : Ctrl C) (port : ℕ) (m : Msg C) → NotFinal m → StepOk c (ctrl_step S c port m)
  step_ok c port m h = then_ok c (ctrl_row S c port m) (row_ok (not_last port m h) (row S c port m))

  -- what it does of itself
  pub soon_ok : (c : Ctrl C) → StepOk c (soon S c)
  soon_ok c = then_ok c (still S c) (row_ok tt Stays)
