-- How a run is closed: one message at a time from the controller to the switch, to an instance, and back, first of A and then of B.
use Rattle.two_machine.proofs.Words.{◌≡◌, ℕ, Bool, true, false, List, [], ◌∷◌, ◌&&◌, System, Msg, Ctrl, Finish, Stop, Final, is_over, World, read}

-- how far the closing is
pub data Close : Type 0 where
  Unsent : Close
  Finish_a : Close
  Stop_a : Close
  Final_a : Close
  Finish_b : Close
  Stop_b : Close
  Final_b : Close
  Closed : Close

-- its messages
abbrev pub ends : {C : Type 0} → Msg C → List ℕ
ends (Finish to) = to ∷ []
ends Stop = 2 ∷ []
ends Final = 3 ∷ []
ends m = []

-- what is seen of it: its messages on the links, what the controller has asked for and been told, who has stopped, and whether it may begin
pub record Signs : Type 0 where
  pub cs : List ℕ
  pub sa : List ℕ
  pub sb : List ℕ
  pub ac : List ℕ
  pub bc : List ℕ
  pub finished : Bool
  pub stopped : Bool
  pub a : Bool
  pub b : Bool
  pub closed : Bool
  pub over : Bool

abbrev pub no_signs : Signs
no_signs = record { cs = []; sa = []; sb = []; ac = []; bc = []; finished = false; stopped = false; a = false; b = false; closed = false; over = false }

abbrev pub signs : Close → Signs
signs Unsent = no_signs
signs Finish_a = record no_signs { cs = 0 ∷ []; finished = true; over = true }
signs Stop_a = record no_signs { sa = 2 ∷ []; finished = true; over = true }
signs Final_a = record no_signs { ac = 3 ∷ []; finished = true; a = true; over = true }
signs Finish_b = record no_signs { cs = 1 ∷ []; finished = true; a = true; over = true }
signs Stop_b = record no_signs { sb = 2 ∷ []; finished = true; a = true; closed = true; over = true }
signs Final_b = record no_signs { bc = 3 ∷ []; finished = true; a = true; b = true; closed = true; over = true }
signs Closed = record no_signs { finished = true; stopped = true; a = true; b = true; closed = true; over = true }

module _ {U T C R O : Type 0} (S : System U T C R O) where
  abbrev pub is_at_end : Ctrl C → Bool
  is_at_end c = is_over S c.phase && c.ended

  abbrev pub seen_signs : World T C O → Signs
  seen_signs v = record {
    cs = read ends v.cs;
    sa = read ends v.sa;
    sb = read ends v.sb;
    ac = read ends v.ac;
    bc = read ends v.bc;
    finished = v.ct.finished;
    stopped = v.ct.stopped;
    a = v.a.stopped;
    b = v.b.stopped;
    closed = v.sw.closed;
    over = is_at_end v.ct;
  }

  pub record Closing (v : World T C O) : Type 0 where
    pub at : Close
    pub is : seen_signs v ≡ signs at
