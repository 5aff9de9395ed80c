-- The world at the start, and every run from there.
use Rattle.two_machine.proofs.Words.{◌≡◌, ℕ, ◌+◌, length, false, None, List, [], ◌∷◌, ◌++◌, refl, ap, Choice, run, IsRun, opening, Before, Not_begun, Rises}
use Rattle.two_machine.proofs.Words.{System, Laws, In_end, none, node_step, node_ready, in_packets, first_nodes, items, World, net, read, starts, Observer}
use Rattle.two_machine.proofs.Words.{Nobody, Of_unit, IsTaken, own, Place, In, waits, Label, Each}
use Rattle.two_machine.proofs.Machine as m
use Rattle.two_machine.proofs.Tables.{fresh}
use Rattle.two_machine.proofs.ControllerSees.{inside_none}
use Rattle.two_machine.proofs.Arrivals.{coming, EndsLast, In_input_still}
use Rattle.two_machine.proofs.Runs.{Holds, Reached, Keeps, reach}
use Rattle.two_machine.proofs.Closing.{Unsent}

-- the world at the start
module _ {U T C R O : Type 0} (S : System U T C R O) where
  abbrev pub first_world : ℕ → List ℕ → List ℕ → World T C O
  first_world window early late = record {
    sw = record { target = m.To_a; window = window; flying = 0; closed = false };
    ct = record { phase = m.Idle; store = []; kept = none S; last = None; seen = None; ended = false; finished = false; stopped = false };
    a = fresh S;
    b = fresh S;
    sa = [];
    sb = [];
    sc = [];
    cs = [];
    ca = [];
    cb = [];
    ac = [];
    bc = [];
    aw = [];
    bw = [];
    input = items S early late;
    log = [];
  }

  pub opens : (window : ℕ) (early late : List ℕ) → opening (first_nodes S window) (items S early late) ≡ net (first_world window early late)
  opens window early late = refl

  late_last : (ps : List ℕ) → EndsLast (in_packets S ps ++ In_end ∷ [])
  late_last [] = tt
  late_last (p ∷ ps) = late_last ps

  all_last : (early late : List ℕ) → EndsLast (items S early late)
  all_last [] late = late_last late
  all_last (p ∷ early) late = all_last early late

  late_label : (ps : List ℕ) → Each (Label S In) (in_packets S ps ++ In_end ∷ [])
  late_label [] = (tt, tt)
  late_label (p ∷ ps) = (tt, late_label ps)

  all_label : (early late : List ℕ) → Each (Label S In) (items S early late)
  all_label [] late = (tt, late_label late)
  all_label (p ∷ early) late = (tt, all_label early late)

  late_coming : (ps : List ℕ) → read coming (in_packets S ps ++ In_end ∷ []) ≡ ps
  late_coming [] = refl
  late_coming (p ∷ ps) = ap (λ xs. p ∷ xs) (late_coming ps)

  all_coming : (early late : List ℕ) → read coming (items S early late) ≡ early ++ late
  all_coming [] late = late_coming late
  all_coming (p ∷ early) late = ap (λ xs. p ∷ xs) (all_coming early late)

  late_starts : (ps : List ℕ) → read starts (in_packets S ps ++ In_end ∷ []) ≡ []
  late_starts [] = refl
  late_starts (p ∷ ps) = late_starts ps

  all_starts : (early late : List ℕ) → read starts (items S early late) ≡ 0 ∷ []
  all_starts [] late = ap (λ xs. 0 ∷ xs) (late_starts late)
  all_starts (p ∷ early) late = all_starts early late

  module _ (laws : Laws S) (o : Observer U) (its : IsTaken S o) (window : ℕ) (early late : List ℕ) (rises : Rises 0 (early ++ late)) where
    own_empty : (o : Observer U) → own S o S.empty ≡ None
    own_empty Nobody = refl
    own_empty (Of_unit u) = laws.nothing u

    pub first_holds : Holds S laws o its (early ++ late) rises (first_world window early late)
    first_holds =
        record {
          labels = record { standing = first_label; kept = (S.empty, refl) };
          end_at = In_input_still (all_last early late) tt refl;
          closing = record { at = Unsent; is = refl };
          arrivals_are = all_coming early late;
          stage = Before Not_begun [] [] false;
          fits = tt;
          alike = rw (all_starts early late, own_empty o, inside_none S laws o) refl;
          order = refl;
        }
      where
        first_label : (pl : Place) → Each (Label S pl) (waits S pl (first_world window early late))
        first_label In = all_label early late
        first_label pl = tt

    -- every run
    pub every_run : (Q : ℕ → World T C O → Type 0) → Keeps S laws o its (early ++ late) rises Q → Q 0 (first_world window early late) → (cs : List Choice)
        → IsRun (node_ready S) (node_step S) cs (opening (first_nodes S window) (items S early late))
        → Reached S laws o its (early ++ late) rises Q (length cs + 0) (run (node_step S) cs (opening (first_nodes S window) (items S early late)))
    every_run Q goes first cs is =
        reach S laws o its (early ++ late) rises Q goes cs 0 (opening (first_nodes S window) (items S early late))
        (record { world = first_world window early late; is = opens window early late; holds = first_holds; more = first }) is
