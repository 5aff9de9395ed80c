-- The state of the machine at each stage (`shape`), and where a move from there leads.
use Rattle.std.proofs.Common.{◌≡◌, ℕ, true, false, Option, None, List, [], ◌∷◌, ◌++◌, refl, map}
use Rattle.std.specs.Prelude.{flat_map}
use Rattle.two_machine.proofs.Machine.{Rule, Free, Drops, Buffers, Target, To_a, To_both, To_b, Phase, Idle, Freezing, Getting, Deleting, Putting, Holding}
use Rattle.two_machine.proofs.Machine.{Laying, Waiting, Turning, Settling, Ending, Over, Scan, No_low, Low_only, Low_came, High_laid, Is_done, Is_none, Item}
use Rattle.two_machine.proofs.Machine.{Enable, Get, Delete, Restore, Fence, Enabled, Chunks, Deleted, Restored, Fenced, Lay, Laid, Copied, Frame, after}
use Rattle.two_machine.proofs.Machine.{State, Move, Arrive, End_comes, moved}
use Rattle.two_machine.proofs.Stages.{Early, Not_begun, Enable_goes, Part, Enabled_comes, Get_goes, Chunks_come, Delete_goes, Deleted_comes, Restore_goes}
use Rattle.two_machine.proofs.Stages.{Restored_comes, Hold_goes, Held_comes, Turn, Low_goes, Low_comes, Waits, High_goes, No_packet_came, Late, High_comes}
use Rattle.two_machine.proofs.Stages.{Settles, Last, Fence_goes, Fenced_comes, Is_over, Stage, Before, Storing, Passing, Turned, Ends, done, path, Fits}

-- the phases of the stages
abbrev pub early_phase : Early → Phase
early_phase Not_begun = Idle
early_phase Enable_goes = Freezing

abbrev pub starts_of : Early → List ℕ
starts_of Not_begun = 0 ∷ []
starts_of Enable_goes = []

abbrev pub enables : {R : Type 0} → Early → List (Item R)
enables Not_begun = []
enables Enable_goes = Enable Drops ∷ []

abbrev pub part_phase : Part → Phase
part_phase Enabled_comes = Freezing
part_phase Get_goes = Getting
part_phase Chunks_come = Getting
part_phase Delete_goes = Deleting
part_phase Deleted_comes = Deleting
part_phase Restore_goes = Putting
part_phase Restored_comes = Putting
part_phase Hold_goes = Holding
part_phase Held_comes = Holding

module _ {R : Type 0} (r : Option R) where
  abbrev pub part_ca : Part → List (Item R)
  part_ca Get_goes = Get ∷ []
  part_ca Delete_goes = Delete r ∷ []
  part_ca n = []

  abbrev pub part_ac : Part → List (Item R)
  part_ac Enabled_comes = Enabled ∷ []
  part_ac Chunks_come = Chunks r ∷ []
  part_ac Deleted_comes = Deleted ∷ []
  part_ac n = []

  abbrev pub part_cb : Part → List (Item R)
  part_cb Restore_goes = Restore r ∷ []
  part_cb Hold_goes = Enable Buffers ∷ []
  part_cb n = []

  abbrev pub part_bc : Part → List (Item R)
  part_bc Restored_comes = Restored ∷ []
  part_bc Held_comes = Enabled ∷ []
  part_bc n = []

  abbrev pub part_a : Part → Option R
  part_a Enabled_comes = r
  part_a Get_goes = r
  part_a Chunks_come = r
  part_a Delete_goes = r
  part_a n = None

  abbrev pub part_b : Part → Option R
  part_b Restored_comes = r
  part_b Hold_goes = r
  part_b Held_comes = r
  part_b n = None

  abbrev pub part_kept : Part → Option R
  part_kept Delete_goes = r
  part_kept Deleted_comes = r
  part_kept n = None

abbrev pub part_rule : Part → Rule
part_rule Held_comes = Buffers
part_rule n = Free

abbrev pub turn_phase : Turn → Phase
turn_phase Low_goes = Laying
turn_phase Low_comes = Laying
turn_phase Waits = Waiting
turn_phase High_goes = Turning
turn_phase No_packet_came = Over

abbrev pub copies : {R : Type 0} → List ℕ → List (Item R)
copies ps = map Copied ps

abbrev pub turn_sc : {R : Type 0} → Turn → List ℕ → List (Item R)
turn_sc Low_goes c = []
turn_sc Low_comes c = Laid false ∷ copies c
turn_sc Waits c = copies c
turn_sc High_goes c = copies c
turn_sc No_packet_came c = []

abbrev pub turn_cs : {R : Type 0} → Turn → List (Item R)
turn_cs Low_goes = Lay false ∷ []
turn_cs High_goes = Lay true ∷ []
turn_cs n = []

abbrev pub turn_target : Turn → Target
turn_target Low_goes = To_a
turn_target n = To_both

-- whether a matched packet came since Low
abbrev pub since : List ℕ → Scan
since [] = Low_only
since (p ∷ ps) = Low_came

abbrev pub turn_scan : Turn → List ℕ → Scan
turn_scan Low_goes c = No_low
turn_scan Low_comes c = since c
turn_scan Waits c = since c
turn_scan High_goes c = Low_came
turn_scan No_packet_came c = Is_none

abbrev pub late_phase : Late → Phase
late_phase High_comes = Turning
late_phase Settles = Settling

abbrev pub late_sc : {R : Type 0} → Late → List ℕ → List (Item R)
late_sc High_comes c = copies c ++ Laid true ∷ []
late_sc Settles c = []

abbrev pub last_phase : Last → Phase
last_phase Fence_goes = Ending
last_phase Fenced_comes = Ending
last_phase Is_over = Over

abbrev pub last_cb : {R : Type 0} → Last → List (Item R)
last_cb Fence_goes = Fence ∷ []
last_cb n = []

abbrev pub last_bc : {R : Type 0} → Last → List (Item R)
last_bc Fenced_comes = Fenced ∷ []
last_bc n = []

abbrev pub last_rule : Last → Rule
last_rule Fence_goes = Buffers
last_rule n = Free

abbrev pub last_scan : Last → Scan
last_scan Is_over = Is_done
last_scan n = High_laid

module _ {R : Type 0} (f : Frame R) where
  -- nothing on its way, no packet held or processed, and no record
  abbrev bare : State R
  bare = record {
    starts = [];
    sa = [];
    passes = [];
    plains = [];
    forwards = [];
    events = [];
    seens = [];
    sc = [];
    cs = [];
    ca = [];
    cb = [];
    ac = [];
    bc = [];
    target = To_a;
    a = record { rule = Free; held = []; live = None };
    b = record { rule = Free; held = []; live = None };
    c = record { phase = Idle; store = []; kept = None; last = None; seen = None; ended = false };
    done = [];
    scan = No_low;
  }

  -- what is on the old path, and what was processed
  abbrev along : List ℕ → List ℕ → List ℕ → List ℕ → List ℕ → List ℕ → State R
  along d z x g e l = record bare { done = d; seens = z; passes = x; forwards = g; events = e; sa = l; a = record { rule = Drops; held = []; live = None } }

  abbrev pub shape : Stage → State R
  shape (Before n d l b) =
      record bare {
        starts = starts_of n;
        sa = l;
        ca = enables n;
        a = record bare.a { live = after f d };
        c = record bare.c { phase = early_phase n; ended = b };
        done = d;
      }
  shape (Storing n d g e l b) =
      record (along d [] [] [] e l) {
        ca = part_ca (after f d) n;
        cb = part_cb (after f d) n;
        ac = part_ac (after f d) n;
        bc = part_bc (after f d) n;
        a = record { rule = Drops; held = []; live = part_a (after f d) n };
        b = record { rule = part_rule n; held = []; live = part_b (after f d) n };
        c = record bare.c { phase = part_phase n; store = g; kept = part_kept (after f d) n; ended = b };
      }
  shape (Passing n d s z x g e l t c b) =
      record (along d z x g e l) {
        sc = turn_sc n c;
        cs = turn_cs n;
        target = turn_target n;
        b = record { rule = Buffers; held = []; live = after f d };
        c = record bare.c { phase = turn_phase n; last = t; seen = s; ended = b };
        scan = turn_scan n c;
      }
  shape (Turned n d s z x g e l t c h y b) =
      record (along d z x g e l) {
        plains = y;
        sc = late_sc n c;
        target = To_b;
        b = record { rule = Buffers; held = h; live = after f d };
        c = record bare.c { phase = late_phase n; last = t; seen = s; ended = b };
        scan = High_laid;
      }
  shape (Ends n d s t h y b) =
      record (along d [] [] [] [] []) {
        plains = y;
        cb = last_cb n;
        bc = last_bc n;
        target = To_b;
        b = record { rule = last_rule n; held = h; live = after f d };
        c = record bare.c { phase = last_phase n; last = s; seen = t; ended = b };
        scan = last_scan n;
      }

-- the number of a copy
abbrev pub copied : {R : Type 0} → Item R → List ℕ
copied (Copied p) = p ∷ []
copied x = []

-- nothing arrives after the end, which comes after all copies
abbrev pub Allowed : {R : Type 0} → State R → Move → Type 0
Allowed x (Arrive p) = x.c.ended ≡ false
Allowed x End_comes = (x.c.ended ≡ false) × (flat_map copied x.sc ≡ [])
Allowed x m = Unit {0}

abbrev pub brings : Move → List ℕ
brings (Arrive p) = p ∷ []
brings m = []

-- where a move leads
pub record Leads {R : Type 0} (f : Frame R) (s : Stage) (x : State R) (ps : List ℕ) : Type 0 where
  pub next : Stage
  pub fits : Fits next
  pub alike : x ≡ shape f next
  pub order : done next ++ path next ≡ (done s ++ path s) ++ ps

pub to : {R : Type 0} {f : Frame R} {s : Stage} {x : State R} {ps : List ℕ} (next : Stage) → Fits next → x ≡ shape f next
    → done next ++ path next ≡ (done s ++ path s) ++ ps → Leads f s x ps
to next fits alike order = record { next = next; fits = fits; alike = alike; order = order }

abbrev pub GoesOn : {R : Type 0} → Frame R → Stage → Move → Type 0
GoesOn f s m = Leads f s (moved f (shape f s) m) (brings m)

-- what a stage has done is what its shape has
pub done_is : {R : Type 0} (f : Frame R) (s : Stage) → done s ≡ (shape f s).done
done_is f (Before n d l b) = refl
done_is f s = refl
