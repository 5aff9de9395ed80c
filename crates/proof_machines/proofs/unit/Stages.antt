-- The stages of a move for a unit that it covers: a constructor for each place of the move's message, the state of the machine at
-- each (`shape`), and the packets that wait there (`path`).
use Rattle.std.proofs.Common.{◌≡◌, ℕ, Bool, true, false, Option, Some, None, List, [], ◌∷◌, ◌++◌, map, subst}
use Rattle.std.specs.Prelude.{if◌then◌else◌}
pub use Rattle.actor_net.specs.Numbers.{times}
use Rattle.nf_msgs.specs.declared.answer.Answer.{Answer}
use Rattle.proof_machines.proofs.unit.Machine.{Where, At_a, At_b, Ran, on, Steps, after, Part, pick, is_nil, Item, Carry, Pass, Fence, Enable, Stream, Put}
use Rattle.proof_machines.proofs.unit.Machine.{Restore, Enabled, Event, Put_ok, Put_no, Restored, Fenced, Forward, Fence_to, Install, Free, Drops, Buffers}
use Rattle.proof_machines.proofs.unit.Machine.{Inst, idle, Door, Shut, Asked, Open, Refused, Idle, Freezing, Streaming, Holding, Passing, Ending, Restoring}
use Rattle.proof_machines.proofs.unit.Machine.{Returning, Undoing, Over, next, delete, State, MachineStep, Arrive, Take_ca, moved, Ended}
use Rattle.proof_machines.proofs.unit.Lists.{firsts, marked, passes, plains, SourceItem, shown, events, parts_in, named}
use Rattle.proof_machines.proofs.unit.UnitPieces.{ArePiecesOf}

-- the pieces that aren't free yet, in order: Deleted on the link, Delete on the link, on the link themselves
abbrev pub body : {R : Type 0} → List (SourceItem R) → List (Part R) → List (Part R)
body y q = named y ++ (q ++ parts_in y)

-- the door with the pieces behind it: those that are put (g), on their way to B (w), free (v)
pub data Doorway (R : Type 0) : Type 0 where
  Is_shut : Doorway R
  Is_asked : (h : Part R) (v : List (Part R)) → Doorway R
  Is_agreed : (h : Part R) (v : List (Part R)) → Doorway R
  Is_denied : (h : Part R) (v : List (Part R)) (why : Answer) → Doorway R
  Is_wide : (g w : List (Part R)) → Doorway R
  Is_refused : (v : List (Part R)) (why : Answer) → Doorway R

abbrev pub front : {R : Type 0} → Doorway R → List (Part R)
front Is_shut = []
front (Is_asked h v) = h ∷ v
front (Is_agreed h v) = h ∷ v
front (Is_denied h v why) = h ∷ v
front (Is_wide g w) = g ++ w
front (Is_refused v why) = v

abbrev pub free_of : {R : Type 0} → Doorway R → List (Part R)
free_of (Is_asked h v) = v
free_of (Is_agreed h v) = v
free_of (Is_denied h v why) = v
free_of (Is_refused v why) = v
free_of s = []

abbrev pub door_of : {R : Type 0} → Doorway R → Door
door_of Is_shut = Shut
door_of (Is_asked h v) = Asked h.last
door_of (Is_agreed h v) = Asked h.last
door_of (Is_denied h v why) = Asked h.last
door_of (Is_wide g w) = Open
door_of (Is_refused v why) = Refused why

abbrev pub puts_of : {R : Type 0} → Doorway R → List (Item R)
puts_of (Is_asked h v) = Put h true ∷ []
puts_of (Is_wide g w) = map next w
puts_of _ = []

abbrev pub answers_of : {R : Type 0} → Doorway R → List (Item R)
answers_of (Is_agreed h v) = Put_ok ∷ []
answers_of (Is_denied h v why) = Put_no why h.own ∷ []
answers_of _ = []

abbrev pub live_of : {R : Type 0} → Doorway R → Option R
live_of (Is_agreed h v) = pick (h ∷ [])
live_of (Is_wide g w) = pick g
live_of _ = None

-- nothing would be on its way any more: no door with anything behind it stands so
abbrev pub stuck : {R : Type 0} → Doorway R → List (Part R) → Bool
stuck (Is_wide g w) b = is_nil (w ++ b)
stuck (Is_refused v why) b = is_nil b
stuck _ b = false

pub record Flows {R : Type 0} (F : Steps R) (d : List Ran) (s : Doorway R) (b : List (Part R)) : Type 0 where
  pub fits : ArePiecesOf (front s ++ b) (after F d)
  pub going : stuck s b ≡ false

pub reflow : {R : Type 0} {F : Steps R} {d : List Ran} {s : Doorway R} {b c : List (Part R)} → b ≡ c → Flows F d s b → Flows F d s c
reflow {F = F} {d = d} {s = s} e w = subst (λ z. Flows F d s z) e w

pub data Stage {R : Type 0} (F : Steps R) : Type 0 where
  At_rest : (d : List Ran) (l : List ℕ) (k : Bool) → Stage F
  Begun : (d : List Ran) (l : List ℕ) (k : Bool) → Stage F
  Frozen : (d : List Ran) (e l : List ℕ) (k : Bool) → Stage F
  Stream_goes : (d : List Ran) (f e l : List ℕ) (k : Bool) → Stage F
  Streams : (d : List Ran) (f : List ℕ) (y : List (SourceItem R)) (q : List (Part R)) (l : List ℕ) (k : Bool) (s : Doorway R) → Flows F d s (body y q) → Stage F
  All_put : (d : List Ran) (f e l : List ℕ) (k : Bool) → Stage F
  Hold_goes : (d : List Ran) (f e l : List ℕ) → Stage F
  Held : (d : List Ran) (f e l : List ℕ) → Stage F
  Laying : (d : List Ran) (x f g e l : List ℕ) (k : Bool) → Stage F
  Turned : (d : List Ran) (x : List (Bool × ℕ)) (f e l h : List ℕ) → Stage F
  Fenced_a : (d : List Ran) (x : List (Bool × ℕ)) (f e h : List ℕ) → Stage F
  Ending_b : (d : List Ran) (x : List (Bool × ℕ)) (f h : List ℕ) → Stage F
  Fence_b : (d : List Ran) (x : List (Bool × ℕ)) (n h : List ℕ) → Stage F
  Turned_loose : (d : List Ran) (x : List (Bool × ℕ)) (f e l : List ℕ) → Stage F
  Fenced_loose : (d : List Ran) (x : List (Bool × ℕ)) (f e : List ℕ) → Stage F
  Ending_loose : (d : List Ran) (x : List (Bool × ℕ)) (f : List ℕ) → Stage F
  Fence_loose : (d : List Ran) (x : List (Bool × ℕ)) (n : List ℕ) → Stage F
  Fenced_b : (d : List Ran) (l : List ℕ) (k : Bool) → Stage F
  Moved : (d : List Ran) (l : List ℕ) (k : Bool) → Stage F
  Restore_goes : (d : List Ran) (f e l : List ℕ) (k : Bool) (why : Answer) → Stage F
  Restored_comes : (d : List Ran) (f e g l : List ℕ) (k : Bool) (why : Answer) → Stage F
  Turn_goes : (d : List Ran) (f e l : List ℕ) (k : Bool) (why : Answer) → Stage F
  Turned_back : (d : List Ran) (f e h l : List ℕ) (k : Bool) (why : Answer) → Stage F
  Returned : (d : List Ran) (x : List (Bool × ℕ)) (f h : List ℕ) (k : Bool) (why : Answer) → Stage F
  Fence_a : (d : List Ran) (x : List (Bool × ℕ)) (n h : List ℕ) (k : Bool) (why : Answer) → Stage F
  Fenced_back : (d : List Ran) (l : List ℕ) (k : Bool) (why : Answer) → Stage F
  Undone : (d : List Ran) (l : List ℕ) (k : Bool) (why : Answer) → Stage F

abbrev pub rest : {R : Type 0} → Bool → State R
rest k = record {
  sa = [];
  sb = [];
  sc = [];
  ac = [];
  bc = [];
  cc = [];
  ca = [];
  cb = [];
  cs = [];
  a = idle None;
  b = idle None;
  c = idle None;
  phase = Over Idle;
  keep = k;
  store = [];
  target = At_a;
  done = [];
}

abbrev pub drops : {R : Type 0} → Option R → Inst R
drops o = record { rule = Drops; held = []; live = o }

abbrev pub buffers : {R : Type 0} → List ℕ → Option R → Inst R
buffers h o = record { rule = Buffers; held = h; live = o }

abbrev pub to_b : {R : Type 0} → ℕ → Item R
to_b p = Forward At_b p

abbrev pub to_a : {R : Type 0} → ℕ → Item R
to_a p = Forward At_a p

abbrev pub rule_if : {R : Type 0} → Bool → Option R → Inst R
rule_if k o = record { rule = if k then Buffers else Free; held = []; live = o }

abbrev pub shape : {R : Type 0} → (F : Steps R) → Stage F → State R
shape F (At_rest d l k) = record (rest k) { sa = map Carry l; a = idle (after F d); done = d }
shape F (Begun d l k) = record (rest k) { sa = map Carry l; ca = Enable Drops ∷ []; a = idle (after F d); phase = Freezing; done = d }
shape F (Frozen d e l k) = record (rest k) { sa = map Carry l; ac = Enabled ∷ map Event e; a = drops (after F d); phase = Freezing; done = d }
shape F (Stream_goes d f e l k) =
    record (rest k) { sa = map Carry l; ac = map Event e; ca = Stream ∷ []; a = drops (after F d); phase = Streaming [] [] false Shut; store = f; done = d }
shape F (Streams d f y q l k s w) = record (rest k) {
  sa = map Carry l;
  ac = map shown y;
  ca = map delete q;
  cb = puts_of s;
  bc = answers_of s;
  a = drops (pick (q ++ parts_in y));
  b = idle (live_of s);
  phase = Streaming (named y ++ q) (free_of s) (is_nil (parts_in y)) (door_of s);
  store = f;
  done = d;
}
shape F (All_put d f e l k) = record (rest
    k) {
      sa = map Carry l;
      ac = map Event e;
      bc = Put_ok ∷ [];
      a = drops None;
      b = idle (after F d);
      phase = Streaming [] [] true Open;
      store = f;
      done = d;
    }
shape F (Hold_goes d f e l) = record (rest
    true) { sa = map Carry l; ac = map Event e; cb = Enable Buffers ∷ []; a = drops None; b = idle (after F d); phase = Holding; store = f; done = d }
shape F (Held d f e l) = record (rest
    true) { sa = map Carry l; ac = map Event e; bc = Enabled ∷ []; a = drops None; b = buffers [] (after F d); phase = Holding; store = f; done = d }
shape F (Laying d x f g e l k) = record (rest
    k) {
      sa = map Carry l;
      sb = map Pass x;
      ac = map Event e;
      cs = map to_b f ++ Install ∷ map to_b g;
      a = drops None;
      b = rule_if k (after F d);
      phase = Passing;
      done = d;
    }
shape F (Turned d x f e l h) = record (rest
    true) {
      sa = map Carry l ++ Fence ∷ [];
      sb = map marked x;
      ac = map Event e;
      cs = map to_b f;
      a = drops None;
      b = buffers h (after F d);
      phase = Passing;
      target = At_b;
      done = d;
    }
shape F (Fenced_a d x f e h) = record (rest
    true) { sb = map marked x; ac = map Event e ++ Fenced ∷ []; cs = map to_b f; b = buffers h (after F d); phase = Passing; target = At_b; done = d }
shape F (Ending_b d x f h) =
    record (rest true) { sb = map marked x; cs = map to_b f ++ Fence_to At_b ∷ []; b = buffers h (after F d); phase = Ending; target = At_b; done = d }
shape F (Fence_b d x n h) = record (rest true) { sb = map marked x ++ Fence ∷ map Carry n; b = buffers h (after F d); phase = Ending; target = At_b; done = d }
shape F (Turned_loose d x f e l) = record (rest
    false) {
      sa = map Carry l ++ Fence ∷ [];
      sb = map marked x;
      ac = map Event e;
      cs = map to_b f;
      a = drops None;
      b = idle (after F d);
      phase = Passing;
      target = At_b;
      done = d;
    }
shape F (Fenced_loose d x f e) = record (rest
    false) { sb = map marked x; ac = map Event e ++ Fenced ∷ []; cs = map to_b f; b = idle (after F d); phase = Passing; target = At_b; done = d }
shape F (Ending_loose d x f) =
    record (rest false) { sb = map marked x; cs = map to_b f ++ Fence_to At_b ∷ []; b = idle (after F d); phase = Ending; target = At_b; done = d }
shape F (Fence_loose d x n) = record (rest false) { sb = map marked x ++ Fence ∷ map Carry n; b = idle (after F d); phase = Ending; target = At_b; done = d }
shape F (Fenced_b d l k) = record (rest k) { sb = map Carry l; bc = Fenced ∷ []; b = idle (after F d); phase = Ending; target = At_b; done = d }
shape F (Moved d l k) = record (rest k) { sb = map Carry l; b = idle (after F d); phase = Over (Ended None); target = At_b; done = d }
shape F (Restore_goes d f e l k why) =
    record (rest k) { sa = map Carry l; ac = map Event e; ca = Restore (after F d) ∷ []; a = drops None; phase = Restoring why; store = f; done = d }
shape F (Restored_comes d f e g l k why) =
    record (rest k) { sa = map Carry l; ac = map Event e ++ Restored ∷ map Event g; a = drops (after F d); phase = Restoring why; store = f; done = d }
shape F (Turn_goes d f e l k why) =
    record (rest k) { sa = map Carry l; ac = map Event e; ca = Enable Buffers ∷ []; a = drops (after F d); phase = Returning why; store = f; done = d }
shape F (Turned_back d f e h l k why) =
    record (rest k) { sa = map Carry l; ac = map Event e ++ Enabled ∷ []; a = buffers h (after F d); phase = Returning why; store = f; done = d }
shape F (Returned d x f h k why) =
    record (rest k) { sa = map marked x; cs = map to_a f ++ Fence_to At_a ∷ []; a = buffers h (after F d); phase = Undoing why; done = d }
shape F (Fence_a d x n h k why) = record (rest k) { sa = map marked x ++ Fence ∷ map Carry n; a = buffers h (after F d); phase = Undoing why; done = d }
shape F (Fenced_back d l k why) = record (rest k) { sa = map Carry l; ac = Fenced ∷ []; a = idle (after F d); phase = Undoing why; done = d }
shape F (Undone d l k why) = record (rest k) { sa = map Carry l; a = idle (after F d); phase = Over (Ended (Some why)); done = d }

-- the packets that have arrived and aren't processed, in order
abbrev pub path : {R : Type 0} {F : Steps R} → Stage F → List ℕ
path (At_rest d l k) = l
path (Begun d l k) = l
path (Frozen d e l k) = e ++ l
path (Stream_goes d f e l k) = f ++ (e ++ l)
path (Streams d f y q l k s w) = f ++ (events y ++ l)
path (All_put d f e l k) = f ++ (e ++ l)
path (Hold_goes d f e l) = f ++ (e ++ l)
path (Held d f e l) = f ++ (e ++ l)
path (Laying d x f g e l k) = x ++ (f ++ (g ++ (e ++ l)))
path (Turned d x f e l h) = passes x ++ (f ++ (e ++ (l ++ (h ++ plains x))))
path (Fenced_a d x f e h) = passes x ++ (f ++ (e ++ (h ++ plains x)))
path (Ending_b d x f h) = passes x ++ (f ++ (h ++ plains x))
path (Fence_b d x n h) = passes x ++ (h ++ (plains x ++ n))
path (Turned_loose d x f e l) = passes x ++ (f ++ (e ++ (l ++ plains x)))
path (Fenced_loose d x f e) = passes x ++ (f ++ (e ++ plains x))
path (Ending_loose d x f) = passes x ++ (f ++ plains x)
path (Fence_loose d x n) = passes x ++ (plains x ++ n)
path (Fenced_b d l k) = l
path (Moved d l k) = l
path (Restore_goes d f e l k why) = f ++ (e ++ l)
path (Restored_comes d f e g l k why) = f ++ (e ++ (g ++ l))
path (Turn_goes d f e l k why) = f ++ (e ++ l)
path (Turned_back d f e h l k why) = f ++ (e ++ (h ++ l))
path (Returned d x f h k why) = passes x ++ (f ++ (h ++ plains x))
path (Fence_a d x n h k why) = passes x ++ (h ++ (plains x ++ n))
path (Fenced_back d l k why) = l
path (Undone d l k why) = l

abbrev pub processed : {R : Type 0} {F : Steps R} → Stage F → List Ran
processed {F = F} s = (shape F s).done

abbrev pub all_of : {R : Type 0} {F : Steps R} → Stage F → List ℕ
all_of s = firsts (processed s) ++ path s

-- the stages of a move without a buffer at B, behind its Install
abbrev pub loose : {R : Type 0} {F : Steps R} → Stage F → Bool
loose (Turned_loose d x f e l) = true
loose (Fenced_loose d x f e) = true
loose (Ending_loose d x f) = true
loose (Fence_loose d x n) = true
loose s = false

-- where the unit's packets are processed in a step from this stage
abbrev pub side_of : {R : Type 0} {F : Steps R} → Stage F → Where
side_of (Laying d x f g e l k) = At_b
side_of (Turned d x f e l h) = At_b
side_of (Fenced_a d x f e h) = At_b
side_of (Ending_b d x f h) = At_b
side_of (Fence_b d x n h) = At_b
side_of (Turned_loose d x f e l) = At_b
side_of (Fenced_loose d x f e) = At_b
side_of (Ending_loose d x f) = At_b
side_of (Fence_loose d x n) = At_b
side_of (Fenced_b d l k) = At_b
side_of (Moved d l k) = At_b
side_of s = At_a

-- lists with the same packets, each as often
abbrev pub Same : List ℕ → List ℕ → Type 0
Same xs ys = (p : ℕ) → times p xs ≡ times p ys

abbrev pub IsOrderedAs : Bool → List ℕ → List ℕ → Type 0
IsOrderedAs true xs ys = Same xs ys
IsOrderedAs false xs ys = xs ≡ ys

-- what was processed grew at one side alone
abbrev pub Placed : Where → List Ran → List Ran → Type 0
Placed w d e = (ps : List ℕ) × (e ≡ d ++ map (on w) ps)

abbrev pub arrived_by : {R : Type 0} → MachineStep R → List ℕ
arrived_by (Arrive p) = p ∷ []
arrived_by m = []

-- what the node decides by things outside the unit: the pieces that a Stream sends
abbrev pub Allowed : {R : Type 0} → State R → MachineStep R → Type 0
Allowed u (Take_ca parts) = ArePiecesOf parts u.a.live
Allowed u m = Unit {0}

abbrev pub GoesOn : {R : Type 0} → (F : Steps R) → Stage F → MachineStep R → Type 0
GoesOn F s m = (t : Stage F) × (moved F (shape F s) m ≡ shape F t) × IsOrderedAs (loose t) (all_of t) (all_of s ++ arrived_by m)
    × Placed (side_of s) (processed s) (processed t)
