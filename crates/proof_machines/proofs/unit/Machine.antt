-- The machine of one unit: what it sees of the switch, the controller and the instances while one move runs. The sides are the
-- source A, the destination B, and a third instance C, where a unit that the move doesn't cover may be.
use Rattle.std.proofs.Common.{ℕ, Bool, true, false, Option, Some, None, List, [], ◌∷◌, ◌++◌, map}
use Rattle.std.specs.Prelude.{if◌then◌else◌, is_some}
use Rattle.std.specs.List as lists
use Rattle.nf_msgs.specs.declared.answer.Answer.{Answer}
pub use Rattle.move_op.specs.declared.door.Door.{Door}
pub use Rattle.move_op.specs.declared.door.Door.TheVariants.{Shut, Asked, Open, Refused}
pub use Rattle.move_op.specs.Phases.{PhaseOf, Freezing, Streaming, Holding, Passing, Ending, Restoring, Returning, Undoing, Over}
use Rattle.move_op.specs.Table as said
pub use Rattle.move_op.specs.Table.{is_nil}
use Rattle.move_op.specs.Table.{Words, on_event, on_source_enabled, on_piece, on_deleted, on_restored, on_source_fenced, on_put_ok, on_put_no}
use Rattle.move_op.specs.Table.{on_destination_enabled, on_destination_fenced}

pub data Where : Type 0 where
  At_a : Where
  At_b : Where
  At_c : Where

-- a packet and where it was processed
abbrev pub Ran : Type 0
Ran = ℕ × Where

abbrev pub on : Where → ℕ → Ran
on w p = (p, w)

-- what the function gives: a record's step, and which of two records an import keeps
pub record Steps (R : Type 0) : Type 0 where
  pub step : Option R → ℕ → R
  pub newer : R → R → R

-- the record of the fold over packets
abbrev pub fold : {R : Type 0} → Steps R → Option R → List ℕ → Option R
fold F o ps = lists.fold (λ r p. Some (F.step r p)) o ps

-- the packets of what was processed, and the record after it
abbrev pub firsts : List Ran → List ℕ
firsts xs = map (λ x. x.0) xs

abbrev pub after : {R : Type 0} → Steps R → List Ran → Option R
after F d = fold F None (firsts d)

pub data Rule : Type 0 where
  Free : Rule
  Drops : Rule
  Buffers : Rule

-- a piece as the unit sees it: its own record, if it is in it, and whether it is the last piece
pub record Part (R : Type 0) : Type 0 where
  pub own : Option R
  pub last : Bool

abbrev pub or_own : {R : Type 0} → Option R → Option R → Option R
or_own None p = p
or_own (Some r) p = Some r

-- the unit's own record in a list of pieces
abbrev pub pick : {R : Type 0} → List (Part R) → Option R
pick [] = None
pick (h ∷ t) = or_own h.own (pick t)

pub data Item (R : Type 0) : Type 0 where
  Carry : ℕ → Item R
  Pass : ℕ → Item R
  Fence : Item R
  Enable : Rule → Item R
  Stream : Item R
  Delete : Bool → Item R
  Put : Part R → Bool → Item R
  Restore : Option R → Item R
  Enabled : Item R
  Event : ℕ → Item R
  Piece : Part R → Item R
  Deleted : Item R
  Put_ok : Item R
  Put_no : Answer → Option R → Item R
  Restored : Item R
  Fenced : Item R
  Forward : Where → ℕ → Item R
  Fence_to : Where → Item R
  Install : Item R
  Stray : Item R

-- an instance: the rule of this move that takes the unit, what is held, the live record
pub record Inst (R : Type 0) : Type 0 where
  pub rule : Rule
  pub held : List ℕ
  pub live : Option R

-- what an instance did: the instance afterwards, what it sends to the controller, what it processed
pub record Did (R : Type 0) : Type 0 where
  pub inst : Inst R
  pub to_c : List (Item R)
  pub ran : List Ran

abbrev pub idle : {R : Type 0} → Option R → Inst R
idle o = record { rule = Free; held = []; live = o }

abbrev pub sends : {R : Type 0} → Inst R → List (Item R) → Did R
sends i xs = record { inst = i; to_c = xs; ran = [] }

abbrev pub ran_one : {R : Type 0} → Steps R → Where → Inst R → ℕ → Did R
ran_one F w i p = record { inst = record i { live = Some (F.step i.live p) }; to_c = []; ran = (p, w) ∷ [] }

abbrev pub carried : {R : Type 0} → Steps R → Where → Rule → Inst R → ℕ → Did R
carried F w Free i p = ran_one F w i p
carried F w Drops i p = sends i (Event p ∷ [])
carried F w Buffers i p = sends (record i { held = i.held ++ p ∷ [] }) []

-- a record that comes, over one that is live
abbrev pub joined : {R : Type 0} → Steps R → Option R → Option R → Option R
joined F None o = o
joined F (Some r) None = Some r
joined F (Some r) (Some s) = Some (F.newer r s)

-- a piece that is put; a first one may be refused, for a reason that the unit can't see
abbrev pub put : {R : Type 0} → Steps R → Bool → Option Answer → Inst R → Part R → Did R
put F false refuse i h = sends (record i { live = joined F h.own i.live }) (if h.last then Put_ok ∷ [] else [])
put F true None i h = sends (record i { live = joined F h.own i.live }) (Put_ok ∷ [])
put F true (Some why) i h = sends i (Put_no why h.own ∷ [])

-- an instance's step; `parts` are the pieces that a Stream sends, `refuse` why a first piece is refused
abbrev pub inst_does : {R : Type 0} → Steps R → Where → List (Part R) → Option Answer → Inst R → Item R → Did R
inst_does F w parts refuse i (Carry p) = carried F w i.rule i p
inst_does F w parts refuse i (Pass p) = ran_one F w i p
inst_does F w parts refuse i Fence = record { inst = idle (fold F i.live i.held); to_c = Fenced ∷ []; ran = map (on w) i.held }
inst_does F w parts refuse i (Enable r) = sends (record i { rule = r }) (Enabled ∷ [])
inst_does F w parts refuse i Stream = sends i (map Piece parts)
inst_does F w parts refuse i (Delete own) = sends (record i { live = if own then None else i.live }) (Deleted ∷ [])
inst_does F w parts refuse i (Put h first) = put F first refuse i h
inst_does F w parts refuse i (Restore o) = sends (record i { live = joined F o i.live }) (Restored ∷ [])
inst_does F w parts refuse i item = sends i []

-- how a move ended that is over; Idle, where none has begun
pub data Outcome : Type 0 where
  Idle : Outcome
  Ended : Option Answer → Outcome

abbrev pub Phase : Type 0 → Type 0
Phase R = PhaseOf (Part R) Outcome

-- what the controller did
pub record ControllerTurn (R : Type 0) : Type 0 where
  pub phase : Phase R
  pub store : List ℕ
  pub to_a : List (Item R)
  pub to_b : List (Item R)
  pub to_s : List (Item R)

abbrev pub goes : {R : Type 0} → Phase R → List ℕ → ControllerTurn R
goes phase f = record { phase = phase; store = f; to_a = []; to_b = []; to_s = [] }

abbrev pub next : {R : Type 0} → Part R → Item R
next h = Put h false

abbrev pub delete : {R : Type 0} → Part R → Item R
delete h = Delete (is_some h.own)

-- what a row says, to A, to B or to the switch
abbrev pub turn_of : {R : Type 0} → Phase R → List ℕ → said.Said ℕ (Part R) → ControllerTurn R
turn_of phase f said.Nothing = goes phase f
turn_of phase f said.Stream = record (goes phase f) { to_a = Stream ∷ [] }
turn_of phase f (said.Remove h) = record (goes phase f) { to_a = delete h ∷ [] }
turn_of phase f (said.Restore hs) = record (goes phase f) { to_a = Restore (pick hs) ∷ [] }
turn_of phase f said.Hold_at_source = record (goes phase f) { to_a = Enable Buffers ∷ [] }
turn_of phase f (said.Ask h) = record (goes phase f) { to_b = Put h true ∷ [] }
turn_of phase f (said.Put hs) = record (goes phase f) { to_b = map next hs }
turn_of phase f said.Hold_at_destination = record (goes phase f) { to_b = Enable Buffers ∷ [] }
turn_of phase f (said.Forward p) = record (goes phase f) { to_s = Forward At_b p ∷ [] }
turn_of phase f (said.Release stored) = record (goes phase f) { to_s = map (Forward At_b) stored ++ Install ∷ [] }
turn_of phase f (said.Give_back stored) = record (goes phase f) { to_s = map (Forward At_a) stored ++ Fence_to At_a ∷ [] }
turn_of phase f said.Fence = record (goes phase f) { to_s = Fence_to At_b ∷ [] }

-- the words of a move's table at the machine, with what is stored
abbrev pub words : {R : Type 0} → Bool → List ℕ → Words ℕ (Part R) Outcome (ControllerTurn R) (ControllerTurn R)
words keep f = record {
  keep = keep;
  is_last = λ h. h.last;
  has_units = λ h. true;
  done = Ended None;
  refused = λ why. Ended (Some why);
  next = λ phase said. turn_of phase f said;
  keeps = λ did. did;
  stores = λ stored did. record did { store = stored };
}

-- a message of A, and of B
abbrev pub from_source : {R : Type 0} → Phase R → List ℕ → Item R → ControllerTurn R
from_source phase f (Event p) = on_event (words true f) phase f p
from_source phase f Enabled = on_source_enabled (words true f) phase f
from_source phase f (Piece h) = on_piece (words true f) phase h
from_source phase f Deleted = on_deleted (words true f) phase
from_source phase f Restored = on_restored (words true f) phase
from_source phase f Fenced = on_source_fenced (words true f) phase
from_source phase f item = goes phase f

-- a refused piece that came back
abbrev pub part_back : {R : Type 0} → Option R → Bool → Part R
part_back o last = record { own = o; last = last }

abbrev pub from_destination : {R : Type 0} → Bool → Phase R → List ℕ → Item R → ControllerTurn R
from_destination keep phase f Put_ok = on_put_ok (words keep f) phase f
from_destination keep phase f (Put_no why o) = on_put_no (words keep f) phase why (part_back o)
from_destination keep phase f Enabled = on_destination_enabled (words keep f) phase f
from_destination keep phase f Fenced = on_destination_fenced (words keep f) phase
from_destination keep phase f item = goes phase f

-- the machine
pub record State (R : Type 0) : Type 0 where
  pub sa : List (Item R)
  pub sb : List (Item R)
  pub sc : List (Item R)
  pub ac : List (Item R)
  pub bc : List (Item R)
  pub cc : List (Item R)
  pub ca : List (Item R)
  pub cb : List (Item R)
  pub cs : List (Item R)
  pub a : Inst R
  pub b : Inst R
  pub c : Inst R
  pub phase : Phase R
  pub keep : Bool
  pub store : List ℕ
  pub target : Where
  pub done : List Ran

pub data MachineStep (R : Type 0) : Type 0 where
  Begin : Bool → MachineStep R
  Arrive : ℕ → MachineStep R
  Take_sa : MachineStep R
  Take_sb : MachineStep R
  Take_sc : MachineStep R
  Take_ac : MachineStep R
  Take_bc : MachineStep R
  Take_ca : List (Part R) → MachineStep R
  Take_cb : Option Answer → MachineStep R
  Take_cs : MachineStep R

abbrev pub put_a : {R : Type 0} → State R → Did R → State R
put_a u did = record u { a = did.inst; ac = u.ac ++ did.to_c; done = u.done ++ did.ran }

abbrev pub put_b : {R : Type 0} → State R → Did R → State R
put_b u did = record u { b = did.inst; bc = u.bc ++ did.to_c; done = u.done ++ did.ran }

-- what C sends to the controller is never taken: no stage has anything there
abbrev pub put_c : {R : Type 0} → State R → Did R → State R
put_c u did = record u { c = did.inst; cc = u.cc ++ did.to_c; done = u.done ++ did.ran }

abbrev pub put_ctrl : {R : Type 0} → State R → ControllerTurn R → State R
put_ctrl u did = record u { phase = did.phase; store = did.store; ca = u.ca ++ did.to_a; cb = u.cb ++ did.to_b; cs = u.cs ++ did.to_s }

abbrev pub send_to : {R : Type 0} → Where → State R → Item R → State R
send_to At_a u x = record u { sa = u.sa ++ x ∷ [] }
send_to At_b u x = record u { sb = u.sb ++ x ∷ [] }
send_to At_c u x = record u { sc = u.sc ++ x ∷ [] }

-- of the move itself the switch sends to A and to B alone
abbrev pub send_side : {R : Type 0} → Where → State R → Item R → State R
send_side At_a u x = record u { sa = u.sa ++ x ∷ [] }
send_side At_b u x = record u { sb = u.sb ++ x ∷ [] }
send_side At_c u x = u

abbrev pub redirected : Where → Where
redirected At_a = At_b
redirected w = w

abbrev pub switch_does : {R : Type 0} → State R → Item R → State R
switch_does u (Forward w p) = send_side w u (Pass p)
switch_does u (Fence_to w) = send_side w u Fence
switch_does u Install = send_side At_a (record u { target = redirected u.target }) Fence
switch_does u item = u

abbrev pub begun : {R : Type 0} → Bool → Phase R → State R → State R
begun keep (Over Idle) u = record u { phase = Freezing; keep = keep; ca = u.ca ++ Enable Drops ∷ [] }
begun keep phase u = u

abbrev pub moved : {R : Type 0} → Steps R → State R → MachineStep R → State R
moved F u (Begin keep) = begun keep u.phase u
moved F u (Arrive p) = send_to u.target u (Carry p)
moved F u Take_sa = elim u.sa [ [] ↦ u | x ∷ xs ↦ put_a (record u { sa = xs }) (inst_does F At_a [] None u.a x) ]
moved F u Take_sb = elim u.sb [ [] ↦ u | x ∷ xs ↦ put_b (record u { sb = xs }) (inst_does F At_b [] None u.b x) ]
moved F u Take_sc = elim u.sc [ [] ↦ u | x ∷ xs ↦ put_c (record u { sc = xs }) (inst_does F At_c [] None u.c x) ]
moved F u Take_ac = elim u.ac [ [] ↦ u | x ∷ xs ↦ put_ctrl (record u { ac = xs }) (from_source u.phase u.store x) ]
moved F u Take_bc = elim u.bc [ [] ↦ u | x ∷ xs ↦ put_ctrl (record u { bc = xs }) (from_destination u.keep u.phase u.store x) ]
moved F u (Take_ca parts) = elim u.ca [ [] ↦ u | x ∷ xs ↦ put_a (record u { ca = xs }) (inst_does F At_a parts None u.a x) ]
moved F u (Take_cb refuse) = elim u.cb [ [] ↦ u | x ∷ xs ↦ put_b (record u { cb = xs }) (inst_does F At_b [] refuse u.b x) ]
moved F u Take_cs = elim u.cs [ [] ↦ u | x ∷ xs ↦ switch_does (record u { cs = xs }) x ]
