-- A move as the controller keeps it, with chunks of many units and sends with receivers, and what one unit sees of it (`seen`,
-- `see_phase`, `Sees`).
use Rattle.proof_machines.proofs.unit.Words.{◌≡◌, ℕ, Bool, true, false, Option, Some, None, List, [], ◌∷◌, ◌++◌, map, refl, if◌then◌else◌, ◌&&◌, ◌==◌, unit_cmp}
use Rattle.proof_machines.proofs.unit.Words.{is_among, Answer, PhaseOf, Words, on_event, on_source_enabled, on_piece, on_deleted, on_restored, on_source_fenced}
use Rattle.proof_machines.proofs.unit.Words.{on_put_ok, on_put_no, on_destination_enabled, on_destination_fenced, Where, At_a, At_b, Rule, Buffers, Part, Item}
use Rattle.proof_machines.proofs.unit.Words.{Enable, Stream, Delete, Put, Restore, Enabled, Event, Piece, Deleted, Put_ok, Put_no, Restored, Fenced, Forward}
use Rattle.proof_machines.proofs.unit.Words.{Fence_to, Install, Stray, Ended, Phase, ControllerTurn, Unit}
use Rattle.std.specs.FinMap.{find}
pub use Rattle.proof_machines.proofs.Tests.{where_true}
use Rattle.proof_machines.proofs.Tests.{by_if}
use Rattle.std.specs.List.{filter, filter_map, flat_map}
pub use Rattle.std.specs.List.{cons_option as add}
use Rattle.move_op.specs.Table as said
use Rattle.proof_machines.proofs.unit.TableViews.{map_phase}
pub use Rattle.proof_machines.proofs.unit.MoveMessages.{Chunks, MovePiece, MoveMsg}

-- the record of a unit in chunks: that of the first chunk which has it
abbrev pub record_at : {R : Type 0} → Unit → Chunks R → Option R
record_at = find unit_cmp

abbrev pub chunk_unit : {R : Type 0} → Unit × R → Unit
chunk_unit c = c.0

abbrev pub chunks_of : {R : Type 0} → List (MovePiece R) → Chunks R
chunks_of ps = flat_map (λ p. p.chunks) ps

abbrev pub MovePhase : Type 0 → Type 0
MovePhase R = PhaseOf (MovePiece R) (Option Answer)

pub record Op : Type 0 where
  pub num : ℕ
  pub src : ℕ
  pub dst : ℕ
  pub keep : Bool

-- what a row does: phase, store, sends
pub record OperationTurn (R : Type 0) : Type 0 where
  pub phase : MovePhase R
  pub store : List ℕ
  pub sends : List (ℕ × MoveMsg R)

abbrev pub operation_turn : {R : Type 0} → MovePhase R → List ℕ → List (ℕ × MoveMsg R) → OperationTurn R
operation_turn phase f xs = record { phase = phase; store = f; sends = xs }

abbrev pub put_to : {R : Type 0} → Op → MovePiece R → ℕ × MoveMsg R
put_to o p = (o.dst, MoveMsg.Put o.num p false)

abbrev pub forward_to : {R : Type 0} → ℕ → ℕ → ℕ × MoveMsg R
forward_to to p = (0, MoveMsg.Forward p to)

-- what a row says, as messages with their receivers
abbrev pub sends_of : {R : Type 0} → Op → said.Said ℕ (MovePiece R) → List (ℕ × MoveMsg R)
sends_of o said.Nothing = []
sends_of o said.Stream = (o.src, MoveMsg.Stream o.num) ∷ []
sends_of o (said.Remove p) = (o.src, MoveMsg.Delete o.num (map chunk_unit p.chunks)) ∷ []
sends_of o (said.Restore ps) = (o.src, MoveMsg.Restore o.num (chunks_of ps)) ∷ []
sends_of o said.Hold_at_source = (o.src, MoveMsg.Enable o.num Buffers) ∷ []
sends_of o (said.Ask p) = (o.dst, MoveMsg.Put o.num p true) ∷ []
sends_of o (said.Put ps) = map (put_to o) ps
sends_of o said.Hold_at_destination = (o.dst, MoveMsg.Enable o.num Buffers) ∷ []
sends_of o (said.Forward p) = forward_to o.dst p ∷ []
sends_of o (said.Release stored) = map (forward_to o.dst) stored ++ (0, MoveMsg.Install o.num o.src o.dst) ∷ []
sends_of o (said.Give_back stored) = map (forward_to o.src) stored ++ (0, MoveMsg.Fence_to o.num o.src) ∷ []
sends_of o said.Fence = (0, MoveMsg.Fence_to o.num o.dst) ∷ []

-- the words of a move's table in the abstract network, with what is stored
abbrev pub operation_words : {R : Type 0} → Op → List ℕ → Words ℕ (MovePiece R) (Option Answer) (OperationTurn R) (OperationTurn R)
operation_words o f = record {
  keep = o.keep;
  is_last = λ p. p.last;
  has_units = λ p. true;
  done = None;
  refused = λ why. Some why;
  next = λ phase said. operation_turn phase f (sends_of o said);
  keeps = λ turn. turn;
  stores = λ stored turn. record turn { store = stored };
}

-- a message from the source
abbrev pub operation_from_source : {R : Type 0} → Op → MovePhase R → List ℕ → MoveMsg R → OperationTurn R
operation_from_source o phase f (MoveMsg.Event _ p) = on_event (operation_words o f) phase f p
operation_from_source o phase f (MoveMsg.Enabled _) = on_source_enabled (operation_words o f) phase f
operation_from_source o phase f (MoveMsg.Piece _ p) = on_piece (operation_words o f) phase p
operation_from_source o phase f (MoveMsg.Deleted _) = on_deleted (operation_words o f) phase
operation_from_source o phase f (MoveMsg.Restored _) = on_restored (operation_words o f) phase
operation_from_source o phase f (MoveMsg.Fenced _) = on_source_fenced (operation_words o f) phase
operation_from_source o phase f m = operation_turn phase f []

abbrev pub put_back : {R : Type 0} → Chunks R → Bool → MovePiece R
put_back cs last = record { chunks = cs; total = 0; newest = 0; last = last }

-- a message from the destination
abbrev pub operation_from_destination : {R : Type 0} → Op → MovePhase R → List ℕ → MoveMsg R → OperationTurn R
operation_from_destination o phase f (MoveMsg.Put_ok _) = on_put_ok (operation_words o f) phase f
operation_from_destination o phase f (MoveMsg.Put_no _ why cs) = on_put_no (operation_words o f) phase why (put_back cs)
operation_from_destination o phase f (MoveMsg.Enabled _) = on_destination_enabled (operation_words o f) phase f
operation_from_destination o phase f (MoveMsg.Fenced _) = on_destination_fenced (operation_words o f) phase
operation_from_destination o phase f m = operation_turn phase f []

-- what one unit sees: its packets, its unit, the move
pub record Frame : Type 0 where
  pub mine : ℕ → Bool
  pub unit : Unit
  pub move : ℕ
  pub from : ℕ
  pub to : ℕ

pub off_if : {X : Type 0} (t : Bool) (x : X) → where_true t x ≡ None → t ≡ false
off_if true x e = cc
off_if false x e = refl

pub none_if : {X : Type 0} (t : Bool) (x : X) → t ≡ false → where_true t x ≡ None
none_if t x e = rw e refl

abbrev pub see : {R : Type 0} → Frame → MovePiece R → Part R
see v p = record { own = record_at v.unit p.chunks; last = p.last }

abbrev pub sends_to : {R : Type 0} → Frame → ℕ → (Where → Item R) → Item R
sends_to v to item = if to == v.from then item At_a else if to == v.to then item At_b else Stray

-- what holds of an item to each side, and of a stray one, holds of the one that is sent
pub sent_either : {R : Type 0} (P : Item R → Type 0) (v : Frame) (to : ℕ) (item : Where → Item R) → ((w : Where) → P (item w)) → P Stray
    → P (sends_to v to item)
sent_either P v to item each stray = by_if P (to == v.from) (each At_a) (by_if P (to == v.to) (each At_b) stray)

abbrev pub seen : {R : Type 0} → Frame → MoveMsg R → Option (Item R)
seen v (MoveMsg.Enable o r) = where_true (o == v.move) (Enable r)
seen v (MoveMsg.Stream o) = where_true (o == v.move) Stream
seen v (MoveMsg.Delete o us) = where_true (o == v.move) (Delete (is_among us v.unit))
seen v (MoveMsg.Put o p first) = where_true (o == v.move) (Put (see v p) first)
seen v (MoveMsg.Restore o cs) = where_true (o == v.move) (Restore (record_at v.unit cs))
seen v (MoveMsg.Enabled o) = where_true (o == v.move) Enabled
seen v (MoveMsg.Event o p) = where_true (v.mine p) (Event p)
seen v (MoveMsg.Piece o p) = where_true (o == v.move) (Piece (see v p))
seen v (MoveMsg.Deleted o) = where_true (o == v.move) Deleted
seen v (MoveMsg.Put_ok o) = where_true (o == v.move) Put_ok
seen v (MoveMsg.Put_no o why cs) = where_true (o == v.move) (Put_no why (record_at v.unit cs))
seen v (MoveMsg.Restored o) = where_true (o == v.move) Restored
seen v (MoveMsg.Fenced o) = where_true (o == v.move) Fenced
seen v (MoveMsg.Forward p to) = where_true (v.mine p) (sends_to v to (λ w. Forward w p))
seen v (MoveMsg.Install o from to) = where_true (o == v.move) (if (from == v.from) && (to == v.to) then Install else Stray)
seen v (MoveMsg.Fence_to o to) = where_true (o == v.move) (sends_to v to (λ w. Fence_to w))

abbrev pub view : {R : Type 0} → Frame → List (MoveMsg R) → List (Item R)
view v ms = filter_map (seen v) ms

abbrev pub only_mine : Frame → List ℕ → List ℕ
only_mine v ps = filter v.mine ps

abbrev pub see_phase : {R : Type 0} → Frame → MovePhase R → Phase R
see_phase v = map_phase (see v) Ended

abbrev pub sent_for : {M : Type 0} → ℕ → List (ℕ × M) → List M
sent_for y [] = []
sent_for y (x ∷ xs) = if x.0 == y then x.1 ∷ sent_for y xs else sent_for y xs

-- the unit sees what the machine's controller does
pub record Sees {R : Type 0} (v : Frame) (real : OperationTurn R) (did : ControllerTurn R) : Type 0 where
  pub phase : see_phase v real.phase ≡ did.phase
  pub store : only_mine v real.store ≡ did.store
  pub to_a : view v (sent_for v.from real.sends) ≡ did.to_a
  pub to_b : view v (sent_for v.to real.sends) ≡ did.to_b
  pub to_s : view v (sent_for 0 real.sends) ≡ did.to_s
  pub others : (j : ℕ) → (v.from == j) ≡ false → (v.to == j) ≡ false → (0 == j) ≡ false → view v (sent_for j real.sends) ≡ []
