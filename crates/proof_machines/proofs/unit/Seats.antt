-- Seats: a unit that the move covers, one that its destination owns already, one of a third instance. Each step leads from a seat to
-- a seat, and without a message the move is over.
use Rattle.std.specs.List.{list_all}
use Rattle.proof_machines.proofs.unit.Bare.{to_source, to_dest, ca_kind, cb_kind}
use Rattle.proof_machines.proofs.unit.Words.{ap, ◌≡◌, ℕ, Bool, true, false, List, ◌++◌, refl, sym, ◌∙◌, Where, At_b, At_c, Ran, Steps, Free, State, MachineStep}
use Rattle.proof_machines.proofs.unit.Words.{moved, Stage, At_rest, shape, path, processed, all_of, loose, side_of, IsOrderedAs, Placed, Allowed, arrived_by}
use Rattle.proof_machines.proofs.unit.Words.{never_true}
use Rattle.proof_machines.proofs.unit.Steps.{goes_on}
use Rattle.proof_machines.proofs.unit.Away.{Away, shape_away, all_away, away_goes_on}
use Rattle.proof_machines.proofs.unit.DestinationUnits.{DestinationUnit, strip, shape_beside, all_beside, beside_goes_on}
use Rattle.proof_machines.proofs.unit.Path.{carries}
use Rattle.proof_machines.proofs.unit.Rests.{is_over, Silent, rests}

pub data UnitSeat {R : Type 0} (F : Steps R) : Type 0 where
  Covered : Stage F → UnitSeat F
  Is_beside : DestinationUnit F → UnitSeat F
  Is_away : Away F → UnitSeat F

-- whether the move covers the unit
abbrev pub is_covered : {R : Type 0} {F : Steps R} → UnitSeat F → Bool
is_covered (Covered s) = true
is_covered s = false

abbrev pub seat_shape : {R : Type 0} → (F : Steps R) → UnitSeat F → State R
seat_shape F (Covered s) = shape F s
seat_shape F (Is_beside s) = shape_beside F s
seat_shape F (Is_away s) = shape_away F s

abbrev pub seat_all : {R : Type 0} {F : Steps R} → UnitSeat F → List ℕ
seat_all (Covered s) = all_of s
seat_all (Is_beside s) = all_beside s
seat_all (Is_away s) = all_away s

abbrev pub seat_done : {R : Type 0} {F : Steps R} → UnitSeat F → List Ran
seat_done (Covered s) = processed s
seat_done (Is_beside s) = s.d
seat_done (Is_away s) = s.d

abbrev pub seat_side : {R : Type 0} {F : Steps R} → UnitSeat F → Where
seat_side (Covered s) = side_of s
seat_side (Is_beside s) = At_b
seat_side (Is_away s) = At_c

abbrev pub seat_loose : {R : Type 0} {F : Steps R} → UnitSeat F → Bool
seat_loose (Covered s) = loose s
seat_loose s = false

-- where the move's own message stands
abbrev pub base_of : {R : Type 0} {F : Steps R} → UnitSeat F → Stage F
base_of (Covered s) = s
base_of (Is_beside s) = s.base
base_of (Is_away s) = s.base

abbrev pub SeatGoesOn : {R : Type 0} → (F : Steps R) → UnitSeat F → MachineStep R → Type 0
SeatGoesOn F s m = (t : UnitSeat F) × (moved F (seat_shape F s) m ≡ seat_shape F t) × IsOrderedAs (seat_loose t) (seat_all t) (seat_all s ++ arrived_by m)
    × Placed (seat_side s) (seat_done s) (seat_done t)

-- what the source is asked for is the same in all three
pub seat_allowed : {R : Type 0} (F : Steps R) (s : UnitSeat F) → (seat_shape F s).a.live ≡ (shape F (base_of s)).a.live
seat_allowed F (Covered s) = refl
seat_allowed F s = refl

pub seat_goes_on : {R : Type 0} (F : Steps R) (s : UnitSeat F) (m : MachineStep R) → Allowed (shape F (base_of s)) m → SeatGoesOn F s m
seat_goes_on F (Covered s) m a = let g = goes_on F s m a in (Covered g.0, g.1, g.2, g.3)
seat_goes_on F (Is_beside s) m a = let g = beside_goes_on F s m a in (Is_beside g.0, g.1, g.2, g.3)
seat_goes_on F (Is_away s) m a = let g = away_goes_on F s m a in (Is_away g.0, g.1, g.2, g.3)

-- whichever step it takes
pub covered_stays : {R : Type 0} (F : Steps R) (s : UnitSeat F) (m : MachineStep R) (a : Allowed (shape F (base_of s)) m)
    → is_covered (seat_goes_on F s m a).0 ≡ is_covered s
unfolding seat_goes_on
covered_stays F (Covered s) m a = refl
covered_stays F s m a = refl

-- what the controller sends to a side
pub ca_seat : {R : Type 0} (F : Steps R) (s : UnitSeat F) → list_all to_source (seat_shape F s).ca ≡ true
ca_seat F (Covered s) = ca_kind F s
ca_seat F (Is_beside s) = ca_kind F s.base
ca_seat F (Is_away s) = ca_kind F s.base

pub cb_seat : {R : Type 0} (F : Steps R) (s : UnitSeat F) → list_all to_dest (seat_shape F s).cb ≡ true
cb_seat F (Covered s) = cb_kind F s
cb_seat F (Is_beside s) = cb_kind F s.base
cb_seat F (Is_away s) = cb_kind F s.base

-- no message anywhere: the move has ended, whichever unit looks
pub seat_rests : {R : Type 0} (F : Steps R) (s : UnitSeat F) → Silent (seat_shape F s) → is_over (seat_shape F s).phase ≡ true
seat_rests F (Covered s) h = (rests F s h).0
seat_rests F (Is_away s) h = (rests F s.base (record { sa = h.sa; sb = h.sb; ac = h.ac; bc = h.bc; ca = h.ca; cb = h.cb; cs = h.cs })).0
seat_rests F (Is_beside s) h =
    (rests F s.base (record { sa = h.sa; sb = sym s.strips ∙ ap strip h.sb; ac = h.ac; bc = h.bc; ca = h.ca; cb = h.cb; cs = h.cs })).0

pub over_free : {R : Type 0} (F : Steps R) (s : Stage F) → is_over (shape F s).phase ≡ true → (shape F s).b.rule ≡ Free
over_free F (At_rest d l k) e = refl
over_free F s e = search (never_true)

-- what has arrived and isn't processed
abbrev pub seat_path : {R : Type 0} {F : Steps R} → UnitSeat F → List ℕ
seat_path (Covered s) = path s
seat_path (Is_beside s) = s.h ++ carries s.z
seat_path (Is_away s) = s.l
