-- A seat begins as a unit at rest at one side, and a move that is over leaves it so, with no message on its way to the controller.
use Rattle.proof_machines.proofs.unit.Words.{◌≡◌, ℕ, Bool, true, Some, None, List, [], ◌∷◌, ◌++◌, map, refl, ap, append-nil, Where, At_a, At_b, At_c, Ran}
use Rattle.proof_machines.proofs.unit.Words.{Steps, after, Item, Carry, idle, Phase, Idle, Over, State, Ended, firsts, never_true, nil_left, nil_right, Stage}
use Rattle.proof_machines.proofs.unit.Words.{At_rest, Moved, Undone, rest, shape, all_of}
use Rattle.proof_machines.proofs.unit.Path.{carries}
use Rattle.proof_machines.proofs.unit.DestinationUnits.{strip, beside}
use Rattle.proof_machines.proofs.unit.Lists.{map_nil}
use Rattle.proof_machines.proofs.unit.Rests.{is_over}
use Rattle.proof_machines.proofs.unit.Seats.{UnitSeat, Covered, Is_beside, Is_away, seat_shape, seat_all, over_free}

-- a unit at rest at one side: its packets on that side's link, its record live there
abbrev pub rest_at : {R : Type 0} → Steps R → Where → List Ran → List ℕ → Phase R → Bool → State R
rest_at F At_a d l phase k = record (rest k) { sa = map Carry l; a = idle (after F d); phase = phase; target = At_a; done = d }
rest_at F At_b d l phase k = record (rest k) { sb = map Carry l; b = idle (after F d); phase = phase; target = At_b; done = d }
rest_at F At_c d l phase k = record (rest k) { sc = map Carry l; c = idle (after F d); phase = phase; target = At_c; done = d }

pub strip_carries : (R : Type 0) (l : List ℕ) → strip (map (λ p. let x : Item R = Carry p in x) l) ≡ []
strip_carries R [] = refl
strip_carries R (p ∷ l) = strip_carries R l

-- a link of plain packets alone
only_carries : {R : Type 0} (z : List (Item R)) → strip z ≡ [] → z ≡ map Carry (carries z)
only_carries [] e = refl
only_carries (Carry p ∷ z) e = ap (λ x. Carry p ∷ x) (only_carries z e)
only_carries (x ∷ z) e = cc

-- the seat of a unit that is at rest at one of a move's sides
abbrev pub seat_at : {R : Type 0} → (F : Steps R) → Where → List Ran → List ℕ → Bool → UnitSeat F
seat_at F At_a d l k = Covered (At_rest d l k)
seat_at {R = R} F At_b d l k =
    Is_beside (record { base = At_rest [] [] k; bare = refl; z = map Carry l; h = []; d = d; strips = strip_carries R l; free = λ _. refl })
seat_at F At_c d l k = Is_away (record { base = At_rest [] [] k; bare = refl; d = d; l = l })

pub seat_begins : {R : Type 0} (F : Steps R) (w : Where) (d : List Ran) (l : List ℕ) (k : Bool)
    → seat_shape F (seat_at F w d l k) ≡ rest_at F w d l (Over Idle) k
seat_begins F At_a d l k = refl
seat_begins F side d l k = rw (append-nil d) refl

pub data AtRestNow {R : Type 0} (F : Steps R) (u : State R) (all : List ℕ) : Type 0 where
  Rests_at : (w : Where) (d : List Ran) (l : List ℕ) (phase : Phase R) (k : Bool) → u ≡ rest_at F w d l phase k → all ≡ firsts d ++ l → AtRestNow F u all

-- the empty lists of a bare stage at rest
nothing : (d : List Ran) (l : List ℕ) → firsts d ++ l ≡ [] → (d ≡ []) × (l ≡ [])
nothing d l e = (map_nil _ d (nil_left (firsts d) l e), nil_right (firsts d) l e)

away_over : {R : Type 0} (F : Steps R) (b : Stage F) (bare : all_of b ≡ []) (d : List Ran) (l : List ℕ) → is_over (shape F b).phase ≡ true
    → AtRestNow F (seat_shape F (Is_away (record { base = b; bare = bare; d = d; l = l }))) (firsts d ++ l)
away_over F (At_rest d0 l0 k) bare d l e =
    let n = nothing d0 l0 bare in let a = n.0 in let b = n.1 in Rests_at At_c d l (Over Idle) k (rw (a, b) (rw (append-nil d) refl)) refl
away_over F (Moved d0 l0 k) bare d l e =
    let n = nothing d0 l0 bare in let a = n.0 in let b = n.1 in Rests_at At_c d l (Over (Ended None)) k (rw (a, b) (rw (append-nil d) refl)) refl
away_over F (Undone d0 l0 k why) bare d l e =
    let n = nothing d0 l0 bare in let a = n.0 in let b = n.1 in Rests_at At_c d l (Over (Ended (Some why))) k (rw (a, b) (rw (append-nil d) refl)) refl
away_over F b bare d l e = never_true e

beside_over : {R : Type 0} (F : Steps R) (b : Stage F) → all_of b ≡ [] → (z : List (Item R)) (h : List ℕ) (d : List Ran) → strip z ≡ (shape F b).sb → h ≡ []
    → is_over (shape F b).phase ≡ true → AtRestNow F (beside F (shape F b) z h d) (firsts d ++ (h ++ carries z))
beside_over F (At_rest d0 l0 k) bare z h d strips held e =
    let n = nothing d0 l0 bare in let a = n.0 in let b = n.1 in
    let link = only_carries z strips in
    Rests_at At_b d (carries z) (Over Idle) k
    (rw (a, b, held, append-nil d) (ap (λ x. record (rest_at F At_b d [] (Over Idle) k) { sb = x }) link)) (rw held refl)
beside_over {R = R} F (Moved d0 l0 k) bare z h d strips held e =
    let n = nothing d0 l0 bare in let a = n.0 in let b = n.1 in
    let link = only_carries z (rw b at strips) in
    Rests_at At_b d (carries z) (Over (Ended None)) k
    (rw (a, held, append-nil d) (ap (λ x. record (rest_at F At_b d [] (Over (Ended None)) k) { sb = x }) link)) (rw held refl)
beside_over F (Undone d0 l0 k why) bare z h d strips held e =
    let n = nothing d0 l0 bare in let a = n.0 in let b = n.1 in
    let link = only_carries z strips in
    Rests_at At_b d (carries z) (Over (Ended (Some why))) k
    (rw (a, b, held, append-nil d) (ap (λ x. record (rest_at F At_b d [] (Over (Ended (Some why))) k) { sb = x }) link)) (rw held refl)
beside_over F b bare z h d strips held e = never_true e

covered_over : {R : Type 0} (F : Steps R) (s : Stage F) → is_over (shape F s).phase ≡ true → AtRestNow F (shape F s) (all_of s)
covered_over F (At_rest d l k) e = Rests_at At_a d l (Over Idle) k refl refl
covered_over F (Moved d l k) e = Rests_at At_b d l (Over (Ended None)) k refl refl
covered_over F (Undone d l k why) e = Rests_at At_a d l (Over (Ended (Some why))) k refl refl
covered_over F s e = never_true e

-- a move that has ended leaves each unit at rest at one side
pub seat_ends : {R : Type 0} (F : Steps R) (s : UnitSeat F) → is_over (seat_shape F s).phase ≡ true → AtRestNow F (seat_shape F s) (seat_all s)
seat_ends F (Covered s) e = covered_over F s e
seat_ends F (Is_away s) e = away_over F s.base s.bare s.d s.l e
seat_ends F (Is_beside s) e = beside_over F s.base s.bare s.z s.h s.d s.strips (s.free (over_free F s.base e)) e

-- at rest nothing but plain packets
rest_quiet : {R : Type 0} (F : Steps R) (u : State R) (all : List ℕ) → AtRestNow F u all → (u.ac ≡ []) × (u.bc ≡ [])
rest_quiet F u all (Rests_at At_a d l ph k e o) = (ap (λ x. x.ac) e, ap (λ x. x.bc) e)
rest_quiet F u all (Rests_at w d l ph k e o) = (ap (λ x. x.ac) e, ap (λ x. x.bc) e)

pub over_quiet : {R : Type 0} (F : Steps R) (s : UnitSeat F) → is_over (seat_shape F s).phase ≡ true → ((seat_shape F s).ac ≡ []) × ((seat_shape F s).bc ≡ [])
over_quiet F s e = rest_quiet F (seat_shape F s) (seat_all s) (seat_ends F s e)
