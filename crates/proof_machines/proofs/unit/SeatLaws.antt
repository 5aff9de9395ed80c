-- In each seat the record stands at one place.
use Rattle.proof_machines.proofs.unit.Words.{Option, Some, None, [], refl, option_to_list, Steps, after}
use Rattle.proof_machines.proofs.unit.Kept.{Kept, Nowhere, Is_live, IsKept, is_kept}
use Rattle.proof_machines.proofs.unit.Away.{shape_away, away_kept}
use Rattle.proof_machines.proofs.unit.DestinationUnits.{shape_beside, beside_kept}
use Rattle.proof_machines.proofs.unit.Seats.{UnitSeat, Covered, Is_beside, Is_away, seat_shape}

-- the record of the fold stands at one place
alone : {R : Type 0} (o a : Option R) → Kept o a (option_to_list o) []
alone None a = Nowhere refl refl refl
alone (Some r) a = Is_live r refl refl refl

pub seat_kept : {R : Type 0} (F : Steps R) (s : UnitSeat F) → IsKept F (seat_shape F s)
seat_kept F (Covered s) = is_kept F s
seat_kept F (Is_beside s) = let k = beside_kept F s in rw (k.0, k.1, k.2) (alone (after F s.d) (shape_beside F s).a.live)
seat_kept F (Is_away s) = let k = away_kept F s in rw (k.0, k.1, k.2) (alone (after F s.d) (shape_away F s).a.live)
