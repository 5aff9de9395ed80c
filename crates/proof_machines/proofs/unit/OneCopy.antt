-- Of one unit at most one record is on its way: with the pieces that the controller keeps, and in what comes from B.
use Rattle.proof_machines.proofs.unit.Words.{◌≡◌, ◌+◌, ◌≤◌, Option, List, ◌∷◌, ◌++◌, length, length-append, ap, ◌∙◌, sym, arith, option_to_list, Steps, Item}
use Rattle.proof_machines.proofs.unit.UnitPieces.{cons_option_is}
use Rattle.proof_machines.proofs.unit.Kept.{records_on, record_in, frozen_in, free_in, Kept, Nowhere, Is_live, On_way, Twice}
use Rattle.proof_machines.proofs.unit.Seats.{UnitSeat, seat_shape}
use Rattle.proof_machines.proofs.unit.SeatLaws.{seat_kept}

one_way : {R : Type 0} (o a : Option R) (live way : List R) → Kept o a live way → length way ≤ 1
one_way o a live way (Nowhere _ _ e) = rw e (omega arith)
one_way o a live way (Is_live r _ _ e) = rw e (omega arith)
one_way o a live way (On_way r _ _ e) = rw e (omega arith)
one_way o a live way (Twice r _ _ _ e) = rw e (omega arith)

-- what comes from B, what isn't free yet, what is free
six : {R : Type 0} (a b c d e f : List R) → length c + (length b + length e) ≤ length (a ++ (b ++ (c ++ (d ++ (e ++ f)))))
six a b c d e f =
    let s = length-append d (e ++ f) in
    omega (arith, length-append a (b ++ (c ++ (d ++ (e ++ f)))), length-append b (c ++ (d ++ (e ++ f))), length-append c (d ++ (e ++ f)), s, length-append e f)

pub few_records : {R : Type 0} (F : Steps R) (s : UnitSeat F)
    → length (records_on (seat_shape F s).bc) + (length (frozen_in (seat_shape F s).phase) + length (free_in (seat_shape F s).phase)) ≤ 1
few_records F s =
    let x = seat_shape F s in
    let part = six (records_on x.ac) (frozen_in x.phase) (records_on x.bc) (records_on x.cb) (free_in x.phase) (records_on x.ca) in
    omega (arith, one_way _ _ _ _ (seat_kept F s), part)

-- with the record in the first message
pub records_head : {R : Type 0} (it : Item R) (v xs : List (Item R)) → it ∷ v ≡ xs → length (option_to_list (record_in it)) ≤ length (records_on xs)
records_head it v xs e =
    let here : records_on xs ≡ option_to_list (record_in it) ++ records_on v = ap records_on (sym e) ∙ cons_option_is (record_in it) (records_on v) in
    let all = ap length here ∙ length-append (option_to_list (record_in it)) (records_on v) in
    omega (arith, all)
