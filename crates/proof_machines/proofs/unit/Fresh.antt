-- Where an instance processes packets of the unit in a step of the machine, its record is that of the fold of all that was done before.
use Rattle.proof_machines.proofs.unit.Machine.{Stream}
use Rattle.proof_machines.proofs.unit.Words.{◌≡◌, ◌≢◌, ℕ, Bool, true, false, Option, Some, None, List, [], ◌∷◌, ◌++◌, map, refl, sym, ap, ◌∙◌, subst}
use Rattle.proof_machines.proofs.unit.Words.{append-nil, Answer, Where, At_a, At_b, Steps, after, Part, Inst, inst_does, put, Item, Carry, Pass, Fence, Put}
use Rattle.proof_machines.proofs.unit.Words.{State, Take_sa, Take_sb, moved, nil_right, drops, Stage, At_rest, Streams, All_put, Hold_goes, Held, Laying}
use Rattle.proof_machines.proofs.unit.Words.{Turned, Turned_loose, Restore_goes, shape, all_of, cons_nil, MachineStep, Allowed, arrived_by, Ran}
use Rattle.proof_machines.proofs.unit.Lists.{head_passes}
use Rattle.proof_machines.proofs.unit.Bare.{to_source, to_dest, bare_facts, stays_bare}
use Rattle.proof_machines.proofs.unit.Steps.{goes_on}
use Rattle.proof_machines.proofs.unit.Seats.{UnitSeat, Covered, Is_beside, Is_away, seat_shape, ca_seat, cb_seat}

-- a message at which no instance processes anything
abbrev pub still_item : {R : Type 0} → Item R → Bool
still_item (Carry p) = false
still_item (Pass p) = false
still_item Fence = false
still_item it = true

-- the controller sends none that isn't so
still_to_source : {R : Type 0} (it : Item R) → to_source it ≡ true → still_item it ≡ true
still_to_source Stream e = refl
still_to_source it e = cc

still_to_dest : {R : Type 0} (it : Item R) → to_dest it ≡ true → still_item it ≡ true
still_to_dest (Put h first) e = refl
still_to_dest it e = cc

pub still_ca : {R : Type 0} (F : Steps R) (s : UnitSeat F) (it : Item R) (v : List (Item R)) → (seat_shape F s).ca ≡ it ∷ v → still_item it ≡ true
still_ca F s it v e = still_to_source it (head_passes to_source it v (seat_shape F s).ca e (ca_seat F s))

pub still_cb : {R : Type 0} (F : Steps R) (s : UnitSeat F) (it : Item R) (v : List (Item R)) → (seat_shape F s).cb ≡ it ∷ v → still_item it ≡ true
still_cb F s it v e = still_to_dest it (head_passes to_dest it v (seat_shape F s).cb e (cb_seat F s))

put_still : {R : Type 0} (F : Steps R) (first : Bool) (refuse : Option Answer) (i : Inst R) (h : Part R) → (put F first refuse i h).ran ≡ []
put_still F false refuse i h = refl
put_still F true None i h = refl
put_still F true (Some why) i h = refl

pub still_ran : {R : Type 0} (F : Steps R) (w : Where) (parts : List (Part R)) (refuse : Option Answer) (i : Inst R) (it : Item R) → still_item it ≡ true
    → (inst_does F w parts refuse i it).ran ≡ []
still_ran F w parts refuse i (Carry p) e = cc
still_ran F w parts refuse i (Pass p) e = cc
still_ran F w parts refuse i Fence e = cc
still_ran F w parts refuse i (Put h first) e = put_still F first refuse i h
still_ran F w parts refuse i it e = refl

-- what is processed doesn't hang on the flags
pub ran_same : {R : Type 0} (F : Steps R) (w : Where) (parts : List (Part R)) (refuse : Option Answer) (i : Inst R) (it : Item R)
    → (inst_does F w [] None i it).ran ≡ (inst_does F w parts refuse i it).ran
ran_same F w parts refuse i (Put h first) = put_still F first None i h ∙ sym (put_still F first refuse i h)
ran_same F w parts refuse i it = refl

-- Covered units: A's record, B's, and C's nothing. Packets of a frozen unit aren't processed.
dropped : {R : Type 0} (F : Steps R) (o : Option R) (l : List ℕ) (it : Item R) (v : List (Item R)) → map Carry l ≡ it ∷ v
    → (inst_does F At_a [] None (drops o) it).ran ≡ []
dropped F o [] it v e = cons_nil (sym e)
dropped F o (p ∷ l) it v e = let same : Carry p ≡ it = cc in subst (λ x. (inst_does F At_a [] None (drops o) x).ran ≡ []) same refl

pub dropped_fence : {R : Type 0} (F : Steps R) (o : Option R) (l : List ℕ) (it : Item R) (v : List (Item R)) → map Carry l ++ Fence ∷ [] ≡ it ∷ v
    → (inst_does F At_a [] None (drops o) it).ran ≡ []
dropped_fence F o [] it v e = let same : Fence ≡ it = cc in subst (λ x. (inst_does F At_a [] None (drops o) x).ran ≡ []) same refl
dropped_fence F o (p ∷ l) it v e = let same : Carry p ≡ it = cc in subst (λ x. (inst_does F At_a [] None (drops o) x).ran ≡ []) same refl

abbrev RunsNothing : {R : Type 0} → Steps R → State R → Item R → Type 0
RunsNothing F u it = (inst_does F At_a [] None u.a it).ran ≢ []

sa_stage : {R : Type 0} (F : Steps R) (s : Stage F) (it : Item R) (v : List (Item R)) → (shape F s).sa ≡ it ∷ v → RunsNothing F (shape F s) it
    → (shape F s).a.live ≡ after F (shape F s).done
sa_stage F (Streams d f y q l k s w) it v e r = absurd (r (dropped F _ l it v e))
sa_stage F (All_put d f y l k) it v e r = absurd (r (dropped F None l it v e))
sa_stage F (Hold_goes d f y l) it v e r = absurd (r (dropped F None l it v e))
sa_stage F (Held d f y l) it v e r = absurd (r (dropped F None l it v e))
sa_stage F (Laying d x f g y l k) it v e r = absurd (r (dropped F None l it v e))
sa_stage F (Restore_goes d f y l k why) it v e r = absurd (r (dropped F None l it v e))
sa_stage F (Turned d x f y l h) it v e r = absurd (r (dropped_fence F None l it v e))
sa_stage F (Turned_loose d x f y l) it v e r = absurd (r (dropped_fence F None l it v e))
sa_stage F s it v e r = cc

sb_stage : {R : Type 0} (F : Steps R) (s : Stage F) (it : Item R) (v : List (Item R)) → (shape F s).sb ≡ it ∷ v → (shape F s).b.live ≡ after F (shape F s).done
sb_stage F (At_rest d l k) it v e = cc
sb_stage F s it v e = cc

pub sc_stage : {R : Type 0} (F : Steps R) (s : Stage F) → (shape F s).sc ≡ []
sc_stage F (At_rest d l k) = refl
sc_stage F s = refl

-- Another seat's base: nothing of the unit is ever done there.
bare_ran : {R : Type 0} (F : Steps R) (s : Stage F) → all_of s ≡ [] → (m : MachineStep R) (a : Allowed (shape F s) m) → arrived_by m ≡ [] → (ran : List Ran)
    → (moved F (shape F s) m).done ≡ (shape F s).done ++ ran → ran ≡ []
bare_ran F s bare m a none ran taken =
    let g = goes_on F s m a in
    nil_right (shape F s).done ran (sym taken ∙ ap (λ x. x.done) g.1 ∙ (bare_facts F g.0 (stays_bare F s m a bare none)).done)

pub bare_sa : {R : Type 0} (F : Steps R) (s : Stage F) → all_of s ≡ [] → (it : Item R) (v : List (Item R)) → (shape F s).sa ≡ it ∷ v
    → (inst_does F At_a [] None (shape F s).a it).ran ≡ []
bare_sa F s bare it v e = bare_ran F s bare Take_sa tt refl _ (rw (e, moved) refl)

pub bare_sb : {R : Type 0} (F : Steps R) (s : Stage F) → all_of s ≡ [] → (it : Item R) (v : List (Item R)) → (shape F s).sb ≡ it ∷ v
    → (inst_does F At_b [] None (shape F s).b it).ran ≡ []
bare_sb F s bare it v e = bare_ran F s bare Take_sb tt refl _ (rw (e, moved) refl)

-- The links from the switch, at any seat.
pub fresh_sa : {R : Type 0} (F : Steps R) (s : UnitSeat F) (it : Item R) (v : List (Item R)) (parts : List (Part R)) (refuse : Option Answer)
    → (seat_shape F s).sa ≡ it ∷ v → (inst_does F At_a parts refuse (seat_shape F s).a it).ran ≢ []
    → (seat_shape F s).a.live ≡ after F (seat_shape F s).done
fresh_sa F (Covered s) it v parts refuse e r = sa_stage F s it v e (λ n. r (sym (ran_same F At_a parts refuse (shape F s).a it) ∙ n))
fresh_sa F (Is_beside s) it v parts refuse e r = absurd (r (sym (ran_same F At_a parts refuse (shape F s.base).a it) ∙ bare_sa F s.base s.bare it v e))
fresh_sa F (Is_away s) it v parts refuse e r = absurd (r (sym (ran_same F At_a parts refuse (shape F s.base).a it) ∙ bare_sa F s.base s.bare it v e))

pub fresh_sb : {R : Type 0} (F : Steps R) (s : UnitSeat F) (it : Item R) (v : List (Item R)) (parts : List (Part R)) (refuse : Option Answer)
    → (seat_shape F s).sb ≡ it ∷ v → (inst_does F At_b parts refuse (seat_shape F s).b it).ran ≢ []
    → (seat_shape F s).b.live ≡ after F (seat_shape F s).done
fresh_sb F (Covered s) it v parts refuse e r = sb_stage F s it v e
fresh_sb F (Is_beside s) it v parts refuse e r = let none = (bare_facts F s.base s.bare).done in rw (none, append-nil s.d) refl
fresh_sb F (Is_away s) it v parts refuse e r = absurd (r (sym (ran_same F At_b parts refuse (shape F s.base).b it) ∙ bare_sb F s.base s.bare it v e))

pub fresh_sc : {R : Type 0} (F : Steps R) (s : UnitSeat F) (it : Item R) (v : List (Item R)) → (seat_shape F s).sc ≡ it ∷ v
    → (seat_shape F s).c.live ≡ after F (seat_shape F s).done
fresh_sc F (Covered s) it v e = cons_nil (sym e ∙ sc_stage F s)
fresh_sc F (Is_beside s) it v e = cons_nil (sym e ∙ sc_stage F s.base)
fresh_sc F (Is_away s) it v e = let none = (bare_facts F s.base s.bare).done in rw (none, append-nil s.d) refl
