-- Where the packets of a unit go while an instance processes some of them: the source of a move processes packets as long as they go there, the
-- destination as long as they go to either, and neither does for a unit that another instance owned.
use Rattle.proof_machines.proofs.net.Words.{◌≡◌, ◌≢◌, None, Option, List, [], ◌∷◌, refl, sym, ◌∙◌, Answer, At_a, At_b, Steps, Part, inst_does, Item, State}
use Rattle.proof_machines.proofs.net.Words.{Turned, Turned_loose, UnitSeat, Covered, Is_beside, Is_away, seat_shape}
use Rattle.proof_machines.proofs.unit.Stages.{Stage, shape}
use Rattle.proof_machines.proofs.unit.Fresh.{ran_same, bare_sa, bare_sb, dropped_fence}

source_stage : {R : Type 0} (F : Steps R) (s : Stage F) (it : Item R) (v : List (Item R)) → (shape F s).sa ≡ it ∷ v
    → (inst_does F At_a [] None (shape F s).a it).ran ≢ [] → (shape F s).target ≡ At_a
source_stage F (Turned d x f y l h) it v e r = absurd (r (dropped_fence F None l it v e))
source_stage F (Turned_loose d x f y l) it v e r = absurd (r (dropped_fence F None l it v e))
source_stage F s it v e r = cc

-- the two sides of a move
pub data Routed {R : Type 0} (u : State R) : Type 0 where
  To_source : u.target ≡ At_a → Routed u
  To_destination : u.target ≡ At_b → Routed u

stage_routed : {R : Type 0} (F : Steps R) (s : Stage F) → Routed (shape F s)
stage_routed F (Turned d x f y l h) = To_destination refl
stage_routed F s = search (To_source, To_destination)

-- the source processes packets that go there
pub source_routed : {R : Type 0} (F : Steps R) (s : UnitSeat F) (it : Item R) (v : List (Item R)) (parts : List (Part R)) (refuse : Option Answer)
    → (seat_shape F s).sa ≡ it ∷ v → (inst_does F At_a parts refuse (seat_shape F s).a it).ran ≢ [] → (seat_shape F s).target ≡ At_a
source_routed F (Covered s) it v parts refuse e r = source_stage F s it v e (λ n. r (sym (ran_same F At_a parts refuse (shape F s).a it) ∙ n))
source_routed F (Is_beside s) it v parts refuse e r = absurd (r (sym (ran_same F At_a parts refuse (shape F s.base).a it) ∙ bare_sa F s.base s.bare it v e))
source_routed F (Is_away s) it v parts refuse e r = absurd (r (sym (ran_same F At_a parts refuse (shape F s.base).a it) ∙ bare_sa F s.base s.bare it v e))

-- and the destination those that go to one of the two
pub destination_routed : {R : Type 0} (F : Steps R) (s : UnitSeat F) (it : Item R) (v : List (Item R)) (parts : List (Part R)) (refuse : Option Answer)
    → (seat_shape F s).sb ≡ it ∷ v → (inst_does F At_b parts refuse (seat_shape F s).b it).ran ≢ [] → Routed (seat_shape F s)
destination_routed F (Covered s) it v parts refuse e r = stage_routed F s
destination_routed F (Is_beside s) it v parts refuse e r = To_destination refl
destination_routed F (Is_away s) it v parts refuse e r = absurd (r (sym (ran_same F At_b parts refuse (shape F s.base).b it) ∙ bare_sb F s.base s.bare it v e))
