-- A unit whose move hasn't changed the rules yet: its packets are processed at the move's source, if that owns it, and no change of the
-- rules that waits takes it.
use Rattle.proof_machines.proofs.net.Words.{◌≡◌, ◌≢◌, ℕ, Bool, true, false, Some, None, List, [], ◌∷◌, ◌++◌, map, refl, sym, ap, ◌∙◌, subst, if◌then◌else◌}
use Rattle.proof_machines.proofs.net.Words.{◌==◌, ◌&&◌, Decides-eqb, At_a, Steps, Item, Fence_to, Passing, Ending, Over, State, Ended, MoveMsg, MovePhase, Op}
use Rattle.proof_machines.proofs.net.Words.{Frame, see_phase, where_true, add, Laying, Turned, Fenced_a, Ending_b, Fence_b, Turned_loose, Fenced_loose}
use Rattle.proof_machines.proofs.net.Words.{Ending_loose, Fence_loose, Fenced_b, Moved, Returned, to_a, Each, UnitSeat, Covered, Is_beside, Is_away, seat_shape}
use Rattle.proof_machines.proofs.net.Words.{filter_map, never_true, cons_nil, Filter, Msg, Of_move, Sys, IsSys, Open, World, find_op, inst_step, seen, frame}
use Rattle.proof_machines.proofs.net.Words.{Label, IsController, OpLabel, Holds, RestOp, none_mine, Unit}
use Rattle.proof_machines.proofs.unit.Machine.{Install, Stray, Phase}
use Rattle.move_op.specs.Phases.{Freezing}
use Rattle.proof_machines.proofs.unit.Stages.{Stage, shape}
use Rattle.proof_machines.proofs.net.Ctrl.{each_found}
use Rattle.proof_machines.proofs.net.Fresh.{From_switch, From_switch.From_sa, From_switch.From_sb, From_switch.From_sc, comes_from_switch}
use Rattle.proof_machines.proofs.net.Units.{Where, Where.At_rest, Where.In_move, see}

-- whether a move in this phase hasn't sent its change of the rules
abbrev pub is_early : {R : Type 0} → Phase R → Bool
is_early Passing = false
is_early Ending = false
is_early (Over (Ended None)) = false
is_early ph = true

abbrev pub is_early_real : {R : Type 0} → MovePhase R → Bool
is_early_real Passing = false
is_early_real Ending = false
is_early_real (Over None) = false
is_early_real ph = true

seen_early : {R : Type 0} (v : Frame) (ph : MovePhase R) → is_early (see_phase v ph) ≡ is_early_real ph
seen_early v Freezing = refl
seen_early v phase = refl

-- a change of the rules, which is a stray item where it isn't from the source to the destination
abbrev is_install : {R : Type 0} → Item R → Bool
is_install Install = true
is_install Stray = true
is_install it = false

change_is : (R : Type 0) (b : Bool) → is_install {R = R} (if b then Install else Stray) ≡ true
change_is R true = refl
change_is R false = refl

-- Of such a stage: nothing is on the way to the destination or to a third instance, and no change of the rules to the switch.
record Is_early {R : Type 0} (x : State R) : Type 0 where
  sb : x.sb ≡ []
  sc : x.sc ≡ []
  cs : (it : Item R) (v : List (Item R)) → x.cs ≡ it ∷ v → is_install it ≡ false

back_first : {R : Type 0} (f : List ℕ) (it : Item R) (v : List (Item R)) → map to_a f ++ Fence_to At_a ∷ [] ≡ it ∷ v → is_install it ≡ false
back_first [] it v e = let same : Fence_to At_a ≡ it = cc in sym (ap is_install same)
back_first (p ∷ f) it v e = let same : to_a p ≡ it = cc in sym (ap is_install same)

early_stage : {R : Type 0} (F : Steps R) (s : Stage F) → is_early (shape F s).phase ≡ true → Is_early (shape F s)
early_stage F (Laying d x f g e l k) h = never_true h
early_stage F (Turned d x f e l b) h = never_true h
early_stage F (Fenced_a d x f e b) h = never_true h
early_stage F (Ending_b d x f b) h = never_true h
early_stage F (Fence_b d x n b) h = never_true h
early_stage F (Turned_loose d x f e l) h = never_true h
early_stage F (Fenced_loose d x f e) h = never_true h
early_stage F (Ending_loose d x f) h = never_true h
early_stage F (Fence_loose d x n) h = never_true h
early_stage F (Fenced_b d l k) h = never_true h
early_stage F (Moved d l k) h = never_true h
early_stage F (Returned d x f b k why) h = record { sb = refl; sc = refl; cs = λ it v e. back_first f it v e }
early_stage F s h = record { sb = refl; sc = refl; cs = λ it v e. cons_nil (sym e) }

module _ {R : Type 0} (S : Sys R) (laws : IsSys S) (w : World S) (n : ℕ) (e : Open R) (there : find_op w.ops n ≡ Some e)
    (early : is_early_real e.phase ≡ true) (u : Unit) (takes : S.takes e.filter u ≡ true) where
  -- what shows the unit
  record Seated : Type 0 where
    third : ℕ
    stage : Stage S.F
    holds : Holds S (see S laws u e.op third) w (shape S.F stage)
    is : Is_early (shape S.F stage)
    num : e.op.num ≡ n

  module _ (source : w.target u ≡ e.op.src) where
    at_stage : (third : ℕ) (s : UnitSeat S.F) → Holds S (see S laws u e.op third) w (seat_shape S.F s) → is_early (seat_shape S.F s).phase ≡ true
        → e.op.num ≡ n → Seated
    at_stage third (Covered s) h is num = record { third = third; stage = s; holds = h; is = early_stage S.F s is; num = num }
    at_stage third (Is_beside s) h is num = absurd (h.nodes.ab (sym source ∙ h.target))
    at_stage third (Is_away s) h is num = absurd (h.nodes.ac (sym source ∙ h.target))

    in_move : (op : Op) (third : ℕ) (o : Open R) (s : UnitSeat S.F) → find_op w.ops op.num ≡ Some o → Holds S (see S laws u op third) w (seat_shape S.F s)
        → Seated
    in_move op third o s found h = by_number ((Decides-eqb e.op.num op.num).0 (sym own.0.0 ∙ takes)) ((Decides-eqb e.op.num n).0 own.1)
      where
        own : OpLabel S (see S laws u op third) e × ((e.op.num == n) ≡ true)
        own = each_found (OpLabel S (see S laws u op third)) n w.ops e h.ops there

        by_number : e.op.num ≡ op.num → e.op.num ≡ n → Seated
        by_number is num =
            let here : find_op w.ops op.num ≡ Some e = ap (find_op w.ops) (sym is ∙ num) ∙ there in
            let ctrl = subst (λ f. IsController S (see S laws u op third) f (seat_shape S.F s)) here h.ctrl in
            let phase : is_early (seat_shape S.F s).phase ≡ true = ap is_early (sym ctrl.1) ∙ seen_early (frame S (see S laws u op third)) e.phase ∙ early in
            at_stage third s (subst (λ q. Holds S (see S laws u q third) w (seat_shape S.F s)) (sym ctrl.0) h) phase num

    by_where : (ps : List ℕ) (c : Bool) → Where S laws u w ps c → Seated
    by_where ps c (At_rest owner d l b h o f) = let none = (each_found (RestOp S u) n w.ops e h.ops there).0.0 in never_true (sym none ∙ takes)
    by_where ps c (In_move op third o s b found h r f k) = in_move op third o s found h

  module _ (ps : List ℕ) (bared : Bool) (here : Where S laws u w ps bared) (source : w.target u ≡ e.op.src) where
    seated : Seated
    seated = by_where source ps bared here

    -- where packets of the unit are processed
    pub at_source : (p y : ℕ) (m : Msg R) (rest : List (Msg R)) → (y == 0) ≡ false → (y == 1) ≡ false → w.link p y ≡ m ∷ rest
        → none_mine S u (inst_step S (w.inst y) m).ran ≢ [] → y ≡ e.op.src
    at_source p y m rest y0 y1 waits some =
        by_link (comes_from_switch S laws (see S laws u e.op seated.third) w (Covered seated.stage) seated.holds p y m rest y0 y1 waits some)
      where
        by_link : From_switch S laws (see S laws u e.op seated.third) w (Covered seated.stage) seated.holds p y m rest y0 y1 waits some → y ≡ e.op.src
        by_link (From_sa at it v is k r) = at
        by_link (From_sb at it v is k r) = cons_nil (sym (sym seated.is.sb ∙ is))
        by_link (From_sc at it v is k) = cons_nil (sym (sym seated.is.sc ∙ is))

    -- and a change of the rules that the switch takes next doesn't take the unit
    pub untaken : (g : Filter) (k from to : ℕ) (rest : List (Msg R)) → w.link 1 0 ≡ Of_move g (MoveMsg.Install k from to) ∷ rest → S.takes g u ≡ false
    untaken g k from to rest waits = by_test (k == e.op.num) refl
      where
        label : S.takes g u ≡ (k == e.op.num)
        label = (subst (λ ms. Each (Label S (see S laws u e.op seated.third) 1) ms) waits (seated.holds.labels 1 0 refl)).0.1

        by_test : (b : Bool) → (k == e.op.num) ≡ b → S.takes g u ≡ false
        by_test false off = label ∙ off
        by_test true on =
            let v : Frame = frame S (see S laws u e.op seated.third) in
            let it : Item R = if (from == v.from) && (to == v.to) then Install else Stray in
            let view : it ∷ filter_map (seen v) rest ≡ (shape S.F seated.stage).cs =
            sym (ap (λ b. add (where_true b it) (filter_map (seen v) rest)) on) ∙ ap (filter_map (seen v)) (sym waits) ∙ seated.holds.views 1 0 in
            never_true (sym (seated.is.cs it (filter_map (seen v) rest) (sym view)) ∙ change_is R ((from == v.from) && (to == v.to)))
