-- What a move stored has gone on before its last fence: then nothing is stored for it.
use Rattle.proof_machines.proofs.net.Words.{◌≡◌, ℕ, Bool, true, false, Some, List, [], ◌∷◌, refl, sym, ap, ◌∙◌, subst, if◌then◌else◌, ◌==◌, Decides-eqb}
use Rattle.proof_machines.proofs.net.Words.{MovePhase, Frame, see_phase, Undoing, seat_shape, cons_nil, Sys, IsSys, Open, find_op, World, frame, OpLabel}
use Rattle.proof_machines.proofs.net.Words.{IsController, none_mine, Global, same_unit, same_unit_equiv, either_way, Unit}
use Rattle.move_op.specs.Phases.{Ending}
use Rattle.proof_machines.proofs.unit.Sides.{is_released, seat_stands}
use Rattle.proof_machines.proofs.net.Ctrl.{each_found}
use Rattle.proof_machines.proofs.net.Units.{Where, shown, see as seeing}

-- the last fence is awaited
abbrev pub ends : {R : Type 0} → MovePhase R → Bool
ends Ending = true
ends (Undoing why) = true
ends phase = false

ends_released : {R : Type 0} (v : Frame) (p : MovePhase R) → ends p ≡ true → is_released (see_phase v p) ≡ true
ends_released v Ending e = refl
ends_released v (Undoing why) e = refl
ends_released v p e = cc

module _ {R : Type 0} (S : Sys R) (laws : IsSys S) where
  -- a list in which no unit has a packet
  pub nothing : (ps : List ℕ) → ((u : Unit) → none_mine S u ps ≡ []) → ps ≡ []
  nothing [] h = refl
  nothing (p ∷ ps) h =
      let own : same_unit (S.packet_unit p) (S.packet_unit p) ≡ true = same_unit_equiv.refl (S.packet_unit p) in
      let none : p ∷ none_mine S (S.packet_unit p) ps ≡ [] =
      ap (λ b. if b then p ∷ none_mine S (S.packet_unit p) ps else none_mine S (S.packet_unit p) ps) (sym own) ∙ h (S.packet_unit p) in
      cons_nil none

  -- of a unit, by where it is
  pub none_left : (w : World S) → Global S w → (n : ℕ) (e : Open R) → find_op w.ops n ≡ Some e → ends e.phase ≡ true
      → (u : Unit) (ps : List ℕ) (b : Bool) → Where S laws u w ps b → none_mine S u e.store ≡ []
  none_left w g n e there late u ps b here =
      let k = shown S laws u w ps b g here in
      let z = seeing S laws u k.op k.third in
      either_way (n == k.op.num)
      (λ on.
      let same : n ≡ k.op.num = (Decides-eqb n k.op.num).0 on in
      let c : IsController S z (Some e) (seat_shape S.F k.seat) = subst (λ o. IsController S z o (seat_shape S.F k.seat))
      (ap (λ m. find_op w.ops m) (sym same) ∙ there) k.holds.ctrl in
      c.2 ∙ (seat_stands S.F k.seat).released (ap is_released (sym c.1) ∙ ends_released (frame S z) e.phase late))
      (λ off.
      let l = each_found (OpLabel S z) n w.ops e k.holds.ops there in
      let same : e.op.num ≡ n = (Decides-eqb e.op.num n).0 l.1 in
      (l.0.1 (rw same off)).1)
