-- What is known of the open operations of a controller of a run: moves, copies and shares are those of their orders.
use Rattle.proof_outlines.proofs.Words.{◌≡◌, ℕ, Some, None, List, subst, Semantics, Msg, MoveState, CopyState, ShareState, Move, Copy, Share, turn_of}
use Rattle.proof_outlines.proofs.Words.{ControllerState, takes_turn, Open, OpenShare}
use Rattle.std.specs.FinMap as finite
use Rattle.copy_share.specs.Copy as copy
use Rattle.proof_outlines.proofs.joined.Words.{IsRefusing, CopyTurn, copy_turn, Given, IsPlan, IsCopyPlan, IsSharePlan, IsController}

pub record AreKnown (g : Given) (c : ControllerState) : Type 0 where
  pub moves : (op : ℕ) (m : MoveState) → finite.get c.operations op ≡ Some (Move m) → (m.plan.op ≡ op) × IsRefusing m.phase × IsPlan g op m.plan
  pub copies : (op : ℕ) (y : CopyState) → finite.get c.operations op ≡ Some (Copy y) → (copy.answer_of y.phase ≡ None) × IsCopyPlan g op y.plan
  pub shares : (op : ℕ) (s : ShareState) → finite.get c.operations op ≡ Some (Share s) → (s.plan.op ≡ op) × IsSharePlan g op s.plan

pub known : {R : Type 0} (f : Semantics R) (g : Given) (c : ControllerState) (ops : List (Open R)) (shares : List OpenShare) (next : ℕ)
    → IsController f g c ops shares next → AreKnown g c
known f g c ops shares next is = record {
  moves = λ op m there. (let it = is.moves op m there in (it.op_is, it.refusing, subst (λ k. IsPlan g k m.plan) it.op_is it.plan));
  copies = λ op y there. (let it = is.copies op y there in (it.going, subst (λ k. IsCopyPlan g k y.plan) it.op_is it.plan));
  shares = λ op s there. (let it = is.shared op s there in (it.op_is, subst (λ k. IsSharePlan g k s.plan) it.op_is it.plan));
}

module _ (g : Given) (c : ControllerState) (are : AreKnown g c) where
  -- what a message does to an open copy
  pub copy_turns : (op : ℕ) (y : CopyState) → finite.get c.operations op ≡ Some (Copy y) → (port : ℕ) (m : Msg)
      → CopyTurn (record { controller = c; op = op; copy = y }) m (takes_turn c op (turn_of (Some (Copy y)) c.store port m))
  copy_turns op y there port m = copy_turn c op y (are.copies op y there).0 there port m
