-- Operations as commands begin them, where only the operation and the messages that it begins with count: one way in place of a move, a copy and
-- a share.
use Rattle.nf_net.proofs.Words.{◌≡◌, ℕ, Option, List, ◌∷◌, refl, Filter, Command, Msg, MovePlan, move_at_start, CopyPlan, SharePlan, Operation, Move, Copy}
use Rattle.nf_net.proofs.Words.{Share, ControllerState}
use Rattle.move_op.specs.Move.{begin_sends}
use Rattle.copy_share.specs.Copy as copy
use Rattle.copy_share.specs.Share as share
use Rattle.ctrl_node.specs.Controller as ctrl
use Rattle.ctrl_node.specs.Controller.{Step}
use Rattle.proof_outlines.proofs.outline.ControllerWays.{Beginnings}

-- an operation as a command begins it, with what is sent for it
pub data IsBegun (x : Operation) (sends : List (ℕ × Msg)) : Type 0 where
  Is_move : (plan : MovePlan) → x ≡ Move (move_at_start plan) → sends ≡ begin_sends plan → IsBegun x sends
  Is_copy : (op from to : ℕ) (filter : Option Filter) → x ≡ Copy (copy.copy_at_start (record { op = op; from = from; to = to; filter = filter }))
      → sends ≡ copy.begin_sends (record { op = op; from = from; to = to; filter = filter }) → IsBegun x sends
  Is_share : (plan : SharePlan) → x ≡ Share (share.share_at_start plan) → sends ≡ share.begin_sends plan → IsBegun x sends

-- what holds of every operation that begins holds of a move, a copy and a share
pub row_opens : (c : ControllerState) (Allows : Msg → Step → Type 0)
    → ((k : Command) (op : ℕ) (x : Operation) (sends : List (ℕ × Msg)) → IsBegun x sends → Allows (Msg.Asked k) (ctrl.opening_step c op x sends))
    → Beginnings c Allows
row_opens c Allows opens = record {
  moves = λ k op from to filter keep.
      let plan : MovePlan = record { op = op; from = from; to = to; filter = filter; keep = keep } in
      opens k op (Move (move_at_start plan)) (begin_sends plan) (Is_move plan refl refl);
  copies = λ k op from to filter.
      let plan : CopyPlan = record { op = op; from = from; to = to; filter = filter } in
      opens k op (Copy (copy.copy_at_start plan)) (copy.begin_sends plan) (Is_copy op from to filter refl refl);
  shares = λ k op filter home others.
      let plan : SharePlan = record { op = op; members = home ∷ others; filter = filter; site = c.site } in
      opens k op (Share (share.share_at_start plan)) (share.begin_sends plan) (Is_share plan refl refl);
}
