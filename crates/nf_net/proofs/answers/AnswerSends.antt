-- A row of a move sends no message that a command is answered: the controller alone adds it.
use Rattle.nf_net.proofs.Words.{◌≡◌, ℕ, true, List, refl, FullCell, Msg, Phase, MovePlan, sent_weight, Each, all_sent}
use Rattle.move_op.specs.Move.{row}
use Rattle.proof_outlines.proofs.outline.MoveRows.{is_of_move}
use Rattle.nf_net.proofs.WeightlessMessages.{weighs_none}

-- a message that a command is answered counts
abbrev pub answering : Msg → ℕ
answering (Msg.Answered op) = 1
answering m = 0

abbrev pub NoAnswer : List (ℕ × Msg) → Type 0
NoAnswer sends = Each (λ x. answering x.1 ≡ 0) sends

pub none_weighs : (n k : ℕ) (sends : List (ℕ × Msg)) → NoAnswer sends → sent_weight answering n k sends ≡ 0
none_weighs n k sends h = weighs_none answering n k sends h

of_move : (m : Msg) → is_of_move m ≡ true → answering m ≡ 0
of_move (Msg.Answered op) h = cc
of_move m h = refl

pub row_quiet : (plan : MovePlan) (events : List FullCell) (ph : Phase) (port : ℕ) (message : Msg)
    → NoAnswer (row (record { plan = plan; phase = ph }) events port message).next.sends
row_quiet plan events ph port message = all_sent (λ x. answering x ≡ 0) of_move plan ph events port message
