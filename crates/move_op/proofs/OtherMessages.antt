-- A message that the table of a move doesn't name leaves the move as it is.
use Rattle.std.proofs.Common.{◌≡◌, ℕ, List, [], refl}
use Rattle.packet_pool.specs.Pool.{FullCell}
use Rattle.nf_msgs.specs.declared.msg.Piece as piece
use Rattle.nf_msgs.specs.declared.msg.Refused as refused
use Rattle.nf_msgs.specs.declared.msg.Msg.{Msg}
use Rattle.nf_msgs.specs.declared.msg.Msg.TheVariants as msg
use Rattle.move_op.specs.Phases.{Phase}
use Rattle.move_op.specs.Move.{MovePlan, next_phase, keeps, from_source, from_destination}

pub other_of_source : (plan : MovePlan) (phase : Phase) (events : List FullCell) (message : Msg)
    → ((op : ℕ) → message ≡ msg.Enabled op → ⊥) → ((op : ℕ) (p : piece.Piece) → message ≡ msg.Piece op p → ⊥)
    → ((op : ℕ) → message ≡ msg.Deleted op → ⊥) → ((op : ℕ) → message ≡ msg.Restored op → ⊥)
    → ((op : ℕ) (parcel : FullCell) → message ≡ msg.Event op parcel → ⊥) → ((op : ℕ) → message ≡ msg.Fenced op → ⊥)
    → from_source plan phase events message ≡ keeps (next_phase phase [])
other_of_source plan phase events (msg.Enabled op) a b c d e f = absurd (a op refl)
other_of_source plan phase events (msg.Piece op p) a b c d e f = absurd (b op p refl)
other_of_source plan phase events (msg.Deleted op) a b c d e f = absurd (c op refl)
other_of_source plan phase events (msg.Restored op) a b c d e f = absurd (d op refl)
other_of_source plan phase events (msg.Event op parcel) a b c d e f = absurd (e op parcel refl)
other_of_source plan phase events (msg.Fenced op) a b c d e f = absurd (f op refl)
other_of_source plan phase events message a b c d e f = refl

pub other_of_destination : (plan : MovePlan) (phase : Phase) (events : List FullCell) (message : Msg)
    → ((op : ℕ) → message ≡ msg.PutOk op → ⊥) → ((op : ℕ) (r : refused.Refused) → message ≡ msg.PutNo op r → ⊥)
    → ((op : ℕ) → message ≡ msg.Enabled op → ⊥) → ((op : ℕ) → message ≡ msg.Fenced op → ⊥)
    → from_destination plan phase events message ≡ keeps (next_phase phase [])
other_of_destination plan phase events (msg.PutOk op) a b c d = absurd (a op refl)
other_of_destination plan phase events (msg.PutNo op r) a b c d = absurd (b op r refl)
other_of_destination plan phase events (msg.Enabled op) a b c d = absurd (c op refl)
other_of_destination plan phase events (msg.Fenced op) a b c d = absurd (d op refl)
other_of_destination plan phase events message a b c d = refl
