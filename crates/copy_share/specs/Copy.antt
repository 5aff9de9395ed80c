-- A copy of the state of units, or of the all-flows state, from one instance to another: its phases, and what it does with each
-- message. This project's own, after the copies of OpenNF.
use Rattle.std.specs.Prelude.{ℕ, ◌==◌, List, [], ◌∷◌, Option, None, Some, if◌then◌else◌}
use Rattle.flow_filter.specs.declared.filter.Filter.{Filter}
use Rattle.nf_msgs.specs.declared.answer.Answer.{Answer}
use Rattle.nf_msgs.specs.declared.answer.Answer.TheVariants.{Done}
use Rattle.nf_msgs.specs.declared.msg.Msg.{Msg}
use Rattle.nf_msgs.specs.declared.msg.Msg.TheVariants as msg
use Rattle.nf_msgs.specs.Nodes.{instance_node}
use Rattle.copy_share.specs.declared.copy_phase.CopyPhase.{CopyPhase}
use Rattle.copy_share.specs.declared.copy_phase.CopyPhase.TheVariants.{Getting, Keeping, Over}

-- what is to be copied: the command's number, the source and the destination, and the filter of the units, or none for the
-- all-flows state
pub record CopyPlan : Type 0 where
  pub op : ℕ
  pub from : ℕ
  pub to : ℕ
  pub filter : Option Filter

-- a copy: what is to be copied, and how far it has come
pub record CopyState : Type 0 where
  pub plan : CopyPlan
  pub phase : CopyPhase

-- the phase of a copy after a message, and what it sends, each message with its receiver
pub record CopyRow : Type 0 where
  pub phase : CopyPhase
  pub sends : List (ℕ × Msg)

abbrev pub next_phase : CopyPhase → List (ℕ × Msg) → CopyRow
next_phase phase sends = record { phase = phase; sends = sends }

-- a copy begins: the source is asked for what is to be copied
abbrev pub copy_at_start : CopyPlan → CopyState
copy_at_start plan = record { plan = plan; phase = Getting }

abbrev pub asks : ℕ → Option Filter → Msg
asks op None = msg.GetAll op
asks op (Some filter) = msg.Get op filter

abbrev pub begin_sends : CopyPlan → List (ℕ × Msg)
begin_sends plan = (instance_node plan.from, asks plan.op plan.filter) ∷ []

-- a message of the source: what it gives goes on to the destination
abbrev pub from_source : CopyPlan → CopyPhase → Msg → CopyRow
from_source plan Getting (msg.Chunks op chunks) = next_phase Keeping ((instance_node plan.to, msg.Standby plan.op chunks) ∷ [])
from_source plan Getting (msg.AllChunk op chunk) = next_phase Keeping ((instance_node plan.to, msg.PutAll plan.op chunk) ∷ [])
from_source plan phase message = next_phase phase []

-- a message of the destination: it keeps what came
abbrev pub from_destination : CopyPlan → CopyPhase → Msg → CopyRow
from_destination plan Keeping (msg.Kept op) = next_phase Over []
from_destination plan phase message = next_phase phase []

-- the table of a copy. What it doesn't name comes in no run
abbrev pub row : CopyState → ℕ → Msg → CopyRow
row s sender message =
    if sender == instance_node s.plan.from then from_source s.plan s.phase message
    else if sender == instance_node s.plan.to then from_destination s.plan s.phase message
    else next_phase s.phase []

-- the answer of a copy that is over
abbrev pub answer_of : CopyPhase → Option Answer
answer_of Over = Some Done
answer_of phase = None
