-- A move of the state and the packets of units from one instance to another: its phases, and what it does with each message.
-- This project's own, after the moves of OpenNF that lose no packet and keep the order of packets.
use Rattle.std.specs.Prelude.{ℕ, ◌==◌, Bool, true, false, List, [], ◌∷◌, ◌++◌, map, Option, None, Some, is_some, if◌then◌else◌}
use Rattle.std.specs.List.{flat_map, list_all}
use Rattle.std.specs.Ordering.{nat_cmp}
use Rattle.std.specs.FinMap as finite
use Rattle.flow_filter.specs.declared.filter.Filter.{Filter}
use Rattle.nf_function.specs.declared.chunk.Chunk.{Chunk}
use Rattle.event_filter.specs.declared.action.Action as actions
use Rattle.event_filter.specs.declared.action.Action.TheVariants as action
use Rattle.event_filter.specs.declared.mark.Mark.TheVariants.{Pass}
use Rattle.event_store.specs.Store.{stored_of}
pub use Rattle.event_store.specs.Store.{store_after}
use Rattle.switch_rules.specs.declared.target.Target.TheVariants.{Instance}
use Rattle.packet_pool.specs.Pool.{FullCell}
use Rattle.nf_msgs.specs.declared.answer.Answer.{Answer}
use Rattle.nf_msgs.specs.declared.answer.Answer.TheVariants.{Done}
use Rattle.nf_msgs.specs.declared.msg.Piece.{Piece}
use Rattle.nf_msgs.specs.declared.msg.Msg.{Msg}
use Rattle.nf_msgs.specs.declared.msg.Msg.TheVariants as msg
use Rattle.nf_msgs.specs.Exports.{units_in}
use Rattle.nf_msgs.specs.Nodes.{switch_node, instance_node}
use Rattle.move_op.specs.Phases.{Phase, Freezing, Over}
use Rattle.move_op.specs.Table.{Words, Said, Nothing, Stream, Remove, Restore, Hold_at_source, Ask, Put, Hold_at_destination, Forward, Release, Give_back}
use Rattle.move_op.specs.Table.{Fence, on_event, on_source_enabled, on_piece, on_deleted, on_restored, on_source_fenced, on_put_ok, on_put_no}
use Rattle.move_op.specs.Table.{on_destination_enabled, on_destination_fenced}

-- what is to be moved: the command's number, the source and the destination, the filter, and whether packets keep their order
pub record MovePlan : Type 0 where
  pub op : ℕ
  pub from : ℕ
  pub to : ℕ
  pub filter : Filter
  pub keep : Bool

-- a move: what is to be moved, and how far it has come
pub record MoveState : Type 0 where
  pub plan : MovePlan
  pub phase : Phase

-- the phase of a move after a message, and what it sends, each message with its receiver
pub record MoveNext : Type 0 where
  pub phase : Phase
  pub sends : List (ℕ × Msg)

-- what a move does next, and the parcels that are then stored for it, where they change
pub record MoveRow : Type 0 where
  pub next : MoveNext
  pub stored : Option (List FullCell)

abbrev pub next_phase : Phase → List (ℕ × Msg) → MoveNext
next_phase phase sends = record { phase = phase; sends = sends }

-- the stored parcels stay
abbrev pub keeps : MoveNext → MoveRow
keeps next = record { next = next; stored = None }

-- these parcels are stored afterwards
abbrev pub stores : List FullCell → MoveNext → MoveRow
stores parcels next = record { next = next; stored = Some parcels }

-- each chunk has a unit
abbrev pub have_units : List Chunk → Bool
have_units chunks = list_all (λ chunk. is_some chunk.unit) chunks

-- the chunks of pieces, in order
abbrev pub chunks_of : List Piece → List Chunk
chunks_of pieces = flat_map (λ piece. piece.chunks) pieces

-- a refused piece that came back
abbrev pub put_back : List Chunk → Bool → Piece
put_back chunks last = record { chunks = chunks; total = 0; newest = 0; last = last }

-- the nodes of the source and of the destination
abbrev pub source : MovePlan → ℕ
source plan = instance_node plan.from

abbrev pub destination : MovePlan → ℕ
destination plan = instance_node plan.to

-- the event rule of the move is set at a node
abbrev pub enable_at : MovePlan → ℕ → actions.Action → ℕ × Msg
enable_at plan node action = (node, msg.Enable plan.op plan.filter action)

-- a piece is put at the destination
abbrev pub put_to : MovePlan → Bool → Piece → ℕ × Msg
put_to plan first piece = (destination plan, msg.Put plan.op piece first)

-- a parcel goes on to an instance, where no rule takes it
abbrev pub forward_to : MovePlan → ℕ → FullCell → ℕ × Msg
forward_to plan to parcel = (switch_node, msg.Forward to (Pass plan.op) parcel)

-- a move begins: the source is to hand out the packets
abbrev pub move_at_start : MovePlan → MoveState
move_at_start plan = record { plan = plan; phase = Freezing }

abbrev pub begin_sends : MovePlan → List (ℕ × Msg)
begin_sends plan = enable_at plan (source plan) action.Drop ∷ []

-- what a row says, as messages with their receivers
abbrev pub messages_of : MovePlan → Said FullCell Piece → List (ℕ × Msg)
messages_of plan Nothing = []
messages_of plan Stream = (source plan, msg.Stream plan.op plan.filter) ∷ []
messages_of plan (Remove piece) = (source plan, msg.Delete plan.op (units_in piece.chunks)) ∷ []
messages_of plan (Restore pieces) = (source plan, msg.Restore plan.op (chunks_of pieces)) ∷ []
messages_of plan Hold_at_source = enable_at plan (source plan) action.Buffer ∷ []
messages_of plan (Ask piece) = put_to plan true piece ∷ []
messages_of plan (Put pieces) = map (put_to plan false) pieces
messages_of plan Hold_at_destination = enable_at plan (destination plan) action.Buffer ∷ []
messages_of plan (Forward parcel) = forward_to plan plan.to parcel ∷ []
messages_of plan (Release stored) =
    map (forward_to plan plan.to) stored ++ (switch_node, msg.Install plan.op plan.filter plan.from (Instance plan.to)) ∷ []
messages_of plan (Give_back stored) = map (forward_to plan plan.from) stored ++ (switch_node, msg.FenceTo plan.op plan.from) ∷ []
messages_of plan Fence = (switch_node, msg.FenceTo plan.op plan.to) ∷ []

-- the words of the table: a move ends with its answer, and of what it says messages come
abbrev pub words : MovePlan → Words FullCell Piece Answer MoveNext MoveRow
words plan = record {
  keep = plan.keep;
  is_last = λ piece. piece.last;
  has_units = λ piece. have_units piece.chunks;
  done = Done;
  refused = λ why. why;
  next = λ phase said. next_phase phase (messages_of plan said);
  keeps = keeps;
  stores = stores;
}

-- a message of the source
abbrev pub from_source : MovePlan → Phase → List FullCell → Msg → MoveRow
from_source plan phase stored (msg.Event op parcel) = on_event (words plan) phase stored parcel
from_source plan phase stored (msg.Enabled op) = on_source_enabled (words plan) phase stored
from_source plan phase stored (msg.Piece op piece) = keeps (on_piece (words plan) phase piece)
from_source plan phase stored (msg.Deleted op) = keeps (on_deleted (words plan) phase)
from_source plan phase stored (msg.Restored op) = keeps (on_restored (words plan) phase)
from_source plan phase stored (msg.Fenced op) = keeps (on_source_fenced (words plan) phase)
from_source plan phase stored message = keeps (next_phase phase [])

-- a message of the destination
abbrev pub from_destination : MovePlan → Phase → List FullCell → Msg → MoveRow
from_destination plan phase stored (msg.PutOk op) = on_put_ok (words plan) phase stored
from_destination plan phase stored (msg.PutNo op refused) = keeps (on_put_no (words plan) phase refused.why (put_back refused.chunks))
from_destination plan phase stored (msg.Enabled op) = on_destination_enabled (words plan) phase stored
from_destination plan phase stored (msg.Fenced op) = keeps (on_destination_fenced (words plan) phase)
from_destination plan phase stored message = keeps (next_phase phase [])

-- the table of a move, with the parcels that are stored for it. What it doesn't name comes in no run
abbrev pub row : MoveState → List FullCell → ℕ → Msg → MoveRow
row s stored sender message =
    if sender == source s.plan then from_source s.plan s.phase stored message
    else if sender == destination s.plan then from_destination s.plan s.phase stored message
    else keeps (next_phase s.phase [])

-- the parcels of each operation
abbrev pub Store : Type 0
Store = finite.FinMap nat_cmp (List FullCell)

-- the row, with what a store has for the move
abbrev pub row_in : MoveState → Store → ℕ → Msg → MoveRow
row_in s store sender message = row s (stored_of store s.plan.op) sender message

-- the answer of a move that is over
abbrev pub answer_of : Phase → Option Answer
answer_of (Over answer) = Some answer
answer_of phase = None
