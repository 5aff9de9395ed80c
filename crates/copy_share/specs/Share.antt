-- A strict share: instances that process the packets of the same units one at a time, in the controller's order, each with the
-- others' state. What it says to whom, with the rows of its table, and which packet it serves next. This project's own, after the strictly
-- consistent shares of OpenNF.
use Rattle.std.specs.Prelude.{ℕ, ◌==◌, Bool, true, false, not, List, [], ◌∷◌, map, length, filter, Option, None, Some, slice_index, if◌then◌else◌}
use Rattle.flow_filter.specs.declared.filter.Filter.{Filter}
use Rattle.flow_filter.specs.declared.flow.Flow.{Flow}
use Rattle.flow_filter.specs.declared.site.Site.{Site}
use Rattle.flow_filter.specs.Flow.{flow_of, place_among}
use Rattle.nf_function.specs.declared.chunk.Chunk.{Chunk}
use Rattle.event_filter.specs.declared.mark.Mark.TheVariants.{Shared}
use Rattle.switch_rules.specs.declared.target.Target.TheVariants.{Controller}
use Rattle.packet_pool.specs.Pool.{FullCell}
use Rattle.nf_msgs.specs.declared.answer.Answer.{Answer}
use Rattle.nf_msgs.specs.declared.answer.Answer.TheVariants.{Done}
use Rattle.nf_msgs.specs.declared.msg.Msg.{Msg}
use Rattle.nf_msgs.specs.declared.msg.Msg.TheVariants as msg
use Rattle.nf_msgs.specs.Nodes.{switch_node, instance_node}
use Rattle.copy_share.specs.declared.share_phase.SharePhase.{SharePhase}
use Rattle.copy_share.specs.declared.share_phase.SharePhase.TheVariants.{Fencing, Idle}
use Rattle.copy_share.specs.ShareTable.{Said, Nothing, Get, Sync, Forward, Words}
use Rattle.copy_share.specs.ShareTable as table

-- what is shared: the command's number, the members by their numbers, the first of which is the home, the filter of the units, and the
-- site by which a packet's flow is told
pub record SharePlan : Type 0 where
  pub op : ℕ
  pub members : List ℕ
  pub filter : Filter
  pub site : Site

-- a share: what is shared, and how far it has come
pub record ShareState : Type 0 where
  pub plan : SharePlan
  pub phase : SharePhase

-- the phase of a share after a message, what it sends, each message with its receiver, and the answer where the share is then set up
pub record ShareRow : Type 0 where
  pub phase : SharePhase
  pub sends : List (ℕ × Msg)
  pub answer : Option Answer

abbrev pub next_phase : SharePhase → List (ℕ × Msg) → ShareRow
next_phase phase sends = record { phase = phase; sends = sends; answer = None }

-- the first member: there the records of the units are live, and at the others they stand by
abbrev pub home : SharePlan → ℕ
home plan = slice_index plan.members 0

-- the members but for one
abbrev pub others : SharePlan → ℕ → List ℕ
others plan one = filter (λ member. not (member == one)) plan.members

-- the chunks go to each member but for one
abbrev pub syncs : SharePlan → ℕ → List Chunk → List (ℕ × Msg)
syncs plan one chunks = map (λ member. (instance_node member, msg.Sync (member == home plan) plan.op chunks)) (others plan one)

-- a share begins: the packets of its units are to come to the controller
abbrev pub share_at_start : SharePlan → ShareState
share_at_start plan = record { plan = plan; phase = Fencing }

abbrev pub begin_sends : SharePlan → List (ℕ × Msg)
begin_sends plan = (switch_node, msg.Install plan.op plan.filter (home plan) Controller) ∷ []

-- the member that a flow's packets go to
abbrev pub member_for : SharePlan → Flow → ℕ
member_for plan flow = slice_index plan.members (place_among flow (length plan.members))

abbrev pub member_of : SharePlan → FullCell → ℕ
member_of plan cell = member_for plan (flow_of plan.site cell.packet).0

-- the phase of a share when it has served what it may, what is sent, and the packets that still wait, where they change
pub record Served : Type 0 where
  pub phase : SharePhase
  pub sends : List (ℕ × Msg)
  pub stored : Option (List FullCell)

-- the row of a share that is set up, which is its answer
abbrev pub answered : ShareRow → ShareRow
answered row = record row { answer = Some Done }

-- so many members have yet to take the first records, or those after a packet
abbrev pub setting : ℕ → List (ℕ × Msg) → ShareRow
setting left sends = table.setting (λ phase. next_phase phase sends) answered left

abbrev pub syncing : ℕ → List (ℕ × Msg) → ShareRow
syncing left sends = table.syncing (λ phase. next_phase phase sends) left

-- what a row says, as messages with their receivers
abbrev pub messages_of : SharePlan → Said FullCell (List Chunk) → List (ℕ × Msg)
messages_of plan Nothing = []
messages_of plan Get = (instance_node (home plan), msg.Get plan.op plan.filter) ∷ []
messages_of plan (Sync one chunks) = syncs plan one chunks
messages_of plan (Forward member cell) = (switch_node, msg.Forward member (Shared plan.op (member == home plan)) cell) ∷ []

-- the words of the table, and its rows: the fence came to the home, the first records came from there, a member has processed a packet, or has
-- taken records
abbrev pub words : SharePlan → Words FullCell (List Chunk) ShareRow Served
words plan = record {
  home = home plan;
  others = λ one. length (others plan one);
  member = λ cell. member_of plan cell;
  next = λ phase said. next_phase phase (messages_of plan said);
  done = answered;
  keeps = λ row. record { phase = row.phase; sends = row.sends; stored = None };
  stores = λ cells row. record { phase = row.phase; sends = row.sends; stored = Some cells };
}

abbrev pub on_fenced : SharePlan → SharePhase → ShareRow
on_fenced plan phase = table.on_fenced (words plan) phase

abbrev pub on_chunks : SharePlan → SharePhase → List Chunk → ShareRow
on_chunks plan phase chunks = table.on_chunks (words plan) phase chunks

abbrev pub on_shared : SharePlan → SharePhase → ℕ → Chunk → ShareRow
on_shared plan phase sender chunk = table.on_shared (words plan) phase (λ member. sender == instance_node member) (chunk ∷ [])

abbrev pub on_synced : SharePhase → ShareRow
on_synced phase = table.on_synced (λ next. next_phase next []) answered phase

-- the table of a share. What it doesn't name comes in no run
abbrev pub row : ShareState → ℕ → Msg → ShareRow
row s sender (msg.Fenced op) = if sender == instance_node (home s.plan) then on_fenced s.plan s.phase else next_phase s.phase []
row s sender (msg.Chunks op chunks) = if sender == instance_node (home s.plan) then on_chunks s.plan s.phase chunks else next_phase s.phase []
row s sender (msg.Shared op chunk) = on_shared s.plan s.phase sender chunk
row s sender (msg.Synced op) = on_synced s.phase
row s sender message = next_phase s.phase []

-- the next packet goes to its member; it is served only where the share is set up, none is out, and one waits
abbrev pub service_of : SharePlan → FullCell → List FullCell → Served
service_of plan cell cells = table.service_of (words plan) cell cells

abbrev pub service_if_idle : SharePlan → SharePhase → List FullCell → Served
service_if_idle plan phase cells = table.service_if_idle (words plan) phase cells

-- whether a share has nothing to do: it is set up, no packet is out, and none waits
abbrev pub is_idle : SharePhase → List FullCell → Bool
is_idle Idle [] = true
is_idle phase cells = false
