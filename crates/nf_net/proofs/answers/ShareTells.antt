-- What a message does to an open share, and a packet that is put at the end of its queue: it is answered once, where it is set up, and what it
-- sends are records, packets and the request for records.
use Rattle.nf_net.proofs.Words.{◌≡◌, ℕ, Bool, true, false, cond, Option, Some, None, List, [], ◌∷◌, ◌++◌, map, length, refl, sym, ◌∙◌, if◌then◌else◌, ◌==◌, ◌-◌}
use Rattle.nf_net.proofs.Words.{find, option_map, Flow, Chunk, FullCell, stored_of, Answer, Msg, instance_node, SharePhase, SharePlan, ShareState, ShareRow}
use Rattle.nf_net.proofs.Words.{home, others, syncs, setting, syncing, on_fenced, on_chunks, on_shared, on_synced, service_if_idle, Operation, Move, Copy}
use Rattle.nf_net.proofs.Words.{Share, turn_of, lasts, ControllerState, after_turn, hand_step, queue_step, on_diverted, Each, OpenAt, answered, noted}
use Rattle.nf_net.proofs.Words.{ShareLeaves, handed_leaves, queued_leaves, flow_of, Done, split}
use Rattle.std.specs.FinMap as finite
use Rattle.copy_share.specs.Share.{next_phase, row}
use Rattle.ctrl_node.specs.Operations.{Turn, is_shared_by}
use Rattle.ctrl_node.specs.Controller.{Step, still, with_turn, without_operation}
use Rattle.nf_net.proofs.answers.FirstEntries.{passes, found_passes}

-- whether a share is set up: it is from when it was answered
abbrev pub is_set_up : SharePhase → Bool
is_set_up SharePhase.Fencing = false
is_set_up SharePhase.Getting = false
is_set_up (SharePhase.Setting left) = false
is_set_up ph = true

-- a share that was set up, or wasn't, and is now, is answered where it was not and is now
abbrev pub Tells : Bool → Bool → Option Answer → Type 0
Tells was now None = was ≡ now
Tells was now (Some a) = (a ≡ Done) × (was ≡ false) × (now ≡ true)

-- a message that a share sends once it has begun
abbrev pub is_of_share : Msg → Bool
is_of_share (Msg.Get op filter) = true
is_of_share (Msg.Sync home op chunks) = true
is_of_share (Msg.Forward to mark cell) = true
is_of_share m = false

abbrev pub AreOfShare : List (ℕ × Msg) → Type 0
AreOfShare sends = Each (λ x. is_of_share x.1 ≡ true) sends

-- A row.
pub record RowTells (was : SharePhase) (r : ShareRow) : Type 0 where
  pub tells : Tells (is_set_up was) (is_set_up r.phase) r.answer
  pub sends : AreOfShare r.sends

module _ (plan : SharePlan) where
  stays : (ph : SharePhase) → RowTells ph (next_phase ph [])
  stays ph = record { tells = refl; sends = tt }

  syncs_own : (chunks : List Chunk) (ms : List ℕ) → AreOfShare (map (λ member. (instance_node member, Msg.Sync (member == home plan) plan.op chunks)) ms)
  syncs_own chunks [] = tt
  syncs_own chunks (m ∷ ms) = (refl, syncs_own chunks ms)

  setting_tells : (ph : SharePhase) → is_set_up ph ≡ false → (left : ℕ) (sends : List (ℕ × Msg)) → AreOfShare sends → RowTells ph (setting left sends)
  setting_tells ph off left sends own = split (left == 0)
      (λ b. RowTells ph (if b then record { phase = SharePhase.Idle; sends = sends; answer = Some Done } else next_phase (SharePhase.Setting left) sends))
      (λ _. record { tells = (refl, off, refl); sends = own }) (λ _. record { tells = off; sends = own })

  syncing_tells : (ph : SharePhase) → is_set_up ph ≡ true → (left : ℕ) (sends : List (ℕ × Msg)) → AreOfShare sends → RowTells ph (syncing left sends)
  syncing_tells ph on left sends own = split (left == 0) (λ b. RowTells ph (next_phase (if b then SharePhase.Idle else SharePhase.Syncing left) sends))
      (λ _. record { tells = on; sends = own }) (λ _. record { tells = on; sends = own })

  fenced_tells : (ph : SharePhase) → RowTells ph (on_fenced plan ph)
  fenced_tells SharePhase.Fencing = record { tells = refl; sends = (refl, tt) }
  fenced_tells ph = stays ph

  chunks_tells : (ph : SharePhase) (chunks : List Chunk) → RowTells ph (on_chunks plan ph chunks)
  chunks_tells SharePhase.Getting chunks =
      setting_tells SharePhase.Getting refl (length (others plan (home plan))) (syncs plan (home plan) chunks) (syncs_own chunks (others plan (home plan)))
  chunks_tells ph chunks = stays ph

  shared_tells : (ph : SharePhase) (sender : ℕ) (chunk : Chunk) → RowTells ph (on_shared plan ph sender chunk)
  shared_tells (SharePhase.Out member) sender chunk = split (sender == instance_node member)
      (λ b. RowTells (SharePhase.Out member)
      (if b then syncing (length (others plan member)) (syncs plan member (chunk ∷ [])) else next_phase (SharePhase.Out member) []))
      (λ _. syncing_tells (SharePhase.Out member) refl (length (others plan member)) (syncs plan member (chunk ∷ []))
      (syncs_own (chunk ∷ []) (others plan member))) (λ _. stays (SharePhase.Out member))
  shared_tells ph sender chunk = stays ph

  synced_tells : (ph : SharePhase) → RowTells ph (on_synced ph)
  synced_tells (SharePhase.Setting left) = setting_tells (SharePhase.Setting left) refl (left - 1) [] tt
  synced_tells (SharePhase.Syncing left) = syncing_tells (SharePhase.Syncing left) refl (left - 1) [] tt
  synced_tells ph = stays ph

  either_tells : (b : Bool) (r : ShareRow) (ph : SharePhase) → RowTells ph r → RowTells ph (if b then r else next_phase ph [])
  either_tells true r ph h = h
  either_tells false r ph h = stays ph

  row_tells : (ph : SharePhase) (sender : ℕ) (m : Msg) → RowTells ph (row (record { plan = plan; phase = ph }) sender m)
  row_tells ph sender (Msg.Fenced op) = either_tells (sender == instance_node (home plan)) (on_fenced plan ph) ph (fenced_tells ph)
  row_tells ph sender (Msg.Chunks op chunks) = either_tells (sender == instance_node (home plan)) (on_chunks plan ph chunks) ph (chunks_tells ph chunks)
  row_tells ph sender (Msg.Shared op chunk) = shared_tells ph sender chunk
  row_tells ph sender (Msg.Synced op) = synced_tells ph
  row_tells ph sender m = stays ph

  -- what is served changes nothing of it
  served_same : (ph : SharePhase) (cells : List FullCell) → is_set_up (service_if_idle plan ph cells).phase ≡ is_set_up ph
  served_same SharePhase.Idle (cell ∷ cells) = refl
  served_same ph cells = refl

  served_own : (ph : SharePhase) (cells : List FullCell) → AreOfShare (service_if_idle plan ph cells).sends
  served_own SharePhase.Idle (cell ∷ cells) = (refl, tt)
  served_own ph cells = tt

-- A step of the controller that leaves all but one open share as it was: what becomes of the share, what is sent and answered.
pub record ShareStep (c : ControllerState) (op : ℕ) (s : ShareState) (did : Step) : Type 0 where
  pub after : SharePhase
  pub answer : Option Answer
  pub first : List (ℕ × Msg)
  pub second : List (ℕ × Msg)
  pub operations : (k : ℕ) → finite.get did.node.operations k ≡ cond (k == op) (Some (Share (record s { phase = after }))) (finite.get c.operations k)
  pub sends_are : did.sends ≡ answered op answer first ++ second
  pub first_own : AreOfShare first
  pub second_own : AreOfShare second
  pub notes_are : did.notes ≡ noted op answer
  pub tells : Tells (is_set_up s.phase) (is_set_up after) answer
  pub end_same : did.node.end_came ≡ c.end_came
  pub finish_same : did.node.finish_sent ≡ c.finish_sent

tells_served : (was : Bool) (a : Option Answer) (b d : Bool) → d ≡ b → Tells was b a → Tells was d a
tells_served was None b d same h = h ∙ sym same
tells_served was (Some a) b d same h = (h.0, h.1, same ∙ h.2)

left_tells : (x : OpenAt) (r : ShareRow) (did : Step) → ShareLeaves x r did → RowTells x.share.phase r → did.node.end_came ≡ x.node.end_came
    → did.node.finish_sent ≡ x.node.finish_sent → ShareStep x.node x.num x.share did
left_tells x r did l t end_same finish_same = record {
  after = (service_if_idle x.share.plan r.phase x.cells).phase;
  answer = r.answer;
  first = r.sends;
  second = (service_if_idle x.share.plan r.phase x.cells).sends;
  operations = l.operations;
  sends_are = l.sends;
  first_own = t.sends;
  second_own = served_own x.share.plan r.phase x.cells;
  notes_are = l.notes;
  tells = tells_served (is_set_up x.share.phase) r.answer (is_set_up r.phase) (is_set_up (service_if_idle x.share.plan r.phase x.cells).phase)
      (served_same x.share.plan r.phase x.cells) t.tells;
  end_same = end_same;
  finish_same = finish_same;
}

-- A turn leaves the input's end and the finish as they were.
module _ (c : ControllerState) (op : ℕ) (t : Turn) where
  pub turn_end : (o : Option Answer) → (after_turn c op t o).node.end_came ≡ c.end_came
  turn_end None = refl
  turn_end (Some a) = elim (lasts t.operation) as (λ b. (if b then with_turn c op t else without_operation (with_turn c op t) op).end_came ≡ c.end_came)
      [ true ↦ refl | false ↦ refl ]

  pub turn_finish : (o : Option Answer) → (after_turn c op t o).node.finish_sent ≡ c.finish_sent
  turn_finish None = refl
  turn_finish (Some a) = elim (lasts t.operation)
      as (λ b. (if b then with_turn c op t else without_operation (with_turn c op t) op).finish_sent ≡ c.finish_sent) [ true ↦ refl | false ↦ refl ]

module _ (c : ControllerState) (op : ℕ) (s : ShareState) (there : finite.get c.operations op ≡ Some (Share s)) (op_is : s.plan.op ≡ op) where
  -- a message of its number
  pub handed_share : (port : ℕ) (m : Msg) → ShareStep c op s (hand_step c op port m)
  handed_share port m =
      let x : OpenAt = record { node = c; num = op; share = s; cells = stored_of c.store op } in
      let t : Turn = turn_of (finite.get c.operations op) c.store port m in
      left_tells x (row s port m) (hand_step c op port m) (handed_leaves x (row s port m) op_is port m there refl refl) (row_tells s.plan s.phase port m)
      (turn_end c op t t.answer) (turn_finish c op t t.answer)

  -- a packet behind its queue
  pub queued_share : (cell : FullCell) → ShareStep c op s (queue_step c cell (Some op))
  queued_share cell = left_tells (record { node = c; num = op; share = s; cells = stored_of c.store op ++ cell ∷ [] }) (next_phase s.phase [])
      (queue_step c cell (Some op)) (queued_leaves c op s cell there op_is) (stays s.plan s.phase) refl refl

-- A packet whose target is the controller waits for a share that is open, or nothing happens.
pub data Queues (c : ControllerState) (cell : FullCell) (did : Step) : Type 0 where
  Queues_none : did ≡ still c → Queues c cell did
  Queues_at : (op : ℕ) (s : ShareState) → finite.get c.operations op ≡ Some (Share s) → did ≡ queue_step c cell (Some op) → Queues c cell did

module _ (c : ControllerState) (cell : FullCell) where
  abbrev its_flow : Flow
  its_flow = (flow_of c.site cell.packet).0

  by_passes : (op : ℕ) (o : Option Operation) → finite.get c.operations op ≡ o → passes (is_shared_by its_flow) o ≡ true
      → Queues c cell (queue_step c cell (Some op))
  by_passes op None is h = cc
  by_passes op (Some (Move m)) is h = cc
  by_passes op (Some (Copy y)) is h = cc
  by_passes op (Some (Share s)) is h = Queues_at op s is refl

  pub queues : Queues c cell (on_diverted c cell)
  queues = by_found (find (λ e. is_shared_by its_flow e.1) (finite.entries c.operations)) refl
    where
      by_found : (o : Option (ℕ × Operation)) → find (λ e. is_shared_by its_flow e.1) (finite.entries c.operations) ≡ o
          → Queues c cell (queue_step c cell (option_map (λ e. e.0) o))
      by_found None is = Queues_none refl
      by_found (Some x) is = by_passes x.0 (finite.get c.operations x.0) refl (found_passes c.operations (is_shared_by its_flow) x is)
