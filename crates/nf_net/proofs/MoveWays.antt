-- The ways in which a move goes on: each of its rows says something, and goes to a phase. What holds of each way holds of the row on any message.
use Rattle.nf_net.proofs.Words.{ℕ, Bool, true, false, Option, Some, None, List, [], ◌∷◌, ◌++◌, map, if◌then◌else◌, ◌&&◌, ◌||◌, ◌==◌, FullCell, Answer, Piece}
use Rattle.nf_net.proofs.Words.{Msg, units_in, Door, Phase, Nothing, Ask, Put, Release, Give_back, MovePlan, MoveRow, source, destination, put_to, forward_to}
use Rattle.nf_net.proofs.Words.{messages_of, Target, Done, split}
use Rattle.actor_net.proofs.WeightLaws.{Each, each-append}
use Rattle.nf_msgs.specs.declared.msg.Refused.{Refused}
use Rattle.move_op.specs.Phases as phase
use Rattle.move_op.specs.Table.{Said, Stream, Remove, Restore, Hold_at_source, Hold_at_destination, Forward, Fence, is_nil, push_on, all_put, on_event}
use Rattle.move_op.specs.Table.{on_source_enabled, on_piece, on_deleted, on_restored, on_source_fenced, on_put_ok, on_put_no, on_destination_enabled}
use Rattle.move_op.specs.Table.{on_destination_fenced}
use Rattle.move_op.specs.Move.{keeps, next_phase, chunks_of, have_units, put_back, words, from_source, from_destination, row}

-- what a row comes to: a phase, what is said, and the parcels that are then stored, where they change
pub record Goes : Type 0 where
  pub to : Phase
  pub says : Said FullCell Piece
  pub stored : Option (List FullCell)

abbrev pub only : Phase → Said FullCell Piece → Goes
only ph says = record { to = ph; says = says; stored = None }

abbrev pub row_of : MovePlan → Goes → MoveRow
row_of plan x = record { next = next_phase x.to (messages_of plan x.says); stored = x.stored }

-- the pieces that are removed go on as the door says, from a phase to a phase
pub data Pushed : Phase → Phase → Said FullCell Piece → Type 0 where
  Waits : {ph : Phase} → Pushed ph ph Nothing
  Asks : {a : List Piece} {p : Piece} {b : List Piece} {came : Bool}
      → Pushed (phase.Streaming a (p ∷ b) came Door.Shut) (phase.Streaming a b came (Door.Asked p.last)) (Ask p)
  Puts : {a b : List Piece} {came : Bool} → Pushed (phase.Streaming a b came Door.Open) (phase.Streaming a [] came Door.Open) (Put b)
  Restores : {a b : List Piece} {came : Bool} {why : Answer}
      → Pushed (phase.Streaming a b came (Door.Refused why)) (phase.Restoring why) (Restore b)

-- a door at which a piece that is taken is the last one
pub data IsPut : Door → Type 0 where
  Is_last : IsPut (Door.Asked true)
  Is_open : IsPut Door.Open

module _ (events : List FullCell) where
  abbrev pub released : Goes
  released = record { to = phase.Passing; says = Release events; stored = Some [] }

  -- how a phase goes on with a message
  pub data Way : Phase → Msg → Goes → Type 0 where
    Stays : {ph : Phase} {m : Msg} → Way ph m (only ph Nothing)
    Stores : {ph : Phase} {op : ℕ} {cell : FullCell}
        → Way ph (Msg.Event op cell) (record { to = ph; says = Nothing; stored = Some (events ++ cell ∷ []) })
    Passes : {op : ℕ} {cell : FullCell} → Way phase.Passing (Msg.Event op cell) (only phase.Passing (Forward cell))
    Begins : {op : ℕ} → Way phase.Freezing (Msg.Enabled op) (only (phase.Streaming [] [] false Door.Shut) Stream)
    Gives_back : {why : Answer} {op : ℕ}
        → Way (phase.Returning why) (Msg.Enabled op) (record { to = phase.Undoing why; says = Give_back events; stored = Some [] })
    Removes : {a b : List Piece} {came : Bool} {d : Door} {op : ℕ} {p : Piece}
        → Way (phase.Streaming a b came d) (Msg.Piece op p) (only (phase.Streaming (a ++ p ∷ []) b (came || p.last) d) (Remove p))
    Is_removed : {p : Piece} {a b : List Piece} {came : Bool} {d : Door} {op : ℕ} {to : Phase} {says : Said FullCell Piece}
        → Pushed (phase.Streaming a (b ++ p ∷ []) came d) to says → Way (phase.Streaming (p ∷ a) b came d) (Msg.Deleted op) (only to says)
    Is_taken : {a b : List Piece} {came : Bool} {op : ℕ} {to : Phase} {says : Said FullCell Piece}
        → Pushed (phase.Streaming a b came Door.Open) to says → Way (phase.Streaming a b came (Door.Asked false)) (Msg.PutOk op) (only to says)
    Is_refused : {a b : List Piece} {came last : Bool} {op : ℕ} {refused : Refused} {to : Phase} {says : Said FullCell Piece}
        → Pushed (phase.Streaming a (put_back refused.chunks last ∷ b) came (Door.Refused refused.why)) to says
        → Way (phase.Streaming a b came (Door.Asked last)) (Msg.PutNo op refused) (only to says)
    Holds : {a b : List Piece} {came : Bool} {d : Door} {op : ℕ} → IsPut d
        → Way (phase.Streaming a b came d) (Msg.PutOk op) (only phase.Holding Hold_at_destination)
    Releases : {a b : List Piece} {came : Bool} {d : Door} {op : ℕ} → IsPut d → Way (phase.Streaming a b came d) (Msg.PutOk op) released
    Is_held : {op : ℕ} → Way phase.Holding (Msg.Enabled op) released
    Is_restored : {why : Answer} {op : ℕ} → Way (phase.Restoring why) (Msg.Restored op) (only (phase.Returning why) Hold_at_source)
    Has_passed : {op : ℕ} → Way phase.Passing (Msg.Fenced op) (only phase.Ending Fence)
    Is_undone : {why : Answer} {op : ℕ} → Way (phase.Undoing why) (Msg.Fenced op) (only (phase.Over why) Nothing)
    Is_done : {op : ℕ} → Way phase.Ending (Msg.Fenced op) (only (phase.Over Done) Nothing)

module _ (plan : MovePlan) (events : List FullCell) (Allows : Phase → Msg → MoveRow → Type 0)
    (fits : (ph : Phase) (m : Msg) (x : Goes) → Way events ph m x → Allows ph m (row_of plan x)) where
  stays : (ph : Phase) (m : Msg) → Allows ph m (keeps (next_phase ph []))
  stays ph m = fits ph m (only ph Nothing) Stays

  push_fits : (ph : Phase) (m : Msg) (a b : List Piece) (came : Bool) (d : Door)
      → ((to : Phase) (says : Said FullCell Piece) → Pushed (phase.Streaming a b came d) to says → Allows ph m (row_of plan (only to says)))
      → Allows ph m (keeps (push_on (words plan) a b came d))
  push_fits ph m a [] came Door.Shut goes = goes (phase.Streaming a [] came Door.Shut) Nothing Waits
  push_fits ph m a (p ∷ b) came Door.Shut goes = goes (phase.Streaming a b came (Door.Asked p.last)) (Ask p) Asks
  push_fits ph m a b came (Door.Asked last) goes = goes (phase.Streaming a b came (Door.Asked last)) Nothing Waits
  push_fits ph m a b came Door.Open goes = goes (phase.Streaming a [] came Door.Open) (Put b) Puts
  push_fits ph m a b came (Door.Refused why) goes =
      split (came && is_nil a)
      (λ c. Allows ph m (keeps
      (if c then next_phase (phase.Restoring why) ((source plan, Msg.Restore plan.op (chunks_of b)) ∷ []) else next_phase
      (phase.Streaming a b came (Door.Refused why)) [])))
      (λ _. goes (phase.Restoring why) (Restore b) Restores) (λ _. goes (phase.Streaming a b came (Door.Refused why)) Nothing Waits)

  all_put_fits : (a b : List Piece) (came : Bool) (d : Door) (op : ℕ) → IsPut d → (keep : Bool)
      → Allows (phase.Streaming a b came d) (Msg.PutOk op) (all_put (words plan) events keep)
  all_put_fits a b came d op put true = fits (phase.Streaming a b came d) (Msg.PutOk op) (only phase.Holding Hold_at_destination) (Holds put)
  all_put_fits a b came d op put false = fits (phase.Streaming a b came d) (Msg.PutOk op) (released events) (Releases put)

  -- by the message of the source
  event_fits : (ph : Phase) (op : ℕ) (cell : FullCell) → Allows ph (Msg.Event op cell) (on_event (words plan) ph events cell)
  event_fits phase.Passing op cell = fits phase.Passing (Msg.Event op cell) (only phase.Passing (Forward cell)) Passes
  event_fits ph op cell = fits ph (Msg.Event op cell) (record { to = ph; says = Nothing; stored = Some (events ++ cell ∷ []) }) Stores

  enabled_fits : (ph : Phase) (op : ℕ) → Allows ph (Msg.Enabled op) (on_source_enabled (words plan) ph events)
  enabled_fits phase.Freezing op = fits phase.Freezing (Msg.Enabled op) (only (phase.Streaming [] [] false Door.Shut) Stream) Begins
  enabled_fits (phase.Returning why) op = fits (phase.Returning why) (Msg.Enabled op)
      (record { to = phase.Undoing why; says = Give_back events; stored = Some [] }) Gives_back
  enabled_fits ph op = stays ph (Msg.Enabled op)

  piece_fits : (ph : Phase) (op : ℕ) (p : Piece) → Allows ph (Msg.Piece op p) (keeps (on_piece (words plan) ph p))
  piece_fits (phase.Streaming a b came d) op p = split (have_units p.chunks)
      (λ t. Allows (phase.Streaming a b came d) (Msg.Piece op p)
      (keeps (if t then next_phase (phase.Streaming (a ++ p ∷ []) b (came || p.last) d)
      ((source plan, Msg.Delete plan.op (units_in p.chunks)) ∷ []) else next_phase (phase.Streaming a b came d) [])))
      (λ _. fits (phase.Streaming a b came d) (Msg.Piece op p) (only (phase.Streaming (a ++ p ∷ []) b (came || p.last) d) (Remove p)) Removes)
      (λ _. stays (phase.Streaming a b came d) (Msg.Piece op p))
  piece_fits ph op p = stays ph (Msg.Piece op p)

  deleted_fits : (ph : Phase) (op : ℕ) → Allows ph (Msg.Deleted op) (keeps (on_deleted (words plan) ph))
  deleted_fits (phase.Streaming (p ∷ a) b came d) op =
      push_fits (phase.Streaming (p ∷ a) b came d) (Msg.Deleted op) a (b ++ p ∷ []) came d
      (λ to says push. fits (phase.Streaming (p ∷ a) b came d) (Msg.Deleted op) (only to says) (Is_removed push))
  deleted_fits (phase.Streaming [] b came d) op = stays (phase.Streaming [] b came d) (Msg.Deleted op)
  deleted_fits ph op = stays ph (Msg.Deleted op)

  restored_fits : (ph : Phase) (op : ℕ) → Allows ph (Msg.Restored op) (keeps (on_restored (words plan) ph))
  restored_fits (phase.Restoring why) op = fits (phase.Restoring why) (Msg.Restored op) (only (phase.Returning why) Hold_at_source) Is_restored
  restored_fits ph op = stays ph (Msg.Restored op)

  fenced_fits : (ph : Phase) (op : ℕ) → Allows ph (Msg.Fenced op) (keeps (on_source_fenced (words plan) ph))
  fenced_fits phase.Passing op = fits phase.Passing (Msg.Fenced op) (only phase.Ending Fence) Has_passed
  fenced_fits (phase.Undoing why) op = fits (phase.Undoing why) (Msg.Fenced op) (only (phase.Over why) Nothing) Is_undone
  fenced_fits ph op = stays ph (Msg.Fenced op)

  source_fits : (ph : Phase) (m : Msg) → Allows ph m (from_source plan ph events m)
  source_fits ph (Msg.Event op cell) = event_fits ph op cell
  source_fits ph (Msg.Enabled op) = enabled_fits ph op
  source_fits ph (Msg.Piece op p) = piece_fits ph op p
  source_fits ph (Msg.Deleted op) = deleted_fits ph op
  source_fits ph (Msg.Restored op) = restored_fits ph op
  source_fits ph (Msg.Fenced op) = fenced_fits ph op
  source_fits ph m = stays ph m

  -- and of the destination
  put_ok_fits : (ph : Phase) (op : ℕ) → Allows ph (Msg.PutOk op) (on_put_ok (words plan) ph events)
  put_ok_fits (phase.Streaming a b came (Door.Asked true)) op = all_put_fits a b came (Door.Asked true) op Is_last plan.keep
  put_ok_fits (phase.Streaming a b came (Door.Asked false)) op =
      push_fits (phase.Streaming a b came (Door.Asked false)) (Msg.PutOk op) a b came Door.Open
      (λ to says push. fits (phase.Streaming a b came (Door.Asked false)) (Msg.PutOk op) (only to says) (Is_taken push))
  put_ok_fits (phase.Streaming a b came Door.Open) op = all_put_fits a b came Door.Open op Is_open plan.keep
  put_ok_fits ph op = stays ph (Msg.PutOk op)

  put_no_fits : (ph : Phase) (op : ℕ) (refused : Refused)
      → Allows ph (Msg.PutNo op refused) (keeps (on_put_no (words plan) ph refused.why (put_back refused.chunks)))
  put_no_fits (phase.Streaming a b came (Door.Asked last)) op refused =
      push_fits (phase.Streaming a b came (Door.Asked last)) (Msg.PutNo op refused) a (put_back refused.chunks last ∷ b) came (Door.Refused refused.why)
      (λ to says push. fits (phase.Streaming a b came (Door.Asked last)) (Msg.PutNo op refused) (only to says) (Is_refused push))
  put_no_fits ph op refused = stays ph (Msg.PutNo op refused)

  held_fits : (ph : Phase) (op : ℕ) → Allows ph (Msg.Enabled op) (on_destination_enabled (words plan) ph events)
  held_fits phase.Holding op = fits phase.Holding (Msg.Enabled op) (released events) Is_held
  held_fits ph op = stays ph (Msg.Enabled op)

  ended_fits : (ph : Phase) (op : ℕ) → Allows ph (Msg.Fenced op) (keeps (on_destination_fenced (words plan) ph))
  ended_fits phase.Ending op = fits phase.Ending (Msg.Fenced op) (only (phase.Over Done) Nothing) Is_done
  ended_fits ph op = stays ph (Msg.Fenced op)

  destination_fits : (ph : Phase) (m : Msg) → Allows ph m (from_destination plan ph events m)
  destination_fits ph (Msg.PutOk op) = put_ok_fits ph op
  destination_fits ph (Msg.PutNo op refused) = put_no_fits ph op refused
  destination_fits ph (Msg.Enabled op) = held_fits ph op
  destination_fits ph (Msg.Fenced op) = ended_fits ph op
  destination_fits ph m = stays ph m

  pub move_fits : (ph : Phase) (port : ℕ) (m : Msg) → Allows ph m (row (record { plan = plan; phase = ph }) events port m)
  move_fits ph port m =
      split (port == source plan)
      (λ b. Allows ph m (if b then from_source plan ph events m else if port == destination plan then from_destination plan ph events m else keeps
      (next_phase ph [])))
      (λ _. source_fits ph m)
      (λ _. elim (port == destination plan) as (λ b. Allows ph m (if b then from_destination plan ph events m else keeps (next_phase ph [])))
      [ true ↦ destination_fits ph m | false ↦ stays ph m ])

-- what holds of the messages of a word, if it holds of a piece that is put and of a parcel that goes on, and of the one message that it has else
abbrev pub OfWord : (Msg → Type 0) → MovePlan → Said FullCell Piece → Type 0
OfWord Is plan (Put ps) = (p : Piece) → Is (Msg.Put plan.op p false)
OfWord Is plan (Release cells) = Is (Msg.Install plan.op plan.filter plan.from (Target.Instance plan.to)) × ((c : FullCell) → Is (forward_to plan plan.to c).1)
OfWord Is plan (Give_back cells) = Is (Msg.FenceTo plan.op plan.from) × ((c : FullCell) → Is (forward_to plan plan.from c).1)
OfWord Is plan says = Each (λ x. Is x.1) (messages_of plan says)

module _ (Is : Msg → Type 0) (plan : MovePlan) where
  each_put : ((p : Piece) → Is (Msg.Put plan.op p false)) → (ps : List Piece) → Each (λ x. Is x.1) (map (put_to plan false) ps)
  each_put put [] = tt
  each_put put (p ∷ ps) = (put p, each_put put ps)

  pub each_forward : (i : ℕ) → ((c : FullCell) → Is (forward_to plan i c).1) → (cells : List FullCell) → Each (λ x. Is x.1) (map (forward_to plan i) cells)
  each_forward i forward [] = tt
  each_forward i forward (c ∷ cells) = (forward c, each_forward i forward cells)

  pub each_said : (says : Said FullCell Piece) → OfWord Is plan says → Each (λ x. Is x.1) (messages_of plan says)
  each_said (Put ps) h = each_put h ps
  each_said (Release cells) h = each-append (λ x. Is x.1) (map (forward_to plan plan.to) cells)
      ((0, Msg.Install plan.op plan.filter plan.from (Target.Instance plan.to)) ∷ []) (each_forward plan.to h.1 cells) (h.0, tt)
  each_said (Give_back cells) h = each-append (λ x. Is x.1) (map (forward_to plan plan.from) cells) ((0, Msg.FenceTo plan.op plan.from) ∷ [])
      (each_forward plan.from h.1 cells) (h.0, tt)
  each_said says h = h
