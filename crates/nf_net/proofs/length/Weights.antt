-- What each message, each open operation and each node weighs: at least as much as the choices that are still to come of it. `o` is the
-- greatest number of members that a share has besides one.
use Rattle.nf_net.proofs.Words.{◌≡◌, ℕ, ◌+◌, ◌*◌, ◌≤◌, Bool, true, false, List, ◌++◌, length, arith, ◌||◌, Mark, Rule, FullCell, Piece, Msg, Door, Phase}
use Rattle.nf_net.proofs.Words.{CopyPhase, SharePhase, Operation, Move, Copy, Share, ControllerState, InstanceState, weigh, weigh-append}
use Rattle.move_op.specs.Phases as phase
use Rattle.nf_net.proofs.length.MapWeights.{in_all}
use Rattle.nf_net.proofs.length.SentWeights.{sent_cost}

abbrev pub one_if : Bool → ℕ
one_if true = 1
one_if false = 0

-- a piece that isn't put yet: it is put, and the last one is answered
abbrev pub of_piece : Piece → ℕ
of_piece piece = 1 + one_if piece.last

-- a move behind its door
abbrev pub streaming : Door → ℕ → ℕ
streaming Door.Shut pieces = 10 + pieces
streaming (Door.Asked last) pieces = 9 + pieces
streaming Door.Open pieces = 9 + pieces
streaming (Door.Refused why) pieces = 8

-- a move
abbrev pub of_move : Phase → ℕ
of_move phase.Freezing = 12
of_move (phase.Streaming frozen free came d) = streaming d (weigh of_piece frozen + weigh of_piece free)
of_move phase.Holding = 7
of_move phase.Passing = 4
of_move phase.Ending = 1
of_move (phase.Restoring why) = 6
of_move (phase.Returning why) = 4
of_move (phase.Undoing why) = 1
of_move (phase.Over why) = 1

-- a copy
abbrev pub of_copy : CopyPhase → ℕ
of_copy CopyPhase.Getting = 3
of_copy CopyPhase.Keeping = 1
of_copy CopyPhase.Over = 1

-- an instance: its held parcels are still to go home
abbrev pub of_rules : List (Rule FullCell) → ℕ
of_rules rules = weigh (λ r. length r.held) rules

abbrev pub of_instance : {F R : Type 0} → InstanceState F R → ℕ
of_instance i = of_rules i.rules

module _ (o : ℕ) where
  -- a packet that the controller keeps: it is handed on, carried and processed, its cell goes home, the share is told, and each other member
  -- takes the record and says so
  abbrev pub parcel : ℕ
  parcel = 4 + 2 * o

  abbrev pub kept : List FullCell → ℕ
  kept cells = weigh (λ cell. parcel) cells

  -- a packet on its way to an instance. A plain one may become an event
  abbrev pub carried : Mark → ℕ
  carried Mark.Plain = 6 + 2 * o
  carried (Mark.Pass op) = 2
  carried (Mark.Shared op home) = 3 + 2 * o

  -- a packet that an instance processes
  abbrev pub processing : Mark → ℕ
  processing Mark.Plain = 1
  processing (Mark.Pass op) = 1
  processing (Mark.Shared op home) = 2 + 2 * o

  abbrev pub finish : ℕ
  finish = 3 + 2 * o

  abbrev pub weight : Msg → ℕ
  weight (Msg.InPacket packet) = 7 + 2 * o
  weight (Msg.InCommand command) = 16 + 2 * o
  weight Msg.InEnd = 2
  weight (Msg.Asked command) = 15 + 2 * o
  weight (Msg.Diverted cell) = 5 + 2 * o
  weight (Msg.Forward to mark cell) = 1 + carried mark
  weight (Msg.Install op filter from to) = 3
  weight (Msg.FenceTo op to) = 3
  weight Msg.Finish = finish
  weight (Msg.Carry mark cell) = carried mark
  weight (Msg.Fence op) = 2
  weight Msg.Stop = 2
  weight (Msg.Enable op filter action) = 2
  weight (Msg.Get op filter) = 2
  weight (Msg.Stream op filter) = 2
  weight (Msg.GetAll op) = 2
  weight (Msg.Delete op gone) = 2
  weight (Msg.Put op piece first) = 1 + one_if (first || piece.last)
  weight (Msg.Restore op chunks) = 2
  weight (Msg.Standby op chunks) = 2
  weight (Msg.PutAll op chunk) = 2
  weight (Msg.Sync home op chunks) = 2
  weight (Msg.Piece op piece) = 4 + one_if piece.last
  weight (Msg.Event op cell) = 5 + 2 * o
  weight (Msg.Shared op chunk) = 1 + 2 * o
  weight message = 1

  mark_some : (m : Mark) → 1 ≤ carried m
  mark_some Mark.Plain = omega arith
  mark_some (Mark.Pass op) = omega arith
  mark_some (Mark.Shared op home) = omega arith

  -- each message weighs something: it is still to be taken
  pub some : (m : Msg) → 1 ≤ weight m
  some (Msg.Carry mark cell) = mark_some mark
  some m = omega arith

  -- what is sent weighs together
  abbrev pub cost : List (ℕ × Msg) → ℕ
  cost sends = sent_cost weight sends

  pub cost-append : (xs ys : List (ℕ × Msg)) → cost (xs ++ ys) ≡ cost xs + cost ys
  cost-append xs ys = weigh-append (λ x. weight x.1) xs ys

  -- a share
  abbrev pub of_share : SharePhase → ℕ
  of_share SharePhase.Fencing = 3 + 2 * o
  of_share SharePhase.Getting = 1 + 2 * o
  of_share (SharePhase.Setting left) = 1
  of_share phase = 0

  abbrev pub of_operation : Operation → ℕ
  of_operation (Move m) = of_move m.phase
  of_operation (Copy c) = of_copy c.phase
  of_operation (Share s) = of_share s.phase

  abbrev pub unfinished : Bool → ℕ
  unfinished true = 0
  unfinished false = finish

  -- the controller: its operations, what it keeps, and the finish that it hasn't told yet
  abbrev pub of_controller : ControllerState → ℕ
  of_controller c = in_all of_operation c.operations + in_all kept c.store + unfinished c.finish_sent
