-- What a message does to an open copy: nothing, or what came is handed on to the destination, or the copy ends. A copy's message does
-- nothing to an open move.
use Rattle.proof_outlines.proofs.Words.{◌≡◌, ℕ, Bool, true, false, Some, None, List, [], ◌∷◌, refl, sym, ap, ◌∙◌, if◌then◌else◌, ◌==◌, Chunk, Msg, switch_node}
use Rattle.proof_outlines.proofs.Words.{instance_node, FullCell, stored_of, MoveState, CopyPhase, Getting, Keeping, Over, CopyPlan, CopyState, CopyRow, Move}
use Rattle.proof_outlines.proofs.Words.{Copy, turn_of, turn_of_move, turn_of_copy, ControllerState, Step, still, without_operation, after_turn, takes_turn}
use Rattle.proof_outlines.proofs.Words.{by_if, Note}
use Rattle.std.specs.FinMap as finite
use Rattle.nf_msgs.specs.declared.answer.Answer.TheVariants.{Done}
use Rattle.move_op.specs.Move as move
use Rattle.copy_share.specs.Copy.{next_phase, from_source, from_destination, row, answer_of}
use Rattle.proof_outlines.proofs.outline.OperationTables.{insert_same, remove_insert}

-- a message that a copy looks at
abbrev pub is_copied : Msg → Bool
is_copied (Msg.Chunks op chunks) = true
is_copied (Msg.AllChunk op chunk) = true
is_copied (Msg.Kept op) = true
is_copied m = false

-- what came goes on to the destination, which is to keep it
abbrev pub hands : ControllerState → ℕ → CopyState → Msg → Step
hands c op y m = record {
  node = record c { operations = finite.insert c.operations op (Copy (record y { phase = Keeping })) };
  sends = (instance_node y.plan.to, m) ∷ [];
  notes = [];
}

-- the copy ends
abbrev pub ends : ControllerState → ℕ → Step
ends c op = record { node = without_operation c op; sends = (switch_node, Msg.Answered op) ∷ []; notes = Note.Answered op Done ∷ [] }

-- an open copy of a controller
pub record OpenCopy : Type 0 where
  pub controller : ControllerState
  pub op : ℕ
  pub copy : CopyState

-- what a message does to an open copy
pub data CopyTurn (x : OpenCopy) (m : Msg) (did : Step) : Type 0 where
  Idle : did ≡ still x.controller → CopyTurn x m did
  Hands : (k : ℕ) (chunks : List Chunk) → m ≡ Msg.Chunks k chunks → did ≡ hands x.controller x.op x.copy (Msg.Standby x.copy.plan.op chunks) → CopyTurn x m did
  Hands_all : (k : ℕ) (chunk : Chunk) → m ≡ Msg.AllChunk k chunk → did ≡ hands x.controller x.op x.copy (Msg.PutAll x.copy.plan.op chunk) → CopyTurn x m did
  Ends : did ≡ ends x.controller x.op → CopyTurn x m did

source_quiet : (plan : CopyPlan) (ph : CopyPhase) (m : Msg) → is_copied m ≡ false → from_source plan ph m ≡ next_phase ph []
source_quiet plan Getting (Msg.Chunks op chunks) e = cc
source_quiet plan Getting (Msg.AllChunk op chunk) e = cc
source_quiet plan ph m e = refl

destination_quiet : (plan : CopyPlan) (ph : CopyPhase) (m : Msg) → is_copied m ≡ false → from_destination plan ph m ≡ next_phase ph []
destination_quiet plan Keeping (Msg.Kept op) e = cc
destination_quiet plan ph m e = refl

row_quiet : (y : CopyState) (p : ℕ) (m : Msg) → is_copied m ≡ false → row y p m ≡ next_phase y.phase []
row_quiet y p m e = by_if (λ r. r ≡ next_phase y.phase []) (p == instance_node y.plan.from) (source_quiet y.plan y.phase m e)
    (by_if (λ r. r ≡ next_phase y.phase []) (p == instance_node y.plan.to) (destination_quiet y.plan y.phase m e) refl)

module _ (c : ControllerState) (op : ℕ) (y : CopyState) (going : answer_of y.phase ≡ None) (there : finite.get c.operations op ≡ Some (Copy y)) where
  abbrev here : OpenCopy
  here = record { controller = c; op = op; copy = y }

  abbrev taken : CopyRow → Step
  taken r = takes_turn c op (turn_of_copy y c.store r)

  -- a copy that goes on as it was
  same : taken (next_phase y.phase []) ≡ still c
  same =
      ap (λ a. after_turn c op (turn_of_copy y c.store (next_phase y.phase [])) a) going
      ∙ ap (λ ops. still (record c { operations = ops })) (insert_same c.operations op (Copy y) there)

  over : taken (next_phase Over []) ≡ ends c op
  over = ap (λ ops. record { node = record c { operations = ops }; sends = (switch_node, Msg.Answered op) ∷ []; notes = Note.Answered op Done ∷ [] })
      (remove_insert c.operations op (Copy (record y { phase = Over })))

  pub quiet_turn : (p : ℕ) (m : Msg) → is_copied m ≡ false → takes_turn c op (turn_of (Some (Copy y)) c.store p m) ≡ still c
  quiet_turn p m e = ap taken (row_quiet y p m e) ∙ same

  at_source : (ph : CopyPhase) (m : Msg) → y.phase ≡ ph → CopyTurn here m (taken (from_source y.plan ph m))
  at_source Getting (Msg.Chunks k chunks) is = Hands k chunks refl refl
  at_source Getting (Msg.AllChunk k chunk) is = Hands_all k chunk refl refl
  at_source ph m is = Idle (ap (λ q. taken (next_phase q [])) (sym is) ∙ same)

  at_destination : (ph : CopyPhase) (m : Msg) → y.phase ≡ ph → CopyTurn here m (taken (from_destination y.plan ph m))
  at_destination Keeping (Msg.Kept k) is = Ends over
  at_destination ph m is = Idle (ap (λ q. taken (next_phase q [])) (sym is) ∙ same)

  by_sender : (p : ℕ) (m : Msg) (a b : Bool)
      → CopyTurn here m (taken (if a then from_source y.plan y.phase m else if b then from_destination y.plan y.phase m else next_phase y.phase []))
  by_sender p m true b = at_source y.phase m refl
  by_sender p m false true = at_destination y.phase m refl
  by_sender p m false false = Idle same

  pub copy_turn : (p : ℕ) (m : Msg) → CopyTurn here m (takes_turn c op (turn_of (Some (Copy y)) c.store p m))
  copy_turn p m = by_sender p m (p == instance_node y.plan.from) (p == instance_node y.plan.to)

move_quiet : (mv : MoveState) (events : List FullCell) (p : ℕ) (m : Msg) → is_copied m ≡ true
    → move.row mv events p m ≡ move.keeps (move.next_phase mv.phase [])
move_quiet mv events p m e = by_if (λ r. r ≡ move.keeps (move.next_phase mv.phase [])) (p == move.source mv.plan) (from_source_quiet m e)
    (by_if (λ r. r ≡ move.keeps (move.next_phase mv.phase [])) (p == move.destination mv.plan) (from_destination_quiet m e) refl)
  where
    from_source_quiet : (a : Msg) → is_copied a ≡ true → move.from_source mv.plan mv.phase events a ≡ move.keeps (move.next_phase mv.phase [])
    from_source_quiet (Msg.Chunks op chunks) h = refl
    from_source_quiet (Msg.AllChunk op chunk) h = refl
    from_source_quiet (Msg.Kept op) h = refl
    from_source_quiet a h = cc

    from_destination_quiet : (a : Msg) → is_copied a ≡ true → move.from_destination mv.plan mv.phase events a ≡ move.keeps (move.next_phase mv.phase [])
    from_destination_quiet (Msg.Chunks op chunks) h = refl
    from_destination_quiet (Msg.AllChunk op chunk) h = refl
    from_destination_quiet (Msg.Kept op) h = refl
    from_destination_quiet a h = cc

pub move_idle : (c : ControllerState) (op : ℕ) (mv : MoveState) (p : ℕ) (m : Msg) → is_copied m ≡ true → move.answer_of mv.phase ≡ None
    → finite.get c.operations op ≡ Some (Move mv) → takes_turn c op (turn_of (Some (Move mv)) c.store p m) ≡ still c
move_idle c op mv p m e going there =
    ap (λ r. takes_turn c op (turn_of_move mv c.store r)) (move_quiet mv (stored_of c.store mv.plan.op) p m e)
    ∙ ap (λ a. after_turn c op (turn_of_move mv c.store (move.keeps (move.next_phase mv.phase []))) a) going
    ∙ ap (λ ops. still (record c { operations = ops })) (insert_same c.operations op (Move mv) there)
