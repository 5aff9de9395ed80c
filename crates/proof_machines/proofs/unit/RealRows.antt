-- What holds of all that the words of a move come to in the abstract network holds of its row on any message.
use Rattle.proof_machines.proofs.unit.Words.{ℕ, Bool, Option, List, Each, Answer}
use Rattle.proof_machines.proofs.unit.Real.{MovePiece, MoveMsg, MovePhase, Op, OperationTurn, operation_words, put_back, operation_from_source}
use Rattle.proof_machines.proofs.unit.Real.{operation_from_destination}
use Rattle.proof_machines.proofs.unit.TableRows.{PhaseHas, Hold, stays, event_holds, source_enabled_holds, piece_holds, deleted_holds, restored_holds}
use Rattle.proof_machines.proofs.unit.TableRows.{source_fenced_holds, put_ok_holds, put_no_holds, destination_enabled_holds, destination_fenced_holds}

-- what a message of the source brings, and one of the destination
abbrev pub Brings : {R : Type 0} → (ℕ → Type 0) → (MovePiece R → Type 0) → MoveMsg R → Type 0
Brings Is Fits (MoveMsg.Event n p) = Is p
Brings Is Fits (MoveMsg.Piece n p) = Fits p
Brings Is Fits m = Unit {0}

abbrev pub BringsBack : {R : Type 0} → (MovePiece R → Type 0) → (Answer → Type 0) → MoveMsg R → Type 0
BringsBack Fits Why (MoveMsg.Put_no n why cs) = Why why × ((last : Bool) → Fits (put_back cs last))
BringsBack Fits Why m = Unit {0}

module _ {R : Type 0} {o : Op} {f : List ℕ} {Is : ℕ → Type 0} {Fits : MovePiece R → Type 0} {Why : Answer → Type 0} {End : Option Answer → Type 0}
    {Gives : OperationTurn R → Type 0} (h : Hold (operation_words o f) Is Fits Why End Gives Gives) (all : Each Is f) (ph : MovePhase R)
    (has : PhaseHas Fits Why End ph) where
  pub from_source_holds : (m : MoveMsg R) → Brings Is Fits m → Gives (operation_from_source o ph f m)
  from_source_holds (MoveMsg.Event n p) is = event_holds h f all p is ph has
  from_source_holds (MoveMsg.Enabled n) is = source_enabled_holds h f all ph has
  from_source_holds (MoveMsg.Piece n p) is = piece_holds h p is ph has
  from_source_holds (MoveMsg.Deleted n) is = deleted_holds h ph has
  from_source_holds (MoveMsg.Restored n) is = restored_holds h ph has
  from_source_holds (MoveMsg.Fenced n) is = source_fenced_holds h ph has
  from_source_holds m is = stays h ph has

  pub from_destination_holds : (m : MoveMsg R) → BringsBack Fits Why m → Gives (operation_from_destination o ph f m)
  from_destination_holds (MoveMsg.Put_ok n) is = put_ok_holds h f all ph has
  from_destination_holds (MoveMsg.Put_no n why cs) is = put_no_holds h why (put_back cs) is.0 is.1 ph has
  from_destination_holds (MoveMsg.Enabled n) is = destination_enabled_holds h f all ph has
  from_destination_holds (MoveMsg.Fenced n) is = destination_fenced_holds h ph has
  from_destination_holds m is = stays h ph has
