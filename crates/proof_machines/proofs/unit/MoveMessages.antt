-- The messages of a move in the abstract network: each bears the move's number, and chunks are units with their records.
use Rattle.std.proofs.Common.{ℕ, Bool, List}
use Rattle.nf_function.specs.declared.unit.Unit.{Unit}
use Rattle.nf_msgs.specs.declared.answer.Answer.{Answer}
use Rattle.proof_machines.proofs.unit.Machine.{Rule}

-- chunks mean units with their records
abbrev pub Chunks : Type 0 → Type 0
Chunks R = List (Unit × R)

pub record MovePiece (R : Type 0) : Type 0 where
  pub chunks : Chunks R
  pub total : ℕ
  pub newest : ℕ
  pub last : Bool

pub data MoveMsg (R : Type 0) : Type 0 where
  Enable : ℕ → Rule → MoveMsg R
  Stream : ℕ → MoveMsg R
  Delete : ℕ → List Unit → MoveMsg R
  Put : ℕ → MovePiece R → Bool → MoveMsg R
  Restore : ℕ → Chunks R → MoveMsg R
  Enabled : ℕ → MoveMsg R
  Event : ℕ → ℕ → MoveMsg R
  Piece : ℕ → MovePiece R → MoveMsg R
  Deleted : ℕ → MoveMsg R
  Put_ok : ℕ → MoveMsg R
  Put_no : ℕ → Answer → Chunks R → MoveMsg R
  Restored : ℕ → MoveMsg R
  Fenced : ℕ → MoveMsg R
  Forward : ℕ → ℕ → MoveMsg R
  Install : ℕ → ℕ → ℕ → MoveMsg R
  Fence_to : ℕ → ℕ → MoveMsg R
