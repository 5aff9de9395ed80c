-- How far a move has come. This project's own.
use Rattle.std.specs.Prelude.{Bool, List}
use Rattle.nf_msgs.specs.declared.answer.Answer.{Answer}
use Rattle.nf_msgs.specs.declared.msg.Piece.{Piece}
use Rattle.move_op.specs.declared.door.Door.{Door}
use Rattle.move_op.specs.declared.phase.Phase as code
use Rattle.move_op.specs.declared.phase.Phase.TheVariants as coded

-- The source is to hand out packets; it sends its state by pieces; the destination is to hold what comes; packets go there; what it held is
-- to be processed. After a refusal: the source is to take its state back; it is to hold what comes; what it held is to be processed.
-- Of the pieces some are to remove, since the source still has their records, and the others are removed. The pieces, and how a move ends, are
-- left open.
pub data PhaseOf (C O : Type 0) : Type 0 where
  Freezing : PhaseOf C O
  Streaming : (to_remove removed : List C) (came : Bool) (door : Door) → PhaseOf C O
  Holding : PhaseOf C O
  Passing : PhaseOf C O
  Ending : PhaseOf C O
  Restoring : (why : Answer) → PhaseOf C O
  Returning : (why : Answer) → PhaseOf C O
  Undoing : (why : Answer) → PhaseOf C O
  Over : (outcome : O) → PhaseOf C O

-- the phase of a move of pieces as they are sent, which ends with its answer
abbrev pub Phase : Type 0
Phase = PhaseOf Piece Answer

-- the phase that a value of the code's type says
abbrev pub phase_of : code.Phase → Phase
phase_of coded.Freezing = Freezing
phase_of (coded.Streaming s) = Streaming s.to_remove s.removed s.came s.door
phase_of coded.Holding = Holding
phase_of coded.Passing = Passing
phase_of coded.Ending = Ending
phase_of (coded.Restoring why) = Restoring why
phase_of (coded.Returning why) = Returning why
phase_of (coded.Undoing why) = Undoing why
phase_of (coded.Over answer) = Over answer
