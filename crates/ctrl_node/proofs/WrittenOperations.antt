-- An operation that took a message or served a packet where it stands is the one that the map then has, and lasts as before.
use Rattle.std.proofs.Common.{◌≡◌, ℕ, Option, None, Some, refl, ap, ◌∙◌}
use Rattle.std.proofs.lemmas.Option.{same_Some}
use Rattle.std.specs.FinMap as finite
use Rattle.std.specs.Option.{option_or}
use Rattle.nf_msgs.specs.declared.msg.Msg.{Msg}
use Rattle.move_op.specs.Move.{Store}
use Rattle.ctrl_node.specs.declared.operation.Operation.{Operation}
use Rattle.ctrl_node.specs.declared.operation.Operation.TheVariants.{Move, Copy, Share}
use Rattle.ctrl_node.specs.Operations.{OpenOperations, lasts, turn_of, with_operation}
use Rattle.ctrl_node.proofs.OperationLookUps.{found_again, written_again}

-- an operation that becomes what a step says, or stays where it says nothing
pub written : (operations : OpenOperations) (op : ℕ) (was now : Operation) (step : Option Operation) → finite.get operations op ≡ Some was
    → Some now ≡ option_or step (Some was) → finite.insert operations op now ≡ with_operation operations op step
written operations op was now None found same = ap (finite.insert operations op) (same_Some now was same) ∙ written_again operations op was found
written operations op was now (Some next) found same = ap (finite.insert operations op) (same_Some now next same)

-- one that becomes what a step says
pub written_step : (operations : OpenOperations) (op : ℕ) (now : Operation) (step : Option Operation) → Some now ≡ step
    → finite.insert operations op now ≡ with_operation operations op step
written_step operations op now None same = cc
written_step operations op now (Some next) same = ap (finite.insert operations op) (same_Some now next same)

lasts_case : (operations : OpenOperations) (op : ℕ) (store : Store) (sender : ℕ) (message : Msg) → (o : Option Operation) → finite.get operations op ≡ o
    → lasts (finite.get (with_operation operations op (turn_of o store sender message).operation) op) ≡ lasts (turn_of o store sender message).operation
lasts_case operations op store sender message None found = ap lasts found
lasts_case operations op store sender message (Some (Move m)) found = ap lasts (found_again operations op _)
lasts_case operations op store sender message (Some (Copy c)) found = ap lasts (found_again operations op _)
lasts_case operations op store sender message (Some (Share s)) found = ap lasts (found_again operations op _)

-- whether an operation that has taken a message lasts is asked of what is then open
pub lasts_after : (operations : OpenOperations) (op : ℕ) (store : Store) (sender : ℕ) (message : Msg)
    → lasts (finite.get (with_operation operations op (turn_of (finite.get operations op) store sender message).operation) op)
    ≡ lasts (turn_of (finite.get operations op) store sender message).operation
lasts_after operations op store sender message = lasts_case operations op store sender message (finite.get operations op) refl
