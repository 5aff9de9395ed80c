-- What the controller does where an operation has taken a message and answers: it is closed, but for one that lasts.
use Rattle.std.proofs.Common.{◌≡◌, ℕ, Bool, cond, List, [], ◌∷◌, ◌++◌, Some, sym, ap, ◌∙◌, append_assoc}
use Rattle.std.specs.FinMap as finite
use Rattle.nf_msgs.specs.declared.answer.Answer.{Answer}
use Rattle.nf_msgs.specs.declared.msg.Msg.{Msg}
use Rattle.nf_msgs.specs.declared.msg.Msg.TheVariants.{Answered}
use Rattle.nf_msgs.specs.declared.note.Note.TheVariants as note
use Rattle.nf_msgs.specs.Nodes.{switch_node}
use Rattle.move_op.specs.Move.{Store}
use Rattle.ctrl_node.specs.Operations.{OpenOperations, Turn, lasts, turn_of, with_operation}
use Rattle.ctrl_node.specs.Controller.{ControllerState, Step, after_turn, takes_turn, with_turn, without_operation}
use Rattle.ctrl_node.proofs.WrittenOperations.{lasts_after}

-- the step of an operation that answers, and lasts or not
abbrev pub answered_as : ControllerState → ℕ → Turn → Answer → Bool → Step
answered_as s op turn answer lasts = record {
  node = cond lasts (with_turn s op turn) (without_operation (with_turn s op turn) op);
  sends = turn.sends ++ (switch_node, Answered op) ∷ [];
  notes = note.Answered op answer ∷ [];
}

pub answered : (s : ControllerState) (op port : ℕ) (message : Msg) (answer : Answer)
    → (turn_of (finite.get s.operations op) s.store port message).answer ≡ Some answer
    → takes_turn s op (turn_of (finite.get s.operations op) s.store port message)
    ≡ answered_as s op (turn_of (finite.get s.operations op) s.store port message) answer
    (lasts (finite.get (with_turn s op (turn_of (finite.get s.operations op) s.store port message)).operations op))
answered s op port message answer e =
    let turn = turn_of (finite.get s.operations op) s.store port message in
    ap (after_turn s op turn) e ∙ ap (answered_as s op turn answer) (sym (lasts_after s.operations op s.store port message))

-- the controller afterwards, by what the operations and the store then are
pub node_of : (s after : ControllerState) (op port : ℕ) (message : Msg) (answer : Answer) (operations : OpenOperations) (store : Store)
    → operations ≡ with_operation s.operations op (turn_of (finite.get s.operations op) s.store port message).operation
    → store ≡ (turn_of (finite.get s.operations op) s.store port message).store
    → (turn_of (finite.get s.operations op) s.store port message).answer ≡ Some answer
    → after ≡ cond (lasts (finite.get operations op)) (record s { operations = operations; store = store })
    (without_operation (record s { operations = operations; store = store }) op)
    → after ≡ (takes_turn s op (turn_of (finite.get s.operations op) s.store port message)).node
node_of s after op port message answer operations store changed kept some is =
    let turn = turn_of (finite.get s.operations op) s.store port message in
    is
    ∙ ap (λ o. cond (lasts (finite.get o op)) (record s { operations = o; store = store })
    (without_operation (record s { operations = o; store = store }) op)) changed
    ∙ ap (λ st. cond (lasts (finite.get (with_operation s.operations op turn.operation) op))
    (record s { operations = with_operation s.operations op turn.operation; store = st })
    (without_operation (record s { operations = with_operation s.operations op turn.operation; store = st }) op)) kept
    ∙ sym (ap (λ step. step.node) (answered s op port message answer some))

-- what it sends: what the operation sent, and the answer
pub sends_of : (s : ControllerState) (op port : ℕ) (message : Msg) (answer : Answer) (before between after : List (ℕ × Msg))
    → (turn_of (finite.get s.operations op) s.store port message).answer ≡ Some answer
    → between ≡ before ++ (turn_of (finite.get s.operations op) s.store port message).sends
    → after ≡ between ++ (switch_node, Answered op) ∷ []
    → after ≡ before ++ (takes_turn s op (turn_of (finite.get s.operations op) s.store port message)).sends
sends_of s op port message answer before between after some first last =
    let turn = turn_of (finite.get s.operations op) s.store port message in
    last ∙ ap (λ xs. xs ++ (switch_node, Answered op) ∷ []) first ∙ append_assoc before turn.sends ((switch_node, Answered op) ∷ [])
    ∙ ap (λ xs. before ++ xs) (sym (ap (λ step. step.sends) (answered s op port message answer some)))
