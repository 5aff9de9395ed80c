-- Open operations: what the controller asks of one, and what a message of its number does to it. This project's own.
use Rattle.std.specs.Prelude.{ℕ, Bool, true, false, List, [], find, Option, None, Some, option_map}
use Rattle.std.specs.List.{list_all}
use Rattle.std.specs.Option.{option_map_or}
use Rattle.std.specs.Ordering.{nat_cmp}
use Rattle.std.specs.FinMap as finite
use Rattle.flow_filter.specs.declared.filter.Filter.{Filter}
use Rattle.flow_filter.specs.Filter.{matches, meets}
use Rattle.nf_msgs.specs.declared.answer.Answer.{Answer}
use Rattle.nf_msgs.specs.declared.msg.Msg.{Msg}
use Rattle.flow_filter.specs.declared.flow.Flow.{Flow}
use Rattle.event_store.specs.Store.{stored_of}
use Rattle.move_op.specs.Move.{MoveState, MoveRow, Store, row_in, store_after, answer_of}
use Rattle.copy_share.specs.Copy.{CopyState, CopyRow}
use Rattle.copy_share.specs.Copy as copy
use Rattle.copy_share.specs.Share.{ShareState, ShareRow, Served}
use Rattle.copy_share.specs.Share as share
use Rattle.ctrl_node.specs.declared.operation.Operation.{Operation}
use Rattle.ctrl_node.specs.declared.operation.Operation.TheVariants.{Move, Copy, Share}

-- the open operations by their numbers
abbrev pub OpenOperations : Type 0
OpenOperations = finite.FinMap nat_cmp Operation

-- the filter of what an operation works on; a copy of the all-flows state has none
abbrev pub filter_of : Operation → Option Filter
filter_of (Move m) = Some m.plan.filter
filter_of (Copy c) = c.plan.filter
filter_of (Share s) = Some s.plan.filter

-- whether an operation stays open when it is answered: a share does, and lasts to the end
abbrev pub lasts : Option Operation → Bool
lasts (Some (Share s)) = true
lasts operation = false

-- whether an operation needs nothing more to be done: a move or a copy does as long as it is open, a share until it is idle
abbrev pub is_quiet : Store → Operation → Bool
is_quiet store (Share s) = share.is_idle s.phase (stored_of store s.plan.op)
is_quiet store operation = false

abbrev pub are_quiet : OpenOperations → Store → Bool
are_quiet operations store = list_all (λ entry. is_quiet store entry.1) (finite.entries operations)

-- the filter of a share
abbrev pub share_filter : Operation → Option Filter
share_filter (Share s) = Some s.plan.filter
share_filter operation = None

-- whether an operation is a share whose filter matches a flow
abbrev pub is_shared_by : Flow → Operation → Bool
is_shared_by flow (Share s) = matches s.plan.filter flow
is_shared_by flow operation = false

-- the lowest number of such a share
abbrev pub share_of : OpenOperations → Flow → Option ℕ
share_of operations flow = option_map (λ entry. entry.0) (find (λ entry. is_shared_by flow entry.1) (finite.entries operations))

-- whether a filter meets that of an operation
abbrev pub meets_operation : Filter → Operation → Bool
meets_operation filter operation = option_map_or (meets filter) (filter_of operation) false

-- the lowest number of an operation whose filter meets this one
abbrev pub lowest_meeting : OpenOperations → Filter → Option ℕ
lowest_meeting operations filter = option_map (λ entry. entry.0) (find (λ entry. meets_operation filter entry.1) (finite.entries operations))

-- what a message does to an operation, if there is one: the operation and the store afterwards, what is sent, and the answer if it ends
pub record Turn : Type 0 where
  pub operation : Option Operation
  pub store : Store
  pub sends : List (ℕ × Msg)
  pub answer : Option Answer

abbrev pub turn_of_move : MoveState → Store → MoveRow → Turn
turn_of_move m store row = record {
  operation = Some (Move (record m { phase = row.next.phase }));
  store = store_after store m.plan.op row.stored;
  sends = row.next.sends;
  answer = answer_of row.next.phase;
}

abbrev pub turn_of_copy : CopyState → Store → CopyRow → Turn
turn_of_copy c store row = record {
  operation = Some (Copy (record c { phase = row.phase }));
  store = store;
  sends = row.sends;
  answer = copy.answer_of row.phase;
}

abbrev pub turn_of_share : ShareState → Store → ShareRow → Turn
turn_of_share s store row = record {
  operation = Some (Share (record s { phase = row.phase }));
  store = store;
  sends = row.sends;
  answer = row.answer;
}

-- nothing happens to an operation
abbrev pub idly : Store → Turn
idly store = record { operation = None; store = store; sends = []; answer = None }

abbrev pub turn_of : Option Operation → Store → ℕ → Msg → Turn
turn_of None store sender message = idly store
turn_of (Some (Move m)) store sender message = turn_of_move m store (row_in m store sender message)
turn_of (Some (Copy c)) store sender message = turn_of_copy c store (copy.row c sender message)
turn_of (Some (Share s)) store sender message = turn_of_share s store (share.row s sender message)

-- a share serves the next packet, if it may
abbrev pub turn_of_serving : ShareState → Store → Served → Turn
turn_of_serving s store next = record {
  operation = Some (Share (record s { phase = next.phase }));
  store = store_after store s.plan.op next.stored;
  sends = next.sends;
  answer = None;
}

abbrev pub serving_of : Option Operation → Store → Turn
serving_of (Some (Share s)) store = turn_of_serving s store (share.service_if_idle s.plan s.phase (stored_of store s.plan.op))
serving_of operation store = idly store

-- the operations, with one that has changed
abbrev pub with_operation : OpenOperations → ℕ → Option Operation → OpenOperations
with_operation operations op None = operations
with_operation operations op (Some operation) = finite.insert operations op operation
