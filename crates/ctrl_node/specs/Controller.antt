-- The controller: what it holds, and what it does with each message. This project's own.
use Rattle.std.specs.Prelude.{ℕ, ◌-◌, ◌==◌, ◌&&◌, nat_lt, nat_le, Bool, true, false, not, List, [], ◌∷◌, ◌++◌, map, find}
use Rattle.std.specs.Prelude.{length, is_some, slice_set, Option, None, Some, option_map, option_and_then, if◌then◌else◌}
use Rattle.std.specs.List.{filter_map, list_all}
use Rattle.std.specs.Option.{option_or}
use Rattle.std.specs.FinMap as finite
use Rattle.flow_filter.specs.declared.site.Site.{Site}
use Rattle.flow_filter.specs.declared.filter.Filter.{Filter}
use Rattle.flow_filter.specs.Flow.{flow_of}
use Rattle.flow_filter.specs.Name.{place_of}
use Rattle.event_store.specs.Store.{stored_of, with_parcels}
use Rattle.event_filter.specs.declared.mark.Mark.TheVariants.{Pass}
use Rattle.packet_pool.specs.Pool.{FullCell}
use Rattle.nf_msgs.specs.declared.answer.Answer.{Answer}
use Rattle.nf_msgs.specs.declared.answer.Answer.TheVariants.{Unknown, Overlap}
use Rattle.nf_msgs.specs.declared.command.Command.{Command}
use Rattle.nf_msgs.specs.declared.command.Order.{Order}
use Rattle.nf_msgs.specs.declared.command.Order.TheVariants as order
use Rattle.nf_msgs.specs.declared.msg.Msg.{Msg}
use Rattle.nf_msgs.specs.declared.msg.Msg.TheVariants.{Asked, Diverted, End, Event, Final, Forward, Answered, Finish}
use Rattle.nf_msgs.specs.declared.note.Note.{Note}
use Rattle.nf_msgs.specs.declared.note.Note.TheVariants as note
use Rattle.nf_msgs.specs.MessageParts.{op_of}
use Rattle.nf_msgs.specs.Nodes.{switch_node, instance_node}
use Rattle.nf_msgs.specs.Orders.{order_names, order_filter}
use Rattle.move_op.specs.Move.{MovePlan, Store, move_at_start, begin_sends}
use Rattle.copy_share.specs.Copy.{CopyPlan}
use Rattle.copy_share.specs.Copy as copy
use Rattle.copy_share.specs.Share.{SharePlan}
use Rattle.copy_share.specs.Share as share
use Rattle.ctrl_node.specs.declared.operation.Operation.{Operation}
use Rattle.ctrl_node.specs.declared.operation.Operation.TheVariants.{Move, Copy, Share}
use Rattle.ctrl_node.specs.Operations.{OpenOperations, Turn, turn_of, serving_of, with_operation, lowest_meeting, lasts, share_of, are_quiet}
use Rattle.actor_net.specs.Network.{Stepped}

-- what the controller holds: the instances' names, the site, the open operations, the parcels that they have stored, whether the
-- input has ended, whether all was told to finish, and of each instance whether it has stopped
pub record ControllerState : Type 0 where
  pub names : List (List ℕ)
  pub site : Site
  pub operations : OpenOperations
  pub store : Store
  pub end_came : Bool
  pub finish_sent : Bool
  pub stopped : List Bool

-- a step of the controller
abbrev pub Step : Type 0
Step = Stepped ControllerState Msg Note

-- a controller that was told nothing yet
abbrev pub controller_at_start : List (List ℕ) → Site → ControllerState
controller_at_start names site = record {
  names = names;
  site = site;
  operations = finite.empty;
  store = finite.empty;
  end_came = false;
  finish_sent = false;
  stopped = map (λ name. false) names;
}

-- the controller stays as it is, and sends nothing
abbrev pub still : ControllerState → Step
still s = record { node = s; sends = []; notes = [] }

-- the number of the instance that a port is of
abbrev pub instance_at : ControllerState → ℕ → Option ℕ
instance_at s port = if nat_le (instance_node 0) port && nat_lt (port - instance_node 0) (length s.names) then Some (port - instance_node 0) else None

-- the first name in an order that none of these is
abbrev pub unknown_in : List (List ℕ) → Order → Option (List ℕ)
unknown_in names what = find (λ name. not (is_some (place_of names name))) (order_names what)

abbrev pub unknown_name : ControllerState → Order → Option (List ℕ)
unknown_name s what = unknown_in s.names what

-- the lowest number of an open operation that the order's filter meets
abbrev pub overlap : ControllerState → Order → Option ℕ
overlap s what = option_and_then (lowest_meeting s.operations) (order_filter what)

-- the cause for which an order is refused: names come first
abbrev pub refusal : ControllerState → Order → Option Answer
refusal s what = option_or (option_map Unknown (unknown_name s what)) (option_map Overlap (overlap s what))

-- a command is answered
abbrev pub answers : ControllerState → ℕ → Answer → Step
answers s op answer = record { node = s; sends = (switch_node, Answered op) ∷ []; notes = note.Answered op answer ∷ [] }

-- an operation begins, and sends this
abbrev pub opening_step : ControllerState → ℕ → Operation → List (ℕ × Msg) → Step
opening_step s op operation sends = record {
  node = record s { operations = finite.insert s.operations op operation };
  sends = sends;
  notes = note.Begun op ∷ [];
}

abbrev pub move_begin : ControllerState → MovePlan → Step
move_begin s plan = opening_step s plan.op (Move (move_at_start plan)) (begin_sends plan)

abbrev pub move_between : ControllerState → ℕ → Filter → Bool → Option ℕ → Option ℕ → Step
move_between s op filter keep (Some from) (Some to) =
    move_begin s (record { op = op; from = from; to = to; filter = filter; keep = keep })
move_between s op filter keep from to = still s

abbrev pub copy_begin : ControllerState → CopyPlan → Step
copy_begin s plan = opening_step s plan.op (Copy (copy.copy_at_start plan)) (copy.begin_sends plan)

abbrev pub copy_between : ControllerState → ℕ → Option Filter → Option ℕ → Option ℕ → Step
copy_between s op filter (Some from) (Some to) =
    copy_begin s (record { op = op; from = from; to = to; filter = filter })
copy_between s op filter from to = still s

-- a share begins, if it has members
abbrev pub share_begin : ControllerState → ℕ → Filter → List ℕ → Step
share_begin s op filter [] = still s
share_begin s op filter (home ∷ others) =
    let plan : SharePlan = record { op = op; members = home ∷ others; filter = filter; site = s.site } in
    opening_step s op (Share (share.share_at_start plan)) (share.begin_sends plan)

-- an operation begins, between the instances with the order's names
abbrev pub begin_step : ControllerState → ℕ → Order → Step
begin_step s op (order.Move source destination filter keep) =
    move_between s op filter keep (place_of s.names source) (place_of s.names destination)
begin_step s op (order.Copy source destination filter) =
    copy_between s op filter (place_of s.names source) (place_of s.names destination)
begin_step s op (order.Share members filter) = share_begin s op filter (filter_map (place_of s.names) members)

-- an order is refused, or begins
abbrev pub decision_step : ControllerState → ℕ → Order → Option Answer → Step
decision_step s op what (Some answer) = answers s op answer
decision_step s op what None = begin_step s op what

-- a command; its number is that of no open operation
abbrev pub on_asked : ControllerState → Command → Step
on_asked s command =
    if finite.contains_key s.operations command.op then still s
    else decision_step s command.op command.what (refusal s command.what)

-- an operation has taken a message
abbrev pub with_turn : ControllerState → ℕ → Turn → ControllerState
with_turn s op turn = record s { operations = with_operation s.operations op turn.operation; store = turn.store }

-- an operation is closed
abbrev pub without_operation : ControllerState → ℕ → ControllerState
without_operation s op = record s { operations = finite.remove s.operations op }

-- an operation that is answered is closed, if it doesn't last
abbrev pub after_answer : ControllerState → ℕ → Turn → ControllerState
after_answer s op turn = if lasts turn.operation then with_turn s op turn else without_operation (with_turn s op turn) op

-- an operation has taken a message, and is answered where it is then over, or a share set up
abbrev pub after_turn : ControllerState → ℕ → Turn → Option Answer → Step
after_turn s op turn None = record { node = with_turn s op turn; sends = turn.sends; notes = [] }
after_turn s op turn (Some answer) = record {
  node = after_answer s op turn;
  sends = turn.sends ++ (switch_node, Answered op) ∷ [];
  notes = note.Answered op answer ∷ [];
}

abbrev pub takes_turn : ControllerState → ℕ → Turn → Step
takes_turn s op turn = after_turn s op turn turn.answer

-- a share serves the next packet, if it may
abbrev pub serve_step : ControllerState → ℕ → Step
serve_step s op = let turn = serving_of (finite.get s.operations op) s.store in
    record { node = with_turn s op turn; sends = turn.sends; notes = [] }

-- the same after a step
abbrev pub and_serves : Step → ℕ → Step
and_serves step op = record {
  node = (serve_step step.node op).node;
  sends = step.sends ++ (serve_step step.node op).sends;
  notes = step.notes;
}

-- a message of an operation's number
abbrev pub hand_step : ControllerState → ℕ → ℕ → Msg → Step
hand_step s op port message = and_serves (takes_turn s op (turn_of (finite.get s.operations op) s.store port message)) op

-- a packet whose target is the controller waits for its share
abbrev pub queue_step : ControllerState → FullCell → Option ℕ → Step
queue_step s cell None = still s
queue_step s cell (Some op) = serve_step (record s { store = with_parcels s.store op (stored_of s.store op ++ cell ∷ []) }) op

abbrev pub on_diverted : ControllerState → FullCell → Step
on_diverted s cell = queue_step s cell (share_of s.operations (flow_of s.site cell.packet).0)

abbrev pub numbered : ControllerState → ℕ → Msg → Option ℕ → Step
numbered s port message None = still s
numbered s port message (Some op) = hand_step s op port message

-- an event of an instance: one of an operation that isn't open goes back to it
abbrev pub on_event : ControllerState → ℕ → ℕ → FullCell → Option ℕ → Step
on_event s port op parcel None = still s
on_event s port op parcel (Some instance) =
    if finite.contains_key s.operations op then hand_step s op port (Event op parcel)
    else record { node = s; sends = (switch_node, Forward instance (Pass op) parcel) ∷ []; notes = [] }

-- an instance has stopped
abbrev pub on_final : ControllerState → Option ℕ → Step
on_final s None = still s
on_final s (Some instance) = still (record s { stopped = slice_set s.stopped instance true })

-- the table of the controller but for the end. What it doesn't name comes in no run
abbrev pub row : ControllerState → ℕ → Msg → Step
row s port (Asked command) = if port == switch_node then on_asked s command else still s
row s port (Diverted cell) = if port == switch_node then on_diverted s cell else still s
row s port End = if port == switch_node then still (record s { end_came = true }) else still s
row s port (Event op parcel) = on_event s port op parcel (instance_at s port)
row s port Final = on_final s (instance_at s port)
row s port message = numbered s port message (op_of message)

-- whether nothing is left to be done, and this wasn't told yet
abbrev pub may_finish : ControllerState → Bool
may_finish s = s.end_came && not s.finish_sent && are_quiet s.operations s.store

-- the finish, once
abbrev pub finish_of : ControllerState → List (ℕ × Msg)
finish_of s = if may_finish s then (switch_node, Finish) ∷ [] else []

abbrev pub with_finish : ControllerState → ControllerState
with_finish s = if may_finish s then record s { finish_sent = true } else s

-- a step, and the finish after all else
abbrev pub step_and_finish : Step → Step
step_and_finish step = record { node = with_finish step.node; sends = step.sends ++ finish_of step.node; notes = step.notes }

-- the table of the controller
abbrev pub controller_step : ControllerState → ℕ → Msg → Step
controller_step s port message = step_and_finish (row s port message)

-- whether each instance has stopped
abbrev pub all_stopped : ControllerState → Bool
all_stopped s = list_all (λ it. it) s.stopped
